use Rattle.std.proofs.Common.{ℕ, List, drop}
use Rattle.edn_model.specs.Form as model
use Rattle.edn_model.specs.Canon.{CanonAll, CanonPairs}
use Rattle.edn_form.specs.View.{forms_of, pairs_of}
use Rattle.edn_print.specs.Printed.{Appends, KeepsFront}
use Rattle.edn_print.specs.Printable.{printables, printable_pairs}
use Rattle.edn_print.proofs.Writing.{CanonFrom, CanonPairsFrom}
use Rattle.edn_print.proofs.form.+print.Given as goal

-- whatever ends the members well from here ends them well from the first on
abbrev pub invariant-print_items-loop-index : goal.invariant-print_items-loop-index
invariant-print_items-loop-index l =
    record {
      text : (end : List ℕ) → Appends (CanonFrom l.index (printables (model.forms (forms_of (drop l.index l.items))))) l.out.items end
          → Appends (CanonAll (printables (model.forms (forms_of l.items)))) l.initial.out.items end;
      kept : KeepsFront l.fn.out.items l.out.items;
    }

abbrev pub invariant-print_pairs-loop-index : goal.invariant-print_pairs-loop-index
invariant-print_pairs-loop-index l =
    record {
      text : (end : List ℕ)
          → Appends (CanonPairsFrom l.index (printable_pairs (model.pairs (pairs_of (drop l.index l.pairs))))) l.out.items end
          → Appends (CanonPairs (printable_pairs (model.pairs (pairs_of l.pairs)))) l.initial.out.items end;
      kept : KeepsFront l.fn.out.items l.out.items;
    }
