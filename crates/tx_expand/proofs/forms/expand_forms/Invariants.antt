use Rattle.std.proofs.Common.{◌≡◌, List, ◌++◌, drop, map}
use Rattle.std.specs.Prelude.{filter}
use Rattle.std.specs.List.{All}
use Rattle.tx_forms.specs.Parts.{parts_of}
use Rattle.tx_asks.specs.declared.asks.LookupRef.{LookupRef}
use Rattle.tx_asks.specs.Asks.{IsTyped}
use Rattle.tx_expand.specs.Numbered.{walk_forms, next_behind}
use Rattle.tx_expand.specs.View.{BeginWith}
use Rattle.tx_expand.specs.Faults.{ref_faults, ask_read, is_kept}
use Rattle.tx_expand.specs.Rules.{first_unknown, firsts_from, earlier_ones}
use Rattle.tx_expand.proofs.forms.expand_forms.Given as goal

abbrev pub invariant-loop-form : goal.invariant-loop-form
invariant-loop-form l =
    record {
      place_is : l.place ≡ l.form-index;
      known : first_unknown l.schema l.place (walk_forms l.schema l.out.next (map parts_of (drop l.form-index l.forms)))
          ≡ first_unknown l.schema 0 (walk_forms l.schema 0 (map parts_of l.forms));
      firsts_are :
          earlier_ones l.firsts
          (firsts_from l.schema l.place (walk_forms l.schema l.out.next (map parts_of (drop l.form-index l.forms))))
          ≡ firsts_from l.schema 0 (walk_forms l.schema 0 (map parts_of l.forms));
      asks : (all : List LookupRef) → BeginWith l.out.lookups.items all
          → map (λ form. map (ask_read all) form.items) l.expanded.items
          ++ map (filter (is_kept l.schema)) (walk_forms l.schema l.out.next (map parts_of (drop l.form-index l.forms)))
          ≡ map (filter (is_kept l.schema)) (walk_forms l.schema 0 (map parts_of l.forms));
      read : All (λ form. All (IsTyped l.schema) form.items) l.expanded.items;
      judged : l.judged.items ≡ map (ref_faults l.schema) l.out.lookups.items;
      next : next_behind l.schema l.out.next (map parts_of (drop l.form-index l.forms)) ≡ next_behind l.schema 0 (map parts_of l.forms);
    }
