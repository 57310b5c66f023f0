use Rattle.std.proofs.Common.{drop}
use Rattle.edn_model.specs.Form as edn
use Rattle.edn_form.specs.View.{forms_of, pairs_of, members, entries}
use Rattle.tx_expand.specs.declared.raw.Out.{Out}
use Rattle.tx_expand.specs.View.{model_name, model_link}
use Rattle.tx_expand.specs.Known.{AreLookedUp}
use Rattle.tx_expand.specs.Numbered.{walk_map, walk_members}
use Rattle.tx_expand.specs.Walks.{Walks}
use Rattle.tx_expand.proofs.walk.+walk.Given as goal

-- whatever tells the rest, tells the whole
abbrev pub invariant-map_asks-loop-key : goal.invariant-map_asks-loop-key
invariant-map_asks-loop-key l =
    record {
      rest : (new : Out)
          → Walks l.out new
          (λ all. walk_map l.schema (model_name all l.this) l.out.next (edn.pairs (pairs_of (drop l.key-index (entries l.pairs)))))
          → Walks l.fn.out new (λ all. walk_map l.schema (model_name all l.this) l.fn.out.next (edn.pairs (pairs_of (entries l.pairs))));
      known : AreLookedUp l.schema l.out;
    }

abbrev pub invariant-members_asks-loop-f : goal.invariant-members_asks-loop-f
invariant-members_asks-loop-f l =
    record {
      rest : (new : Out)
          → Walks l.out new (λ all. walk_members l.schema (model_name all l.this) (model_link l.key) l.out.next
          (edn.forms (forms_of (drop l.f-index (members l.items)))))
          → Walks l.fn.out new
          (λ all. walk_members l.schema (model_name all l.this) (model_link l.key) l.fn.out.next (edn.forms (forms_of (members l.items))));
      known : AreLookedUp l.schema l.out;
    }
