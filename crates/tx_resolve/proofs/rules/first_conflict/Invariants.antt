use Rattle.std.proofs.Common.{◌≡◌, map, drop}
use Rattle.std.specs.List.{list_any}
use Rattle.tx_model.specs.Step.{first_yes}
use Rattle.tx_resolve.specs.Breaks.{gives_one_of_two, first_form}
use Rattle.tx_resolve.proofs.rules.first_conflict.Given as goal

abbrev pub invariant-loop-drafts : goal.invariant-loop-drafts
invariant-loop-drafts l = record {
  counted : l.place ≡ l.drafts-index;
  first : first_yes l.place (map (λ form. list_any (gives_one_of_two l.slots) form.items) (drop l.drafts-index l.forms))
      ≡ first_form (gives_one_of_two l.slots) l.forms;
}
