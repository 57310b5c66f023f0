use Rattle.std.proofs.Common.{◌≡◌, map, drop}
use Rattle.std.specs.List.{list_any}
use Rattle.tx_model.specs.Step.{first_yes}
use Rattle.tx_resolve.specs.Breaks.{uses_one_of_none, first_form}
use Rattle.tx_resolve.proofs.rules.first_of_none.Given as goal

abbrev pub invariant-loop-drafts : goal.invariant-loop-drafts
invariant-loop-drafts l = record {
  counted : l.place ≡ l.drafts-index;
  first : first_yes l.place (map (λ form. list_any (uses_one_of_none l.slots) form.items) (drop l.drafts-index l.forms))
      ≡ first_form (uses_one_of_none l.slots) l.forms;
}
