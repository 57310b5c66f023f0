use Rattle.std.proofs.Common.{◌≡◌, ◌∙◌, ◌∷◌, [], true, false, inl, inr, sym, subst}
use Rattle.fb_values.specs.declared.facts.Datom.{Datom}
use Rattle.live_runs.specs.Members.{datom_of}
use Rattle.live_runs.specs.Runs.{runs_datoms}
use Rattle.live_index.specs.Ending.{withdraws}
use Rattle.live_index.proofs.Growing.{both_ok}
use Rattle.live_index.proofs.Members.{contains-cons, contains_none}
use Rattle.live_index.proofs.Retractions.{retracted-kept}
use Rattle.live_index.proofs.retracting.Pair.with_change.Goals as goal

pub returns-then-is_withdrawn-clause-retracted : goal.returns-then-is_withdrawn-clause-retracted
returns-then-is_withdrawn-clause-retracted c =
    let is : withdraws c.args.covers.now c.args.order (datom_of c.args.table.now c.args.number) ≡ true =
    sym c.is_withdrawn.ensures ∙ c.if-is_withdrawn.true in
    both_ok c.with_retraction.result _ _ _ (λ new retracted also. retracted c.args.covers.now is)
    c.with_retraction.ensures.retracted c.with_retraction.ensures.retracted

pub returns-else-is_withdrawn-clause-retracted : goal.returns-else-is_withdrawn-clause-retracted
returns-else-is_withdrawn-clause-retracted c =
    let d = datom_of c.args.table.now c.args.number in
    let is : withdraws c.args.covers.now c.args.order d ≡ false = sym c.is_withdrawn.ensures ∙ c.if-is_withdrawn.false in
    retracted-kept c.args.order c.args.covers.now (runs_datoms c.args.order c.args.table.now c.args.self.holding)
    (runs_datoms c.args.order c.args.table.now c.args.self.past) (d ∷ [])
    (λ x there. elim (contains-cons d [] x there) [
      | inl same ↦ subst (λ (y : Datom). withdraws c.args.covers.now c.args.order y ≡ false) same is
      | inr none ↦ absurd (contains_none x none)
    ])
