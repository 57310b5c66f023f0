use Rattle.std.proofs.Common.{inl, inr, sym, subst, List, ◌∷◌, [], arith}
use Rattle.fb_values.specs.declared.facts.Datom.{Datom}
use Rattle.live_runs.specs.Members.{datom_of}
use Rattle.live_runs.specs.Runs.{runs_datoms}
use Rattle.live_index.specs.Ending.{IsRetracted}
use Rattle.live_index.proofs.Retractions.{retracted-one}
use Rattle.live_index.proofs.Runs.{runs_rise, runs_within}
use Rattle.live_index.proofs.Spans.{number_in}
use Rattle.live_index.proofs.Taking.{one_if_equal}
use Rattle.live_index.proofs.Together.{of_itself}
use Rattle.live_index.proofs.retracting.Pair.with_retraction.Goals as goal

pub add-requires-clause-fresh : goal.add-requires-clause-fresh
add-requires-clause-fresh c = λ gone.
    let d = datom_of c.args.table.now c.args.number in
    elim ((c.in_ok-holding.ensures.ended.gone_is d).0 gone) [
      | inl was ↦ c.requires.may.fresh was
      | inr fact ↦ let early = c.requires.may.earlier d fact.0 (of_itself d) in omega arith
    ]

pub returns-clause-retracted : goal.returns-clause-retracted
returns-clause-retracted c = λ coverage takes.
    let order = c.args.order in
    let table = c.args.table.now in
    let d = datom_of table c.args.number in
    let pair = c.in_ok-holding.field-0 in
    let gone = runs_datoms order table pair.past in
    subst (λ (l : List Datom). IsRetracted order coverage (runs_datoms order table c.args.self.holding)
    (runs_datoms order table c.args.self.past) (d ∷ []) (runs_datoms order table pair.holding) l) (sym c.in_ok-past.ensures.datoms)
    (retracted-one order coverage (runs_datoms order table c.args.self.holding) (runs_datoms order table c.args.self.past)
    (runs_datoms order table pair.holding) gone d takes c.in_ok-holding.ensures.ended (runs_rise order table pair.past c.in_ok-holding.ensures.past)
    (one_if_equal order table d gone c.in_ok-holding.ensures.past.single (number_in table c.args.number c.requires.within)
    (runs_within order table pair.past c.in_ok-holding.ensures.past)))
