use Rattle.std.proofs.Common.{◌≡◌, ◌∙◌, List, sym, ap, subst}
use Rattle.std.specs.Prelude.{Contains}
use Rattle.std.proofs.lemmas.Option.{get_or_from_slice_get}
use Rattle.fb_values.specs.declared.facts.Datom.{Datom}
use Rattle.fb_model.specs.Rising.{put_in_order}
use Rattle.live_runs.specs.Changed.{without}
use Rattle.live_runs.specs.Members.{datom_of, nothing}
use Rattle.live_runs.specs.Runs.{runs_datoms}
use Rattle.live_index.specs.Ending.{IsEnded, is_mate}
use Rattle.live_index.proofs.Growing.{both_ok}
use Rattle.live_index.proofs.Retractions.{ended-moved, ended-none}
use Rattle.live_index.proofs.Runs.{runs_rise, runs_within}
use Rattle.live_index.proofs.Spans.{number_in}
use Rattle.live_index.proofs.Taking.{one_if_equal}
use Rattle.live_index.proofs.retracting.Pair.ended.Goals as goal

pub returns-in-None-clause-ended : goal.returns-in-None-clause-ended
returns-in-None-clause-ended c =
    let table = c.args.table.now in
    let read : datom_of table c.args.number ≡ c.at.result.now = get_or_from_slice_get table c.args.number c.at.result.now nothing c.at.ensures in
    ended-none (datom_of table c.args.number) (runs_datoms c.args.order table c.args.self.holding)
    (runs_datoms c.args.order table c.args.self.past)
    (λ x there. ap (λ (d : Datom). is_mate d x) read ∙ c.in-None.ensures x there)

pub moved-requires-clause-fresh : goal.moved-requires-clause-fresh
moved-requires-clause-fresh c = λ was. c.requires.may.apart (datom_of c.args.table.now c.in-Some.fact) c.in-Some.ensures.1.0 was

pub returns-in-Some-clause-ended : goal.returns-in-Some-clause-ended
returns-in-Some-clause-ended c =
    let order = c.args.order in
    let table = c.args.table.now in
    let d = datom_of table c.args.number in
    let fact = datom_of table c.in-Some.fact in
    let h = runs_datoms order table c.args.self.holding in
    let p = runs_datoms order table c.args.self.past in
    let read : d ≡ c.at.result.now = get_or_from_slice_get table c.args.number c.at.result.now nothing c.at.ensures in
    let f_in : Contains table fact = number_in table c.in-Some.fact c.in-Some.ensures.0 in
    let moved : IsEnded d h p (without order fact h) (put_in_order order fact p) =
    ended-moved order d fact h p (runs_rise order table c.args.self.past c.requires.past) c.requires.may c.in-Some.ensures.1.0
    (ap (λ (y : Datom). is_mate y fact) read ∙ c.in-Some.ensures.1.1)
    (one_if_equal order table fact h c.requires.holding.single f_in (runs_within order table c.args.self.holding c.requires.holding))
    (one_if_equal order table fact p c.requires.past.single f_in (runs_within order table c.args.self.past c.requires.past)) in
    both_ok c.moved.result _ _ _ (λ new new_is gone_is.
    subst (λ (l : List Datom). IsEnded d h p l (runs_datoms order table new.past)) (sym new_is)
    (subst (λ (l : List Datom). IsEnded d h p (without order fact h) l) (sym gone_is) moved)) c.moved.ensures.without c.moved.ensures.with
