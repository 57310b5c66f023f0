use Rattle.std.proofs.Common.{refl, ap, inl}
use Rattle.std.specs.Prelude.{Result, Ok, Err, OnErr}
use Rattle.std.proofs.lemmas.Result.{on_ok_weaker}
use Rattle.fb_session.proofs.Seeing.{keeps_nothing, shows_from}
use Rattle.fb_session.proofs.session.Session.catch_up.Goals as goal

on_err : {A E P : Type 0} (r : Result A E) → P → OnErr r P
on_err (Ok a) p = tt
on_err (Err e) p = p

pub returns-in_err-snapshot-clause-keeps : goal.returns-in_err-snapshot-clause-keeps
returns-in_err-snapshot-clause-keeps g c = keeps_nothing _ _ _ _ refl c.sync.ensures.commits

pub returns-in_err-snapshot-clause-loads : goal.returns-in_err-snapshot-clause-loads
returns-in_err-snapshot-clause-loads g c = on_err c.from_residual.result (inl c.in_err-snapshot.ensures.fault.tally)

pub returns-clause-shows : goal.returns-clause-shows
returns-clause-shows g c =
    let state = g.T.Desk.state in
    on_ok_weaker c.show.result
    (λ says. shows_from c.args.self.now c.show.new.self (state c.args.desk.now)
    (state c.sync.new.self) c.in_ok-snapshot.snapshot c.show.ensures.view c.in_ok-snapshot.ensures.sees says)
    c.show.ensures.line

pub returns-clause-keeps : goal.returns-clause-keeps
returns-clause-keeps g c = keeps_nothing _ _ _ _ (ap (λ s. s.commits.items) c.show.ensures.rest) c.sync.ensures.commits
