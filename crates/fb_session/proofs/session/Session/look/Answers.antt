use Rattle.std.proofs.Common.{refl, ap}
use Rattle.std.proofs.lemmas.Result.{on_ok_weaker}
use Rattle.fb_session.proofs.Seeing.{keeps_nothing, shows_from}
use Rattle.fb_session.proofs.session.Session.look.Goals as goal

pub returns-in_err-snapshot-clause-keeps : goal.returns-in_err-snapshot-clause-keeps
returns-in_err-snapshot-clause-keeps g c = keeps_nothing _ _ _ _ refl c.db.ensures.commits

pub returns-in-Fresh-clause-shows : goal.returns-in-Fresh-clause-shows
returns-in-Fresh-clause-shows g c =
    let state = g.T.Desk.state in
    on_ok_weaker c.show.result
    (λ says. shows_from c.args.self.now c.show.new.self (state c.args.desk.now)
    (state c.db.new.self) c.in-Fresh.snapshot c.show.ensures.view (rw c.in-Fresh.is at c.in_ok-snapshot.ensures).sees says)
    c.show.ensures.line

pub returns-in-Fresh-clause-keeps : goal.returns-in-Fresh-clause-keeps
returns-in-Fresh-clause-keeps g c = keeps_nothing _ _ _ _ (ap (λ s. s.commits.items) c.show.ensures.rest) c.db.ensures.commits

pub returns-in-Held-clause-shows : goal.returns-in-Held-clause-shows
returns-in-Held-clause-shows g c =
    let state = g.T.Desk.state in
    on_ok_weaker c.show-in-Held.result
    (λ says. shows_from c.args.self.now c.show-in-Held.new.self (state c.args.desk.now)
    (state c.db.new.self) c.in-Held.snapshot c.show-in-Held.ensures.view (rw c.in-Held.is at c.in_ok-snapshot.ensures).sees says)
    c.show-in-Held.ensures.line

pub returns-in-Held-clause-keeps : goal.returns-in-Held-clause-keeps
returns-in-Held-clause-keeps g c = keeps_nothing _ _ _ _ (ap (λ s. s.commits.items) c.show-in-Held.ensures.rest) c.db.ensures.commits
