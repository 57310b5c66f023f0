use Rattle.std.proofs.Common.{subst}
use Rattle.fb_session.specs.Sessions.{served_by, Talks}
use Rattle.fb_session.specs.Terms.{terms_at}
use Rattle.fb_session.proofs.Serving.{talks-unopened}
use Rattle.fb_session.proofs.serve.serve_script.Goals as goal

pub returns-in_default-clause-answers : goal.returns-in_default-clause-answers
returns-in_default-clause-answers g c =
    talks-unopened _ c.args.script.now _ c.nothing.result _ c.nothing.ensures.end c.nothing.ensures.places c.nothing.ensures.commits

pub returns-clause-answers : goal.returns-clause-answers
returns-clause-answers g c =
    let state = g.T.Desk.state in
    let contents = g.O.Sink.contents in
    let session = c.answer_all-end.new.self in
    let talks = subst
    (λ table. Talks
    (terms_at g.K.Clock.may_answer g.G.Guard.bars g.P.FilterTable.place_of g.P.FilterTable.selects_at c.args.clock.now
    c.args.guard.now table) c.args.script.now
    (state c.args.desk.now) (state c.answer_all-end.new.desk) (contents c.args.sink.now) (contents c.answer_all-end.new.sink)
    (served_by session c.answer_all-end.result))
    c.in-Ok.ensures.table c.answer_all-end.ensures.answers in
    rw c.served.ensures talks
