use Rattle.std.proofs.Common.{map}
use Rattle.std.proofs.lemmas.Result.{on_ok_weaker, on_err_weaker}
use Rattle.edn_form.specs.View.{form_of}
use Rattle.fb_session.specs.Terms.{terms_at}
use Rattle.fb_session.proofs.Seeing.{goes_on-nowhere, answered_with_room, unanswered_with_room}
use Rattle.fb_session.proofs.answering.Session+Picks+P.reply_in_room.Goals as goal

pub returns-in_err-make_room-clause-goes_on : goal.returns-in_err-make_room-clause-goes_on
returns-in_err-make_room-clause-goes_on g c = goes_on-nowhere (g.T.Desk.state c.args.desk.now)

pub returns-clause-ok : goal.returns-clause-ok
returns-clause-ok g c =
    let state = g.T.Desk.state in
    let room = c.in_ok-make_room.ensures in
    on_ok_weaker c.reply.result
    (λ told. answered_with_room c.args.self.now c.make_room.new.self c.reply.new.self
    (λ p. terms_at g.K.Clock.may_answer g.G.Guard.bars g.P.FilterTable.place_of g.P.FilterTable.selects_at c.args.clock.now
    c.args.guard.now p.table.now)
    (λ p. map (g.P.FilterTable.name_at p.table.now) p.places.items) (form_of c.args.form.now) (state c.args.desk.now)
    (state c.reply.new.desk) room.view room.commits _ told)
    c.reply.ensures.ok

pub returns-clause-err : goal.returns-clause-err
returns-clause-err g c =
    let state = g.T.Desk.state in
    on_err_weaker c.reply.result
    (unanswered_with_room (form_of c.args.form.now) c.args.self.now c.make_room.new.self c.reply.new.self (state c.args.desk.now)
    (state c.reply.new.desk) c.in_ok-make_room.ensures.commits)
    c.reply.ensures.err
