use Rattle.std.proofs.Common.{ap, inl}
use Rattle.std.proofs.lemmas.Result.{err_from_is_err_and}
use Rattle.edn_form.specs.View.{form_of}
use Rattle.fb_session.proofs.Results.{fact_at_err, fact_at_ok}
use Rattle.fb_session.proofs.FormsAnswered.{unanswered_in_time, refused_in_time, broken_then, replied_then}
use Rattle.fb_session.proofs.answering.Session+Picks+P.answer_in_time.Goals as goal

pub returns-in_err-write_waiting-clause-became : goal.returns-in_err-write_waiting-clause-became
returns-in_err-write_waiting-clause-became g c =
    let state = g.T.Desk.state in
    let reply = c.reply_in_room in
    let p = err_from_is_err_and c.from_residual.result c.from_residual.ensures.1 in
    rw (p.1, p.2)
    (λ before stands lines waits. inl (unanswered_in_time (form_of c.args.form.now) c.args.self.now reply.new.self c.write_waiting.new.self
    (state c.args.desk.now) (state reply.new.desk) lines _ _ reply.ensures.places reply.ensures.waiting waits
    c.write_waiting.ensures.rest c.requires.quiet c.in_err-write_waiting.ensures.part
    (fact_at_err reply.result _ c.if-is_err.ensures.value reply.ensures.err)))

pub returns-then-is_err-clause-became : goal.returns-then-is_err-clause-became
returns-then-is_err-clause-became g c = λ before stands lines waits.
    let state = g.T.Desk.state in
    let reply = c.reply_in_room in
    let out = c.in_ok-write_waiting.ensures in
    refused_in_time (form_of c.args.form.now) c.args.self.now reply.new.self c.write_waiting.new.self
    (state c.args.desk.now) (state reply.new.desk) lines _ _ reply.ensures.places reply.ensures.waiting waits
    c.write_waiting.ensures.rest (ap (λ v. v.items) out.places) out.whole
    (fact_at_err reply.result _ c.if-is_err.ensures.value reply.ensures.err)

pub returns-in_err-keep_line-clause-became : goal.returns-in_err-keep_line-clause-became
returns-in_err-keep_line-clause-became g c =
    let state = g.T.Desk.state in
    let reply = c.reply_in_room in
    let keep = c.keep_line in
    let p = err_from_is_err_and c.from_residual-in_err-keep_line.result c.from_residual-in_err-keep_line.ensures.1 in
    rw (p.1, p.2)
    (λ before stands lines waits. broken_then
    (form_of c.args.form.now) c.args.self.now reply.new.self keep.new.self (state c.args.desk.now) (state reply.new.desk) lines _ _
    reply.ensures.places reply.ensures.waiting waits keep.ensures.rest _ _ c.requires.quiet before
    (fact_at_ok reply.result _ c.if-is_err.ensures.value reply.ensures.ok before stands) c.in_err-keep_line.ensures.err)

pub returns-clause-became : goal.returns-clause-became
returns-clause-became g c = λ before stands lines waits.
    let state = g.T.Desk.state in
    let reply = c.reply_in_room in
    let keep = c.keep_line in
    let kept = c.in_ok-keep_line.ensures in
    replied_then
    (form_of c.args.form.now) c.args.self.now reply.new.self keep.new.self (state c.args.desk.now) (state reply.new.desk) lines _ _
    reply.ensures.places reply.ensures.waiting waits keep.ensures.rest _ _ c.requires.quiet before
    (fact_at_ok reply.result _ c.if-is_err.ensures.value reply.ensures.ok before stands) kept.place kept.ok
