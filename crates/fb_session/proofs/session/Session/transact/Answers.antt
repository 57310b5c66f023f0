use Rattle.std.proofs.Common.{ap, inl, inr, subst, sym}
use Rattle.std.proofs.lemmas.Result.{on_ok_weaker}
use Rattle.talk_model.specs.Replies.{receipt, IsLineOf}
use Rattle.fb_desk.specs.declared.answers.TxFault.TheVariants.{Stopped}
use Rattle.fb_session.specs.declared.line.Line.{Line}
use Rattle.fb_session.proofs.Seeing.{received, denied_stopped}
use Rattle.fb_session.proofs.session.Session.transact.Goals as goal

pub returns-in-Ok-clause-ok : goal.returns-in-Ok-clause-ok
returns-in-Ok-clause-ok g c =
    let old = c.args.self.now in
    let new = c.accept.new.self in
    let got = c.in-Ok.receipt in
    let IsLineFor : Line → Type 0 = λ line. IsLineOf (receipt got.t got.tempids.items) line.bytes.items in
    inl (
      got,
      received old new _ _ _ _ _ got c.in-Ok.ensures.receipt c.accept.ensures.view c.accept.ensures.commits,
      subst IsLineFor (sym c.accept.ensures.line) c.in-Ok.ensures.reply,
    )

pub returns-in-Err-Stopped-clause-ok : goal.returns-in-Err-Stopped-clause-ok
returns-in-Err-Stopped-clause-ok g c =
    let fail = c.fail-in-Err-Stopped in
    let at = c.in-Err-Stopped.at in
    let snapshot = c.in-Err-Stopped.snapshot in
    let stopped = (rw c.in-Err-Stopped.field-0-is at c.in-Err-Stopped.ensures).fault in
    on_ok_weaker fail.result
    (λ says. inr (
      Stopped at snapshot,
      denied_stopped c.args.self.now fail.new.self _ _ snapshot fail.ensures.view _ _ _
          (ap (λ s. s.commits.items) fail.ensures.rest) at stopped says,
    ))
    fail.ensures.line
