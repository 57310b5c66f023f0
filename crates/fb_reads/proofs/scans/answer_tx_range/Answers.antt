use Rattle.std.proofs.Common.{ℕ, subst}
use Rattle.std.specs.Prelude.{OnOk}
use Rattle.std.proofs.lemmas.Result.{on_ok_weaker}
use Rattle.edn_form.specs.View.{form_of}
use Rattle.fb_model.specs.History.{basis}
use Rattle.read_model.specs.Points.{log_range}
use Rattle.talk_model.specs.Replies.{IsLineOf}
use Rattle.talk_model.specs.Looks.{HasTransactions, refused}
use Rattle.fb_reads.proofs.Scanned.{logged, refuses}
use Rattle.fb_reads.proofs.scans.answer_tx_range.Goals as goal

pub returns-in-Ok : goal.returns-in-Ok
returns-in-Ok c =
    let h = c.args.snapshot.now.entries in
    on_ok_weaker c.write_log.result
    (logged h (log_range h (form_of c.args.start.now) (form_of c.args.end.now)) c.in-Ok.range.start c.in-Ok.range.stop
    c.write_log.new.line.items c.in-Ok.ensures)
    c.write_log.ensures

pub returns-in-Err : goal.returns-in-Err
returns-in-Err c =
    let h = c.args.snapshot.now.entries in
    let line = c.refuse.new.line.items in
    on_ok_weaker c.refuse.result
    (refuses (basis h) (HasTransactions h)
    (log_range h (form_of c.args.start.now) (form_of c.args.end.now)) c.in-Err.refusal line c.in-Err.ensures)
    (subst (λ (n : ℕ). OnOk c.refuse.result (IsLineOf (refused n c.in-Err.refusal) line)) c.basis.ensures.basis c.refuse.ensures)
