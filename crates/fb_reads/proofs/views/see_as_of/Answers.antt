use Rattle.std.proofs.Common.{ℕ, subst}
use Rattle.std.specs.Prelude.{OnOk}
use Rattle.std.proofs.lemmas.Result.{on_ok_weaker}
use Rattle.edn_form.specs.View.{form_of}
use Rattle.fb_model.specs.History.{basis}
use Rattle.read_model.specs.Points.{point_in}
use Rattle.talk_model.specs.Replies.{done_reply, IsLineOf}
use Rattle.talk_model.specs.Looks.{refused}
use Rattle.fb_reads.proofs.Scanned.{done, not_done}
use Rattle.fb_reads.proofs.views.see_as_of.Goals as goal

pub returns-in_ok-write_done-in-Ok-clause-line : goal.returns-in_ok-write_done-in-Ok-clause-line
returns-in_ok-write_done-in-Ok-clause-line g c =
    let h = c.args.view.now.snapshot.entries in
    let line = c.write_done.new.line.items in
    done (basis h) (point_in h (form_of c.args.form.now)) c.in-Ok.end line c.in-Ok.ensures
    (subst (λ (n : ℕ). IsLineOf (done_reply n) line) c.basis-basis.ensures.basis c.in_ok-write_done-in-Ok.ensures)

pub returns-in-Err-clause-line : goal.returns-in-Err-clause-line
returns-in-Err-clause-line g c =
    let h = c.args.view.now.snapshot.entries in
    let line = c.refuse.new.line.items in
    on_ok_weaker c.refuse.result (not_done (basis h) (point_in h (form_of c.args.form.now)) c.in-Err.refusal line c.in-Err.ensures)
    (subst (λ (n : ℕ). OnOk c.refuse.result (IsLineOf (refused n c.in-Err.refusal) line)) c.basis-basis.ensures.basis c.refuse.ensures)
