use Rattle.std.proofs.Common.{ℕ, sym, subst}
use Rattle.std.specs.Prelude.{OnOk}
use Rattle.std.proofs.lemmas.Result.{on_ok_weaker}
use Rattle.edn_form.specs.View.{form_of}
use Rattle.fb_db.specs.Seen.{window_of}
use Rattle.read_refusals.specs.declared.reasons.Reason.TheVariants.{History, TooLarge}
use Rattle.pull_pattern.specs.View.{model_pattern}
use Rattle.talk_model.specs.Replies.{pull_reply, IsLineOf}
use Rattle.fb_reads.proofs.Pulled.{told, not_told}
use Rattle.fb_reads.proofs.pulls.answer_of.Goals as goal

pub returns-in-Ok : goal.returns-in-Ok
returns-in-Ok g c =
    let view = c.args.view.now in
    let line = c.write_pull.new.line.items in
    on_ok_weaker c.write_pull.result
    (told view.snapshot.entries (window_of view) (g.S.Selector.selects view.filter) line (model_pattern c.args.pattern.now) c.args.e
    (form_of c.in-Ok.tree) (λ db is. sym (c.in-Ok.ensures db is)))
    (subst (λ (n : ℕ). OnOk c.write_pull.result (IsLineOf (pull_reply n (form_of c.in-Ok.tree)) line)) c.basis.ensures.basis
    c.write_pull.ensures)

pub returns-in-Err-History : goal.returns-in-Err-History
returns-in-Err-History g c =
    let view = c.args.view.now in
    on_ok_weaker c.refuse_at.result
    (not_told view.snapshot.entries (window_of view) (g.S.Selector.selects view.filter) c.refuse_at.new.line.items
    (model_pattern c.args.pattern.now) c.args.e History
    (λ db is. sym (rw c.in-Err-History.field-0-is at (c.in-Err-History.ensures db is))))
    c.refuse_at.ensures

pub returns-in-Err-TooLarge : goal.returns-in-Err-TooLarge
returns-in-Err-TooLarge g c =
    let view = c.args.view.now in
    on_ok_weaker c.refuse_at-in-Err-TooLarge.result
    (not_told view.snapshot.entries (window_of view) (g.S.Selector.selects view.filter) c.refuse_at-in-Err-TooLarge.new.line.items
    (model_pattern c.args.pattern.now) c.args.e TooLarge
    (λ db is. sym (rw c.in-Err-TooLarge.field-0-is at (c.in-Err-TooLarge.ensures db is))))
    c.refuse_at-in-Err-TooLarge.ensures
