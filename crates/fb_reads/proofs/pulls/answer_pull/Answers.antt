use Rattle.std.proofs.Common.{ℕ, subst}
use Rattle.std.specs.Prelude.{OnOk}
use Rattle.std.proofs.lemmas.Result.{on_ok_weaker}
use Rattle.fb_model.specs.History.{basis}
use Rattle.read_refusals.specs.declared.reasons.Reason.TheVariants.{BadPattern}
use Rattle.read_model.specs.Given.{refusal}
use Rattle.talk_model.specs.Replies.{IsLineOf}
use Rattle.talk_model.specs.Looks.{refused}
use Rattle.edn_form.specs.View.{form_of}
use Rattle.fb_db.specs.Seen.{window_of}
use Rattle.pull_model.specs.Reading as model
use Rattle.fb_reads.proofs.Pulled.{by_none}
use Rattle.fb_reads.proofs.pulls.answer_pull.Goals as goal

pub returns-in-Err-BadPattern : goal.returns-in-Err-BadPattern
returns-in-Err-BadPattern g c =
    let view = c.args.view.now in
    on_ok_weaker c.refuse_at.result
    (by_none view.snapshot.entries (window_of view) (g.S.Selector.selects view.filter) c.refuse_at.new.line.items
    (model.pattern_in (form_of c.args.pattern.now)) c.in-Err-BadPattern.item
    (form_of c.args.entity.now) (rw c.in-Err-BadPattern.field-0-is at c.in-Err-BadPattern.ensures))
    (subst (λ (n : ℕ).
    OnOk c.refuse_at.result (IsLineOf (refused (basis view.snapshot.entries) (refusal BadPattern n)) c.refuse_at.new.line.items))
    c.in-Err-BadPattern.item-is c.refuse_at.ensures)
