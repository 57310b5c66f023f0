use Rattle.std.proofs.Common.{ℕ, Option, subst}
use Rattle.std.proofs.lemmas.Result.{on_ok_weaker}
use Rattle.edn_form.specs.View.{form_of}
use Rattle.fb_db.specs.Seen.{window_of}
use Rattle.read_model.specs.Names.{IsEntityOf}
use Rattle.pull_pattern.specs.View.{model_pattern}
use Rattle.fb_reads.proofs.Pulled.{of_none}
use Rattle.fb_reads.proofs.pulls.answer_by.Goals as goal

pub returns-in-None : goal.returns-in-None
returns-in-None g c =
    let view = c.args.view.now in
    let h = view.snapshot.entries in
    let selects = g.S.Selector.selects view.filter in
    let none =
    subst (λ (e : Option ℕ). IsEntityOf h (window_of view) selects (form_of c.args.entity.now) e) c.in-None.is c.in_ok-e.ensures in
    on_ok_weaker c.refuse_at.result
    (of_none h (window_of view) selects c.refuse_at.new.line.items (model_pattern c.args.pattern.now) (form_of c.args.entity.now) none)
    c.refuse_at.ensures
