use Rattle.std.proofs.Common.{◌∙◌, sym, ap, ◌&&◌, ◌||◌, not}
use Rattle.fb_model.specs.Schema.{is_unique}
use Rattle.tx_after.specs.After.{after}
use Rattle.tx_after.specs.Promises.{gives_one_holder}
use Rattle.tx_rules.proofs.Promising.{promise-parts, IfOk-map}
use Rattle.tx_rules.proofs.promises.keeps_its_promise.Goals as goal

pub returns-then-not-has_one_value : goal.returns-then-not-has_one_value
returns-then-not-has_one_value g c =
    let all = after (g.F.Facts.history c.args.facts.now) c.args.changes.now in
    ap (λ b. b && (not (is_unique all c.args.a) || gives_one_holder all c.args.a))
    (sym c.if-not-has_one_value.true ∙ c.in_ok-has_one_value.ensures)
    ∙ sym (promise-parts all c.args.a)

pub returns : goal.returns
returns g c =
    let all = after (g.F.Facts.history c.args.facts.now) c.args.changes.now in
    let is =
    ap (λ b. b && (not (is_unique all c.args.a) || gives_one_holder all c.args.a))
    (sym c.if-not-has_one_value.false ∙ c.in_ok-has_one_value.ensures)
    ∙ sym (promise-parts all c.args.a) in
    IfOk-map _ _ (λ kept same. same ∙ is) c.keeps_one_holder.result c.keeps_one_holder.ensures
