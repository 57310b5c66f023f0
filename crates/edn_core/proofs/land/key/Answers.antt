use Rattle.std.proofs.Common.{refl}
use Rattle.edn_model.specs.Form as model
use Rattle.edn_model.specs.Likeness.{keys}
use Rattle.edn_form.specs.View.{form_of, pairs_of}
use Rattle.edn_core.proofs.Landings.{key_lands, key_again}
use Rattle.edn_core.proofs.land.key.Goals as goal

pub returns-then-branch : goal.returns-then-branch
returns-then-branch c pairs kept inside =
    let names = keys (model.pairs (pairs_of pairs.items)) in
    let f = form_of c.args.form in (
      refl,
      key_lands pairs c.args.said.now c.insert_form.new.self c.args.form c.in_ok-insert_form.field-0 kept inside
          (c.in_ok-insert_form.ensures.fresh names kept.0 inside) c.if-branch.true (c.in_ok-insert_form.ensures.said names kept.0),
    )

pub returns-else-branch : goal.returns-else-branch
returns-else-branch c pairs kept inside =
    let names = keys (model.pairs (pairs_of pairs.items)) in
    let f = form_of c.args.form in (
      refl,
      key_again pairs c.args.said.now c.args.form c.in_ok-insert_form.field-0
          (c.in_ok-insert_form.ensures.fresh names kept.0 inside) c.if-branch.false,
    )
