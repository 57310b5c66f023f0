use Rattle.std.proofs.Common.{refl}
use Rattle.edn_model.specs.Form as model
use Rattle.edn_form.specs.View.{form_of, forms_of}
use Rattle.edn_core.specs.declared.construct.Construct.TheVariants.{Set}
use Rattle.edn_core.proofs.Landings.{member_lands, member_again, grown_lands}
use Rattle.edn_core.proofs.land.member.Goals as goal

pub returns-then-branch : goal.returns-then-branch
returns-then-branch c kept inside =
    let v = c.args.items.now in
    let w = c.grow.new.items in
    let fs = model.forms (forms_of v.items) in
    let f = form_of c.args.form in
    grown_lands (Set v c.args.said.now)
    (Set w c.insert_form.new.self) f c.args.at c.args.next c.grow.result _ c.grow.ensures.ok c.grow.ensures.err
    (λ grew. member_lands v w c.args.said.now c.insert_form.new.self c.args.form c.in_ok-insert_form.field-0 grew kept inside
    (c.in_ok-insert_form.ensures.fresh fs kept.0 inside) c.if-branch.true (c.in_ok-insert_form.ensures.said fs kept.0))

pub returns-else-branch : goal.returns-else-branch
returns-else-branch c kept inside =
    let fs = model.forms (forms_of c.args.items.now.items) in
    let f = form_of c.args.form in (
      refl,
      member_again c.args.items.now c.args.said.now c.args.form c.in_ok-insert_form.field-0
          (c.in_ok-insert_form.ensures.fresh fs kept.0 inside) c.if-branch.false,
    )
