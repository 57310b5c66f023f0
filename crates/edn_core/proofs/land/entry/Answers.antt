use Rattle.std.proofs.Common.{Some, None, sym, subst}
use Rattle.edn_form.specs.View.{form_of}
use Rattle.edn_duplicates.specs.Inside.{IsDistinctInside}
use Rattle.edn_core.specs.Frames.{IsSoundOpen, LandsAs}
use Rattle.edn_core.specs.declared.construct.Construct.TheVariants.{Map}
use Rattle.edn_core.proofs.Landings.{value_lands, grown_lands}
use Rattle.edn_core.proofs.land.entry.Goals as goal

pub returns-in-Some : goal.returns-in-Some
returns-in-Some c =
    let v = c.args.pairs.now in
    let w = c.grow.new.items in
    let said = c.args.said.now in
    let k = c.in-Some.key in
    let f = form_of c.args.form in
    subst (λ o. IsSoundOpen (Map v o said) → IsDistinctInside f
    → LandsAs (Map v o said) f c.args.at c.args.next c.grow.result (Map w c.take.new.self said)) c.in-Some.ensures.value
    (λ kept inside.
    subst (λ p. LandsAs (Map v (Some k) said) f c.args.at c.args.next c.grow.result (Map w p said)) (sym c.in-Some.ensures.after)
    (grown_lands (Map v (Some k) said) (Map w None said) f c.args.at c.args.next c.grow.result _ c.grow.ensures.ok c.grow.ensures.err
    (λ grew. value_lands v w said k c.args.form grew kept inside)))

pub returns-in-None : goal.returns-in-None
returns-in-None c =
    let v = c.args.pairs.now in
    let said = c.args.said.now in
    let f = form_of c.args.form in
    subst (λ o. IsSoundOpen (Map v o said) → IsDistinctInside f → LandsAs (Map v o said) f c.args.at c.args.next c.key.result
    (Map v c.key.new.waiting c.key.new.said)) c.in-None.ensures.value (c.key.ensures v)
