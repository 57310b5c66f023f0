use Rattle.std.proofs.Common.{sym, ◌∙◌, ap, arith}
use Rattle.std.proofs.lemmas.Bool.{true≢false}
use Rattle.seg_tree.specs.Ids.{next_above}
use Rattle.seg_codec.proofs.Placing.{next_above_none, next_above_greatest, greatest_small}
use Rattle.seg_codec.proofs.ids.Ids.next_above.Goals as goal

pub overflow_add-result : goal.overflow_add-result
overflow_add-result c =
    let small = greatest_small c.self.inside.ids.items c.self.inside.places c.in-Some.id.now c.in-Some.field-0-1.now c.self.invariant
    c.in-Some.ensures.value in
    omega (arith, small)

pub returns-in-None-clause-next : goal.returns-in-None-clause-next
returns-in-None-clause-next c =
    sym (next_above_none c.self.inside.ids.items c.self.inside.places c.self.invariant
    (λ some. true≢false (sym (c.in-None.ensures.variant.1 some)))) ∙ ap next_above c.self.view_is

pub returns-in-Some-clause-next : goal.returns-in-Some-clause-next
returns-in-Some-clause-next c =
    sym (next_above_greatest c.self.inside.ids.items c.self.inside.places c.in-Some.id.now c.in-Some.field-0-1.now c.self.invariant
    c.in-Some.ensures.value c.in-Some.ensures.greatest) ∙ ap next_above c.self.view_is

pub returns-in-Some-clause-small : goal.returns-in-Some-clause-small
returns-in-Some-clause-small c =
    let small = greatest_small c.self.inside.ids.items c.self.inside.places c.in-Some.id.now c.in-Some.field-0-1.now c.self.invariant
    c.in-Some.ensures.value in
    omega (arith, small)
