use Rattle.std.proofs.Common.{◌<◌, ◌∙◌, length, get_or, ap, sym, arith}
use Rattle.fb_values.specs.declared.indexes.Order.TheVariants.{Eavt}
use Rattle.fb_model.specs.Facts.{is_of}
use Rattle.tx_after.specs.Places.{triple_place}
use Rattle.tx_after.proofs.Orders.{apart_at_t}
use Rattle.tx_after.proofs.Telling.{none_behind, place_tells}
use Rattle.tx_after.proofs.triples.mentions.Goals as goal

pub returns-then-place-changes : goal.returns-then-place-changes
returns-then-place-changes c =
    sym (none_behind c.args.e c.args.a c.args.v.now c.args.changes.now (sym c.triple_place-place.ensures.place ∙ c.if-place-changes.true))

pub returns : goal.returns
returns c =
    let at = c.index-changes-place in
    let changes = c.args.changes.now in
    let of = is_of c.args.e c.args.a c.args.v.now in
    let place = c.triple_place-place.ensures.place in
    let inside : c.triple_place-place.result < length changes =
    omega (arith, c.triple_place-place.ensures.within, c.if-place-changes.false) in
    let within : triple_place c.args.e c.args.a c.args.v.now changes < length changes = omega arith in
    let rise = apart_at_t Eavt c.requires.t changes c.requires.rising c.requires.of_t in
    c.is_of.ensures ∙ ap of at.is ∙ ap (λ n. of (get_or changes n at.result)) place
    ∙ place_tells c.args.e c.args.a c.args.v.now changes at.result rise within
