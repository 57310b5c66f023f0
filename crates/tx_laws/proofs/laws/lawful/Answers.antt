use Rattle.std.proofs.Common.{◌∙◌, ap, sym}
use Rattle.std.proofs.lemmas.Bool.{and_parts}
use Rattle.fb_model.specs.Laws.{are_typed}
use Rattle.tx_laws.proofs.Results.{IfOk-map}
use Rattle.tx_laws.proofs.Breaking.{first, second, third, fourth, fifth, among_later}
use Rattle.tx_laws.proofs.Wholeness.{typed-same}
use Rattle.tx_laws.proofs.laws.lawful.Goals as goal

pub returns-then-not-has_next_t : goal.returns-then-not-has_next_t
returns-then-not-has_next_t g c =
    let h = g.F.Facts.history c.args.facts.now in
    let one = sym (c.has_next_t.ensures h c.of-latest.ensures) ∙ c.if-not-has_next_t.true in
    first h c.args.entry.now one

pub returns-then-not-has_later_instant : goal.returns-then-not-has_later_instant
returns-then-not-has_later_instant g c =
    let h = g.F.Facts.history c.args.facts.now in
    let one = sym (c.has_next_t.ensures h c.of-latest.ensures) ∙ c.if-not-has_next_t.false in
    let two = sym (c.has_later_instant.ensures h c.of-latest.ensures) ∙ c.if-not-has_later_instant.true in
    second h c.args.entry.now one two

pub returns-then-not-are_known : goal.returns-then-not-are_known
returns-then-not-are_known g c =
    let h = g.F.Facts.history c.args.facts.now in
    let one = sym (c.has_next_t.ensures h c.of-latest.ensures) ∙ c.if-not-has_next_t.false in
    let two = sym (c.has_later_instant.ensures h c.of-latest.ensures) ∙ c.if-not-has_later_instant.false in
    let three = sym (c.in_ok-are_known.ensures h c.of-latest.ensures c.requires.stands) ∙ c.if-not-are_known.true in
    third h c.args.entry.now one two three

pub returns-then-not-are_typed : goal.returns-then-not-are_typed
returns-then-not-are_typed g c =
    let h = g.F.Facts.history c.args.facts.now in
    let one = sym (c.has_next_t.ensures h c.of-latest.ensures) ∙ c.if-not-has_next_t.false in
    let two = sym (c.has_later_instant.ensures h c.of-latest.ensures) ∙ c.if-not-has_later_instant.false in
    let three = sym (c.in_ok-are_known.ensures h c.of-latest.ensures c.requires.stands) ∙ c.if-not-are_known.false in
    let four =
    sym (ap (are_typed c.args.schema.now) c.as_slice.ensures ∙ typed-same c.args.schema.now h c.requires.stands c.args.entry.now.datoms)
    ∙ sym c.are_typed.ensures
    ∙ c.if-not-are_typed.true in
    fourth h c.args.entry.now one two three four

pub returns-then-not-has_datoms_in_order : goal.returns-then-not-has_datoms_in_order
returns-then-not-has_datoms_in_order g c =
    let h = g.F.Facts.history c.args.facts.now in
    let one = sym (c.has_next_t.ensures h c.of-latest.ensures) ∙ c.if-not-has_next_t.false in
    let two = sym (c.has_later_instant.ensures h c.of-latest.ensures) ∙ c.if-not-has_later_instant.false in
    let three = sym (c.in_ok-are_known.ensures h c.of-latest.ensures c.requires.stands) ∙ c.if-not-are_known.false in
    let four =
    sym (ap (are_typed c.args.schema.now) c.as_slice.ensures ∙ typed-same c.args.schema.now h c.requires.stands c.args.entry.now.datoms)
    ∙ sym c.are_typed.ensures
    ∙ c.if-not-are_typed.false in
    let five = sym (c.has_datoms_in_order.ensures h) ∙ c.if-not-has_datoms_in_order.true in
    fifth h c.args.entry.now one two three four five

pub lawful_in_order-requires-clause-changes : goal.lawful_in_order-requires-clause-changes
lawful_in_order-requires-clause-changes g c =
    let five = sym (c.has_datoms_in_order.ensures (g.F.Facts.history c.args.facts.now)) ∙ c.if-not-has_datoms_in_order.false in
    let order = and_parts _ _ (and_parts _ _ five).0 in
    record { t = c.args.entry.now.t; of_t = order.0; rising = order.1 }

pub returns : goal.returns
returns g c =
    let h = g.F.Facts.history c.args.facts.now in
    let one = sym (c.has_next_t.ensures h c.of-latest.ensures) ∙ c.if-not-has_next_t.false in
    let two = sym (c.has_later_instant.ensures h c.of-latest.ensures) ∙ c.if-not-has_later_instant.false in
    let three = sym (c.in_ok-are_known.ensures h c.of-latest.ensures c.requires.stands) ∙ c.if-not-are_known.false in
    let four =
    sym (ap (are_typed c.args.schema.now) c.as_slice.ensures ∙ typed-same c.args.schema.now h c.requires.stands c.args.entry.now.datoms)
    ∙ sym c.are_typed.ensures
    ∙ c.if-not-are_typed.false in
    let five = sym (c.has_datoms_in_order.ensures h) ∙ c.if-not-has_datoms_in_order.false in
    IfOk-map _ _
    (λ law same. among_later h c.args.entry.now law one two three four five same) c.lawful_in_order.result c.lawful_in_order.ensures
