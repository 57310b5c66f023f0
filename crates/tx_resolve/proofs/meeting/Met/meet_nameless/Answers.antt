use Rattle.std.proofs.Common.{refl, ap, sym, ◌∙◌, is_some, None, Some, slice_set}
use Rattle.std.proofs.lemmas.List.{get_or_read}
use Rattle.std.specs.Vec.{with_item}
use Rattle.tx_resolve.proofs.Newly.{nameless_again, nameless_new}
use Rattle.tx_resolve.proofs.meeting.Met.meet_nameless.Goals as goal

pub returns-then-is_some : goal.returns-then-is_some
returns-then-is_some c =
    let met = c.args.self.now in
    let place = get_or_read c.reach.new.places.items c.args.n c.index.result.now c.in_ok-reach.ensures.long c.index.ensures None in
    nameless_again met record met { nameless = c.reach.new.places } c.args.n refl refl c.in_ok-reach.ensures.same
    (ap is_some (sym place) ∙ sym c.is_some.ensures ∙ c.if-is_some.true)

pub returns : goal.returns
returns c =
    let met = c.args.self.now in
    let reached = c.reach.new.places.items in
    let place = get_or_read reached c.args.n c.index.result.now c.in_ok-reach.ensures.long c.index.ensures None in
    nameless_new met record met { nameless = with_item c.reach.new.places c.args.n (Some c.len.result); slots = c.push.new.self } c.args.n
    reached c.in_ok-reach.ensures.same c.in_ok-reach.ensures.long
    (ap is_some (sym place) ∙ sym c.is_some.ensures ∙ c.if-is_some.false) refl
    (ap (λ p. slice_set reached c.args.n (Some p)) (c.len.ensures ∙ met.slots.ok.0)) c.in_ok-push.ensures.items
