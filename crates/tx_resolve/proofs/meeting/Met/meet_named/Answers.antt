use Rattle.std.proofs.Common.{◌≡◌, refl, ap, sym, ◌∙◌, is_some, None}
use Rattle.std.specs.BTreeMap.{get}
use Rattle.fb_values.specs.Orders.{text_cmp}
use Rattle.tx_resolve.proofs.Options.{none_there}
use Rattle.tx_resolve.proofs.Newly.{named_again, named_new}
use Rattle.tx_resolve.proofs.meeting.Met.meet_named.Goals as goal

pub returns-then-contains_key : goal.returns-then-contains_key
returns-then-contains_key c =
    named_again c.args.self.now c.args.text.now
    (ap (λ s. is_some (get text_cmp c.args.self.now.named s)) (sym c.of.ensures) ∙ sym c.contains_key.ensures ∙ c.if-contains_key.true)

pub returns : goal.returns
returns c =
    let met = c.args.self.now in
    let absent : get text_cmp met.named c.args.text.now ≡ None =
    none_there (get text_cmp met.named c.args.text.now)
    (ap (λ s. is_some (get text_cmp met.named s)) (sym c.of.ensures) ∙ sym c.contains_key.ensures ∙ c.if-contains_key.false) in
    let next = c.len-place.ensures ∙ met.slots.ok.0 in
    named_new met record met { named = c.insert.new.self; slots = c.push.new.self } c.args.text.now absent
    (rw (c.of-2.ensures, next) at c.in_ok-insert.ensures.updates)
    (rw (c.of-2.ensures, next) at c.in_ok-insert.ensures.entries) refl c.in_ok-push.ensures.items
