-- AVET holds the attribute, so the probe leads to all that holds by the value.
use Rattle.std.proofs.Common.{◌≡◌, ◌∙◌, ap}
use Rattle.fb_values.specs.declared.facts.Value.{Value}
use Rattle.fb_view.specs.Facts.{facts_led}
use Rattle.fb_tuple_guard.proofs.Held.{valued, valued_told, valued_all}
use Rattle.fb_tuple_guard.proofs.holders.facts_in_avet.Goals as goal

pub returns : goal.returns
returns c =
    let before = c.args.before.now in
    let led : facts_led (valued c.args.a c.in_ok-copy.field-0) before ≡ facts_led (valued c.args.a c.args.v.now) before =
    ap (λ (v : Value). facts_led (valued c.args.a v) before) c.in_ok-copy.ensures in
    valued_all c.the_lists_are_the_rising_ones.ensures before.entries c.args.a c.args.v.now c.of.result
    (c.of.ensures ∙ c.in_ok-facts_led.ensures.facts ∙ led
    ∙ valued_told before c.in_ok-facts_led.ensures.stands c.args.a c.args.v.now c.requires)
