use Rattle.std.proofs.Common.{◌≡◌, ◌<◌, ◌≤◌, [], ◌∷◌, ◌++◌, length, get_or, ap, sym, ◌∙◌, arith}
use Rattle.std.specs.Prelude.{filter, nat_eq}
use Rattle.std.specs.Map.{keys_of, values_of}
use Rattle.std.specs.Ordering.{nat_cmp}
use Rattle.std.proofs.lemmas.List.{take_all}
use Rattle.shared_map.specs.Entries.{get}
use Rattle.fb_schema.specs.Numbered.{of_entity}
use Rattle.fb_schema.proofs.Numbers.{own-found, own-step, same_length, filter-values}
use Rattle.fb_schema.proofs.facts.Facts.of_entity.Goals as goal

pub loop-number-preserved : goal.loop-number-preserved
loop-number-preserved c =
    let i = c.loop-number.number-index in
    let facts = c.self.inside.by_number in
    let own = of_entity c.args.e facts in
    let numbers : c.numbers_at-number-items.result.now ≡ keys_of own = c.numbers_at-number-items.ensures ∙ c.self.invariant.own c.args.e in
    let within : i < length (keys_of own) = rw numbers at c.loop-number-test.true in
    let step = own-step facts own i (own-found c.args.e facts c.self.invariant.rising) within in
    c.in_ok-push_fact.ensures step.0 (ap (λ ks. get nat_cmp facts (get_or ks i 0)) numbers ∙ step.1)
    ∙ ap (λ l. l ++ step.0 ∷ []) c.loop-number.invariant
    ∙ sym step.2

pub returns : goal.returns
returns c =
    let i = c.loop-number.number-index in
    let facts = c.self.inside.by_number in
    let own = of_entity c.args.e facts in
    let numbers : c.numbers_at-number-items.result.now ≡ keys_of own = c.numbers_at-number-items.ensures ∙ c.self.invariant.own c.args.e in
    let past : length (keys_of own) ≤ i = rw numbers at c.loop-number-test.false in
    let ended : length (values_of own) ≤ i = omega (arith, past, same_length own) in
    c.loop-number.invariant
    ∙ take_all i (values_of own) ended
    ∙ filter-values (λ d. nat_eq d.e c.args.e) facts
    ∙ ap (filter (λ d. nat_eq d.e c.args.e)) c.self.view_is
