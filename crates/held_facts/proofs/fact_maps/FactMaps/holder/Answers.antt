use Rattle.std.proofs.Common.{ℕ, Some, None, map, ap, sym, ◌∙◌, refl, rules, tests}
use Rattle.std.specs.Prelude.{find}
use Rattle.std.specs.Bool.{then_some}
use Rattle.std.specs.BTreeMap.{keys}
use Rattle.std.specs.Option.{option_map}
use Rattle.std.specs.Map.Iter.{deref}
use Rattle.std.proofs.lemmas.Iterator.Search.{find_from_yields_List}
use Rattle.std.proofs.lemmas.Iterator.Consumers.{YieldsList-from_rest}
use Rattle.fb_values.specs.declared.facts.Datom.{Datom}
use Rattle.fb_values.specs.declared.facts.Value.{Value}
use Rattle.held_facts.specs.FactMaps.{is_with, fact_of_value}
use Rattle.held_facts.proofs.Ranges.{found_none, found_first}
use Rattle.held_facts.proofs.Openings.{with_opens}
use Rattle.held_facts.proofs.Searches.{found_by_key, read_taken}
use Rattle.held_facts.proofs.fact_maps.FactMaps.holder.Goals as goal

pub returns-in_err-found : goal.returns-in_err-found
returns-in_err-found c =
    let m = c.args.self.now.by_value in
    let a = c.args.a in
    let v = c.args.v.now in
    let found =
    find_from_yields_List (λ k. is_with a v (fact_of_value (k, 0))) _ _ c.find.result c.find.ensures.ran
    (YieldsList-from_rest (keys m) c.keys.ensures.rest)
    (λ x b q k. search (rules, tests))
    in
    c.from_residual.ensures
    ∙ found_by_key fact_of_value (is_with a v) (λ k. is_with a v (fact_of_value (k, 0))) (λ p. refl) (λ k. k.2) (λ (d : Datom). d.e)
    (λ p. refl) m.entries None
    (sym (ap (option_map deref) c.in_err-found.was) ∙ found)

pub returns-in_default : goal.returns-in_default
returns-in_default c =
    let m = c.args.self.now.by_value in
    let a = c.args.a in
    let v = c.args.v.now in
    let found =
    find_from_yields_List (λ k. is_with a v (fact_of_value (k, 0))) _ _ c.find.result c.find.ensures.ran
    (YieldsList-from_rest (keys m) c.keys.ensures.rest)
    (λ x b q k. search (rules, tests))
    in
    found_by_key fact_of_value (is_with a v) (λ k. is_with a v (fact_of_value (k, 0))) (λ p. refl) (λ k. k.2) (λ (d : Datom). d.e)
    (λ p. refl) m.entries (Some c.in_ok-found.found.now)
    (sym (ap (option_map deref) c.in_ok-found.was) ∙ found)

pub returns-in_err-first : goal.returns-in_err-first
returns-in_err-first c =
    let m = c.args.self.now.by_value in
    let range = c.range.ensures in
    let opens = with_opens c.in-Ok.start c.args.a m range.ordered in
    let none = sym (range.between tt) ∙ c.in_err-first.ensures.steps.0 in
    let found = found_none fact_of_value (is_with c.args.a c.in-Ok.start) _ m.entries none opens in
    c.from_residual-in_err-first.ensures
    ∙ ap (option_map (λ (d : Datom). d.e)) (sym found)
    ∙ ap (λ w. option_map (λ (d : Datom). d.e) (find (is_with c.args.a w) (map fact_of_value m.entries))) c.in-Ok.ensures

pub returns : goal.returns
returns c =
    let m = c.args.self.now.by_value in
    let p : (Value × ℕ × ℕ) × ℕ = (c.in_ok-first.first.now, c.in_ok-first.field-0-1.now) in
    let range = c.range.ensures in
    let opens = with_opens c.in-Ok.start c.args.a m range.ordered in
    let one = sym (range.between tt) ∙ c.in_ok-first.ensures.steps in
    let found = found_first fact_of_value (is_with c.args.a c.in-Ok.start) p _ _ m.entries one opens in
    c.then_some.ensures
    ∙ ap (λ b. then_some b p.0.2) (c.has_content.ensures ∙ ap (λ w. is_with c.args.a w (fact_of_value p)) (sym c.in-Ok.ensures))
    ∙ read_taken (λ (d : Datom). d.e) (is_with c.args.a c.in-Ok.start (fact_of_value p)) (fact_of_value p)
    ∙ ap (option_map (λ (d : Datom). d.e)) (sym found)
    ∙ ap (λ w. option_map (λ (d : Datom). d.e) (find (is_with c.args.a w) (map fact_of_value m.entries))) c.in-Ok.ensures
