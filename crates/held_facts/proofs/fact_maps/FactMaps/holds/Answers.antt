use Rattle.std.proofs.Common.{ap, ◌∙◌, refl, rules, tests}
use Rattle.std.specs.Prelude.{is_some}
use Rattle.std.specs.BTreeMap.{get, keys}
use Rattle.std.proofs.lemmas.Iterator.Search.{any_from_yields_List}
use Rattle.std.proofs.lemmas.Iterator.Consumers.{YieldsList-from_rest}
use Rattle.fb_model.specs.Facts.{is_of}
use Rattle.held_facts.specs.FactMaps.{place_cmp, fact_of_entity}
use Rattle.held_facts.proofs.Searches.{any_by_key, got_triple}
use Rattle.held_facts.proofs.fact_maps.FactMaps.holds.Goals as goal

pub returns-in-Ok : goal.returns-in-Ok
returns-in-Ok c =
    let m = c.args.self.now.by_entity in
    c.contains_key.ensures
    ∙ ap (λ w. is_some (get place_cmp m (c.args.e, c.args.a, w))) c.in-Ok.ensures
    ∙ got_triple c.args.e c.args.a c.args.v.now m

pub returns-in-Err : goal.returns-in-Err
returns-in-Err c =
    let m = c.args.self.now.by_entity in
    any_from_yields_List (λ k. is_of c.args.e c.args.a c.args.v.now (fact_of_entity (k, 0))) _ _ _ c.any.ensures.ran
    (YieldsList-from_rest (keys m) c.keys.ensures.rest) (λ x b q k. search (rules, tests))
    ∙ any_by_key fact_of_entity (is_of c.args.e c.args.a c.args.v.now) (λ k. is_of c.args.e c.args.a c.args.v.now (fact_of_entity (k, 0)))
    (λ p. refl) m.entries
