-- Values that are looked up once, and what they tell.
use Rattle.std.proofs.Common.{◌≡◌, ℕ, Bool, true, false, cond, ◌&&◌, List, refl, ap, sym, ◌∙◌}
use Rattle.std.specs.Prelude.{nat_eq, Some, Vec}
use Rattle.std.specs.List.{list_any}
use Rattle.std.specs.Option.{option_map_or}
use Rattle.std.specs.declared.alloc.Global.{Global}
use Rattle.std.specs.BTreeMap.{BTreeMap, get, is_at, Updates}
use Rattle.std.proofs.lemmas.Bool.{and_parts, and_from, eqb-true}
use Rattle.fb_values.specs.declared.facts.Datom.{Datom}
use Rattle.fb_values.specs.declared.facts.Entry.{Entry}
use Rattle.fb_values.specs.declared.facts.Value.{Value}
use Rattle.fb_values.specs.declared.indexes.Order.TheVariants.{Eavt}
use Rattle.fb_model.specs.Facts.{is_of, value_eq, facts, holds}
use Rattle.fb_model.specs.Schema.{is_about}
use Rattle.fb_facts.specs.FactLists.{facts_in, values_of}
use Rattle.tx_model.proofs.Lists.{image_of, has_image}
use Rattle.tx_sweep.specs.Sweep.{pair_cmp}
use Rattle.tx_sweep.proofs.Members.{any_of, some_of}
use Rattle.tx_sweep.proofs.Sweeping.{at_pair, AreTold}
use Rattle.tx_changes.specs.Asked.{KnowsValues}

pub knows_more : (h : List Entry) (old new : BTreeMap (ℕ × ℕ) (Vec Value Global)) (e a : ℕ) (values : Vec Value Global)
    → Updates pair_cmp old new (e, a) (Some values) → values.items ≡ values_of h e a
    → KnowsValues h old → KnowsValues h new
knows_more h old new e a values updates right knows = λ x b.
    ap (λ o. option_map_or (λ (vs : Vec Value Global). vs.items) o (values_of h x b)) (updates.0 (x, b))
    ∙ go x b (is_at (pair_cmp (e, a)) (x, b)) refl
  where
    go : (x b : ℕ) (at : Bool) → is_at (pair_cmp (e, a)) (x, b) ≡ at
        → option_map_or (λ (vs : Vec Value Global). vs.items) (cond at (Some values) (get pair_cmp old (x, b))) (values_of h x b)
        ≡ values_of h x b
    go x b true here =
        let parts = and_parts (nat_eq e x) (nat_eq a b) (sym (at_pair e a x b) ∙ here) in
        right ∙ ap (λ y. values_of h y a) (eqb-true e x parts.0) ∙ ap (values_of h x) (eqb-true a b parts.1)
    go x b false here = knows x b

-- a triple holds where its value is one of all
pub values_tell : AreTold → (h : List Entry) → ((h : List Entry) (e a : ℕ) (v : Value) → holds h e a v ≡ list_any (is_of e a v) (facts h))
    → (e a : ℕ) (v : Value) (values : List Value) → values ≡ values_of h e a → list_any (λ w. value_eq w v) values ≡ holds h e a v
values_tell told h law e a v values are =
    ap (list_any (λ w. value_eq w v)) are
    ∙ same_tests (list_any (λ w. value_eq w v) (values_of h e a)) (list_any (is_of e a v) (facts h)) there back
    ∙ sym (law h e a v)
  where
    same_tests : (b c : Bool) → (b ≡ true → c ≡ true) → (c ≡ true → b ≡ true) → b ≡ c
    same_tests true c f g = sym (f refl)
    same_tests false true f g = g refl
    same_tests false false f g = refl

    there : list_any (λ w. value_eq w v) (values_of h e a) ≡ true → list_any (is_of e a v) (facts h) ≡ true
    there some =
        let one = some_of (λ w. value_eq w v) (values_of h e a) some in
        let source = image_of (λ (d : Datom). d.v) (facts_in Eavt (is_about e a) h) one.0 one.1 in
        let is = ((told h Eavt (is_about e a)).members source.original).0 source.among in
        any_of (is_of e a v) (facts h) source.original is.0
        (and_from _ _ is.1 (ap (λ w. value_eq w v) source.image_is ∙ one.2))

    back : list_any (is_of e a v) (facts h) ≡ true → list_any (λ w. value_eq w v) (values_of h e a) ≡ true
    back some =
        let one = some_of (is_of e a v) (facts h) some in
        let d = one.0 in
        let parts = and_parts (nat_eq d.e e && nat_eq d.a a) (value_eq d.v v) one.2 in
        let among = ((told h Eavt (is_about e a)).members d).1 (one.1, parts.0) in
        any_of (λ w. value_eq w v) (values_of h e a) d.v
        (has_image (λ (x : Datom). x.v) (facts_in Eavt (is_about e a) h) d among) parts.1
