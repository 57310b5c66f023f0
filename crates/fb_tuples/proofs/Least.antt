-- The first value in order is the least one.
use Rattle.std.proofs.Common.{inl, inr, ◌⊎◌, ◌≡◌, ℕ, Bool, true, false, cond, List, [], ◌∷◌, ◌++◌, map, refl, sym, ap, ◌∙◌, subst, Option, Some, None}
use Rattle.std.specs.Prelude.{Contains, filter, nat_eq, slice_get, pos}
use Rattle.std.specs.Option.{option_map_or}
use Rattle.std.specs.Ordering.{is_lt, ordering_reverse}
use Rattle.std.specs.declared.cmp.Ordering.{Ordering}
use Rattle.std.specs.declared.cmp.Ordering.TheVariants.{Less, Equal, Greater}
use Rattle.std.proofs.lemmas.Bool.{true≢false, and_parts, eqb-true}
use Rattle.fb_values.specs.Orders.{value_cmp}
use Rattle.fb_values.specs.OrderLaws.{value_cmp_total, value_cmp-IsAntisymmetric}
use Rattle.fb_values.specs.declared.facts.Datom.{Datom}
use Rattle.fb_values.specs.declared.facts.Entry.{Entry}
use Rattle.fb_values.specs.declared.facts.Value.{Value}
use Rattle.fb_values.specs.declared.indexes.Order.TheVariants.{Eavt}
use Rattle.fb_values.proofs.Rising.{rising_from}
use Rattle.fb_facts.specs.FactLists.{facts_in}
use Rattle.fb_facts.proofs.Lists.{facts_in-rising}
use Rattle.fb_model.specs.Facts.{facts, standing, values_of}
use Rattle.fb_model.specs.Schema.{is_about}
use Rattle.fb_model.specs.Rising.{IsRisingListOf, in_order}
use Rattle.fb_model.proofs.OneMoreEntry.{said-push}
use Rattle.tuple_model.specs.Tuples.{least_value}
use Rattle.tuple_model.proofs.Members.{here, there, cases_of, none_of, kept_has, kept_member, map_has, map_member}
use Rattle.tx_after.specs.After as model
use Rattle.fb_tuples.specs.Reached.{first_value}
use Rattle.fb_tuples.proofs.MemberScans.{first_is_least}

-- ---- the least of a list

one_value : (v w : Value) → is_lt (value_cmp v w) ≡ false → is_lt (value_cmp w v) ≡ false → v ≡ w
one_value v w p q = go (value_cmp v w) refl
  where
    go : (r : Ordering) → value_cmp v w ≡ r → v ≡ w
    go Less is = absurd (true≢false (sym (ap is_lt is) ∙ p))
    go Equal is = value_cmp-IsAntisymmetric v w is
    go Greater is = absurd (true≢false (sym (ap is_lt (value_cmp_total.antisymm w v ∙ ap ordering_reverse is)) ∙ q))

one_some : (x y : Value) → Some x ≡ Some y → x ≡ y
one_some x y e = cc

none_some : (v : Value) → None ≡ Some v → ⊥
none_some v e = absurd (cc)

least_member : (vs : List Value) (w : Value) → least_value vs ≡ Some w → Contains vs w
least_member [] w is = absurd (none_some w is)
least_member (v ∷ vs) w is = go (least_value vs) refl is (least_member vs)
  where
    which : (u : Value) → Contains vs u → (b : Bool) → cond b (Some u) (Some v) ≡ Some w → Contains (v ∷ vs) w
    which u member true same = subst (Contains (v ∷ vs)) (one_some u w same) (there v u vs member)
    which u member false same = subst (Contains (v ∷ vs)) (one_some v w same) (here v vs)

    go : (o : Option Value) → least_value vs ≡ o → option_map_or (λ u. cond (is_lt (value_cmp u v)) (Some u) (Some v)) o (Some v) ≡ Some w
        → ((u : Value) → least_value vs ≡ Some u → Contains vs u) → Contains (v ∷ vs) w
    go None least same next = subst (Contains (v ∷ vs)) (one_some v w same) (here v vs)
    go (Some u) least same next = which u (next u least) (is_lt (value_cmp u v)) same

pub least_is : (vs : List Value) (v : Value) → Contains vs v → ((x : Value) → Contains vs x → is_lt (value_cmp x v) ≡ false)
    → least_value vs ≡ Some v
least_is [] v member least = absurd (none_of v member)
least_is (u ∷ us) v member least = go (least_value us) refl (cases_of u v us member) (λ later. least_is us v later (λ x has. least x (there u x us has)))
  where
    not_below : is_lt (value_cmp u v) ≡ false
    not_below = least u (here u us)

    go : (o : Option Value) → least_value us ≡ o → (u ≡ v) ⊎ Contains us v → (Contains us v → least_value us ≡ Some v)
        → option_map_or (λ w. cond (is_lt (value_cmp w u)) (Some w) (Some u)) o (Some u) ≡ Some v
    go None is (inl same) next = ap Some same
    go None is (inr later) next = absurd (none_some v (sym is ∙ next later))
    go (Some w) is (inl same) next =
        rw (ap (λ z. is_lt (value_cmp w z)) same ∙ least w (there u w us (least_member us w is))) (ap Some same)
    go (Some w) is (inr later) next = which w (one_some w v (sym is ∙ next later)) (is_lt (value_cmp w u)) refl
      where
        which : (z : Value) → z ≡ v → (b : Bool) → is_lt (value_cmp z u) ≡ b → cond b (Some z) (Some u) ≡ Some v
        which z found true below = ap Some found
        which z found false below =
            ap Some (one_value u v not_below (ap (λ y. is_lt (value_cmp y u)) (sym found) ∙ below))

-- ---- what an entity has under an attribute

after_facts : (h : List Entry) (changes : List Datom) → facts (h ++ record { t = 0; instant = pos 0; datoms = changes } ∷ []) ≡ model.after h changes
after_facts h changes = ap standing (said-push h (record { t = 0; instant = pos 0; datoms = changes }))

module _ (h : List Entry) (e a : ℕ) where
  first_in : (ds : List Datom) → IsRisingListOf Eavt ds (λ d. Contains (facts h) d × (is_about e a d ≡ true))
      → first_value ds ≡ least_value (values_of (facts h) e a)
  first_in [] is = none (values_of (facts h) e a) (λ v member.
      let from = map_member (λ (d : Datom). d.v) (filter (is_about e a) (facts h)) v member in
      none_of from.0 ((is.members from.0).1 (kept_member (is_about e a) (facts h) from.0 from.1)))
    where
      none : (vs : List Value) → ((v : Value) → Contains vs v → ⊥) → None ≡ least_value vs
      none [] empty = refl
      none (v ∷ vs) empty = absurd (empty v (here v vs))
  first_in (x ∷ ds) is =
      let each : (d : Datom) → Contains (x ∷ ds) d → (d.e ≡ e) × (d.a ≡ a) = λ d member.
      let parts = and_parts (nat_eq d.e e) (nat_eq d.a a) ((is.members d).0 member).1 in
      (eqb-true d.e e parts.0, eqb-true d.a a parts.1) in
      let first = (is.members x).0 (here x ds) in
      sym (least_is (values_of (facts h) e a) x.v
      (map_has (λ (d : Datom). d.v) (filter (is_about e a) (facts h)) x (kept_has (is_about e a) (facts h) x first.0 first.1))
      (λ v member.
      let from = map_member (λ (d : Datom). d.v) (filter (is_about e a) (facts h)) v member in
      let kept = kept_member (is_about e a) (facts h) from.0 from.1 in
      subst (λ u. is_lt (value_cmp u x.v) ≡ false) from.2
      (first_is_least e a x ds (rising_from Eavt (x ∷ ds) is.rising) each from.0 ((is.members from.0).1 kept))))

-- the first value after changes
head_value : (ds : List Datom) → slice_get (map (λ d. d.v) ds) 0 ≡ first_value ds
head_value [] = refl
head_value (d ∷ ds) = refl

pub first_after : (h : List Entry) (changes : List Datom) (e a : ℕ)
    → slice_get (model.values_of h changes e a) 0 ≡ least_value (values_of (model.after h changes) e a)
first_after h changes e a =
    let more = h ++ record { t = 0; instant = pos 0; datoms = changes } ∷ [] in
    subst (λ fs. slice_get (map (λ d. d.v) (in_order Eavt (filter (is_about e a) fs))) 0 ≡ least_value (values_of fs e a)) (after_facts h changes)
    (head_value (facts_in Eavt (is_about e a) more) ∙ first_in more e a (facts_in Eavt (is_about e a) more) (facts_in-rising more Eavt (is_about e a)))
