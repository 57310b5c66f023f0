-- One datom's step of what holds, as the datoms tell it and as a map does.
use Rattle.std.proofs.Common.{◌≡◌, ℕ, Bool, true, false, cond, ◌&&◌, List, [], ◌∷◌, ◌++◌, Option, None, refl, ap, sym, ◌∙◌, subst, eqb}
use Rattle.std.proofs.Common.{rules}
use Rattle.std.specs.Ordering.{nat_cmp, ordering_then, is_eq}
use Rattle.std.specs.declared.cmp.Ordering.{Ordering}
use Rattle.std.specs.declared.cmp.Ordering.TheVariants.{Less, Equal, Greater}
use Rattle.std.specs.BTreeMap.{BTreeMap, IsOrdered, get, Updates, is_at}
use Rattle.fb_values.specs.Orders.{value_cmp}
use Rattle.fb_values.specs.declared.facts.Datom.{Datom}
use Rattle.fb_values.specs.declared.facts.Value.{Value}
use Rattle.fb_model.specs.Facts.{value_eq, is_of}
use Rattle.held_facts.specs.declared.fact_maps.FactMaps.{FactMaps}
use Rattle.held_facts.specs.FactMaps.{place_cmp, content_cmp, left_by, t_after, HasFacts}

-- ---- as the datoms tell it

pub t_after-push : (before : Option ℕ) (ds : List Datom) (d : Datom) (e a : ℕ) (v : Value)
    → t_after before (ds ++ d ∷ []) e a v ≡ cond (is_of e a v d) (left_by d) (t_after before ds e a v)
t_after-push before [] d e a v = refl
t_after-push before (x ∷ ds) d e a v = t_after-push (cond (is_of e a v x) (left_by x) before) ds d e a v

-- ---- as a map's order does

pub eq_then : (r s : Ordering) → is_eq (ordering_then r s) ≡ (is_eq r && is_eq s)
eq_then Less s = refl
eq_then Equal s = refl
eq_then Greater s = refl

pub same_number : (m n : ℕ) → is_eq (nat_cmp m n) ≡ eqb m n
same_number m n = search rules

at_place : (x y b c : ℕ) (v w : Value) → is_at (place_cmp (x, y, v)) (b, c, w) ≡ ((eqb x b && eqb y c) && value_eq v w)
at_place x y b c v w =
    eq_then (ordering_then (nat_cmp x b) (nat_cmp y c)) (value_cmp v w)
    ∙ ap (λ p. p && value_eq v w) (eq_then (nat_cmp x b) (nat_cmp y c))
    ∙ ap (λ p. (p && is_eq (nat_cmp y c)) && value_eq v w) (same_number x b)
    ∙ ap (λ p. (eqb x b && p) && value_eq v w) (same_number y c)

at_content : (x y b c : ℕ) (v w : Value) → is_at (content_cmp (v, x, y)) (w, b, c) ≡ ((value_eq v w && eqb x b) && eqb y c)
at_content x y b c v w =
    eq_then (ordering_then (value_cmp v w) (nat_cmp x b)) (nat_cmp y c)
    ∙ ap (λ p. p && is_eq (nat_cmp y c)) (eq_then (value_cmp v w) (nat_cmp x b))
    ∙ ap (λ p. (value_eq v w && p) && is_eq (nat_cmp y c)) (same_number x b)
    ∙ ap (λ p. (value_eq v w && eqb x b) && p) (same_number y c)

swapped : (p q r : Bool) → ((q && p) && r) ≡ ((p && q) && r)
swapped true true r = refl
swapped true false r = refl
swapped false true r = refl
swapped false false r = refl

turned : (p q r : Bool) → ((r && q) && p) ≡ ((p && q) && r)
turned true true true = refl
turned true true false = refl
turned true false true = refl
turned true false false = refl
turned false true true = refl
turned false true false = refl
turned false false true = refl
turned false false false = refl

pub of_entity : (d : Datom) (e a : ℕ) (v : Value) → is_at (place_cmp (d.e, d.a, d.v)) (e, a, v) ≡ is_of e a v d
of_entity d e a v = at_place d.e d.a e a d.v v

of_attribute : (d : Datom) (e a : ℕ) (v : Value) → is_at (place_cmp (d.a, d.e, d.v)) (a, e, v) ≡ is_of e a v d
of_attribute d e a v = at_place d.a d.e a e d.v v ∙ swapped (eqb d.e e) (eqb d.a a) (value_eq d.v v)

of_value : (d : Datom) (e a : ℕ) (v : Value) → is_at (content_cmp (d.v, d.a, d.e)) (v, a, e) ≡ is_of e a v d
of_value d e a v = at_content d.a d.e a e d.v v ∙ turned (eqb d.e e) (eqb d.a a) (value_eq d.v v)

-- ---- both

-- a map's own step, where its keys are made from the triple
module _ {K : Type 0} (cmp : K → K → Ordering) (key : ℕ → ℕ → Value → K) (d : Datom)
    (of : (e a : ℕ) (v : Value) → is_at (cmp (key d.e d.a d.v)) (key e a v) ≡ is_of e a v d) where
  stepped : (before : List Datom) (old new : BTreeMap K ℕ) (left : Option ℕ) (v : Value) → left_by d ≡ left → v ≡ d.v
      → Updates cmp old new (key d.e d.a v) left
      → ((e a : ℕ) (v : Value) → get cmp old (key e a v) ≡ t_after None before e a v) → (e a : ℕ) (v : Value) → get cmp new
      (key e a v) ≡ t_after None (before ++ d ∷ []) e a v
  stepped before old new left v leaves is_v updates has e a x =
      let there : Updates cmp old new (key d.e d.a d.v) left = subst (λ z. Updates cmp old new (key d.e d.a z) left) is_v updates in
      there.0 (key e a x)
      ∙ ap (λ b. cond b left (get cmp old (key e a x))) (of e a x)
      ∙ ap (λ t. cond (is_of e a x d) t (get cmp old (key e a x))) (sym leaves)
      ∙ ap (λ t. cond (is_of e a x d) (left_by d) t) (has e a x)
      ∙ sym (t_after-push None before d e a x)

-- what one datom does to the maps: each is updated at the datom's triple, whose value is a copy of the datom's
pub record Follows (d : Datom) (old new : FactMaps) (left : Option ℕ) (u v w : Value) : Type 0 where
  pub leaves : left_by d ≡ left
  pub is_u : u ≡ d.v
  pub is_v : v ≡ d.v
  pub is_w : w ≡ d.v
  pub by_entity : Updates place_cmp old.by_entity new.by_entity (d.e, d.a, u) left
  pub by_attribute : Updates place_cmp old.by_attribute new.by_attribute (d.a, d.e, v) left
  pub by_value : Updates content_cmp old.by_value new.by_value (w, d.a, d.e) left
  pub entities_ordered : IsOrdered place_cmp new.by_entity
  pub attributes_ordered : IsOrdered place_cmp new.by_attribute
  pub values_ordered : IsOrdered content_cmp new.by_value

pub followed : (before : List Datom) (d : Datom) (old new : FactMaps) (left : Option ℕ) (u v w : Value) → Follows d old new left u v w
    → HasFacts before old → HasFacts (before ++ d ∷ []) new
followed before d old new left u v w is has =
    record {
      by_entity =
          stepped place_cmp (λ e a v. (e, a, v)) d
          (of_entity d) before old.by_entity new.by_entity left u is.leaves is.is_u is.by_entity has.by_entity;
      by_attribute =
          stepped place_cmp (λ e a v. (a, e, v)) d
          (of_attribute d) before old.by_attribute new.by_attribute left v is.leaves is.is_v is.by_attribute has.by_attribute;
      by_value =
          stepped content_cmp (λ e a v. (v, a, e)) d
          (of_value d) before old.by_value new.by_value left w is.leaves is.is_w is.by_value has.by_value;
      entities_ordered = is.entities_ordered;
      attributes_ordered = is.attributes_ordered;
      values_ordered = is.values_ordered;
    }
