-- What stands after datoms is what the datoms leave.
use Rattle.std.proofs.Common.{◌≡◌, ℕ, Bool, true, false, cond, not, ◌&&◌, List, [], ◌∷◌, Option, Some, None, refl, ap, sym, ◌∙◌, subst, inl}
use Rattle.std.proofs.Common.{inr, ◌⊎◌, eqb}
use Rattle.std.specs.Prelude.{Contains}
use Rattle.std.specs.List.{list_any}
use Rattle.std.proofs.lemmas.Bool.{true≢false, and_parts, and_from, or_parts, or_from, eq-eqb}
use Rattle.fb_values.specs.declared.facts.Datom.{Datom}
use Rattle.fb_values.specs.declared.facts.Value.{Value}
use Rattle.fb_model.specs.Facts.{value_eq, is_of, is_last_assertion, standing}
use Rattle.fb_model.proofs.Members.{here, there, cases_of, none_of}
use Rattle.fb_model.proofs.Triples.{is_of-true, list_any-same, value_eq-refl}
use Rattle.held_facts.specs.FactMaps.{left_by, t_after}

abbrev pub fact : ℕ → ℕ → Value → ℕ → Bool → Datom
fact e a v t added = record { e = e; a = a; v = v; t = t; added = added }

same_parts : (e f a b : ℕ) (v w : Value) (t u : ℕ) (p q : Bool) → e ≡ f → a ≡ b → v ≡ w → t ≡ u → p ≡ q → fact e a v t p ≡ fact f b w u q
same_parts e f a b v w t u p q is_e is_a is_v is_t is_added = cc

is_not : (b : Bool) → not b ≡ true → b ≡ false
is_not false e = refl
is_not true e = absurd (true≢false (sym e))

untouched : (before : Option ℕ) (ds : List Datom) (e a : ℕ) (v : Value) → list_any (is_of e a v) ds ≡ false
    → t_after before ds e a v ≡ before
untouched before [] e a v none = refl
untouched before (d ∷ ds) e a v none =
    let parts = or_parts (is_of e a v d) (list_any (is_of e a v) ds) none in
    ap (λ b. t_after (cond b (left_by d) before) ds e a v) parts.0 ∙ untouched before ds e a v parts.1

is_of-itself : (d : Datom) → is_of d.e d.a d.v d ≡ true
is_of-itself d =
    and_from (eqb d.e d.e && eqb d.a d.a) (value_eq d.v d.v)
    (and_from (eqb d.e d.e) (eqb d.a d.a) (eq-eqb d.e d.e refl) (eq-eqb d.a d.a refl)) (value_eq-refl d.v)

pub stands : (ds : List Datom) (before : Option ℕ) (d : Datom) → Contains (standing ds) d → t_after before ds d.e d.a d.v ≡ Some d.t
stands [] before d member = absurd (none_of d member)
stands (x ∷ ds) before d member = go (is_last_assertion x ds) refl (stands ds (cond (is_of d.e d.a d.v x) (left_by x) before) d) member
  where
    first : is_last_assertion x ds ≡ true → t_after before (x ∷ ds) x.e x.a x.v ≡ Some x.t
    first is =
        let parts = and_parts x.added (not (list_any (is_of x.e x.a x.v) ds)) is in
        ap (λ b. t_after (cond b (left_by x) before) ds x.e x.a x.v) (is_of-itself x)
        ∙ untouched (left_by x) ds x.e x.a x.v (is_not (list_any (is_of x.e x.a x.v) ds) parts.1)
        ∙ ap (λ b. cond b (Some x.t) None) parts.0

    go : (b : Bool) → is_last_assertion x ds ≡ b → (Contains (standing ds) d → t_after before (x ∷ ds) d.e d.a d.v ≡ Some d.t)
        → Contains (cond b (x ∷ standing ds) (standing ds)) d → t_after before (x ∷ ds) d.e d.a d.v ≡ Some d.t
    go false is next later = next later
    go true is next which =
        elim (cases_of x d (standing ds) which) [
          | inl same ↦ subst (λ (z : Datom). t_after before (x ∷ ds) z.e z.a z.v ≡ Some z.t) same (first is)
          | inr later ↦ next later
        ]

stays : (x : Datom) (ds : List Datom) (d : Datom) → Contains (standing ds) d → Contains (standing (x ∷ ds)) d
stays x ds d member = go (is_last_assertion x ds)
  where
    go : (b : Bool) → Contains (cond b (x ∷ standing ds) (standing ds)) d
    go false = member
    go true = there x d (standing ds) member

-- a datom that leaves something is an addition
record Leaves (d : Datom) (t : ℕ) : Type 0 where
  added : d.added ≡ true
  is_t : d.t ≡ t

leaves : (d : Datom) (t : ℕ) → left_by d ≡ Some t → Leaves d t
leaves d t is = go d.added refl is
  where
    go : (b : Bool) → d.added ≡ b → cond b (Some d.t) None ≡ Some t → Leaves d t
    go false added is = absurd (cc)
    go true added is = record { added = added; is_t = cc }

pub told : (ds : List Datom) (before : Option ℕ) (e a : ℕ) (v : Value) (t : ℕ) → t_after before ds e a v ≡ Some t
    → Contains (standing ds) (fact e a v t true) ⊎ ((list_any (is_of e a v) ds ≡ false) × (before ≡ Some t))
told [] before e a v t is = inr (refl, is)
told (x ∷ ds) before e a v t is =
    elim (told ds (cond (is_of e a v x) (left_by x) before) e a v t is) [
      | inl member ↦ inl (stays x ds (fact e a v t true) member)
      | inr rest ↦ go (is_of e a v x) refl rest.0 rest.1
    ]
  where
    own : is_of e a v x ≡ true → list_any (is_of e a v) ds ≡ false → left_by x ≡ Some t → Contains (standing (x ∷ ds)) (fact e a v t true)
    own of none left =
        let adds = leaves x t left in
        let parts = is_of-true e a v x of in
        let last = ap not (list_any-same e a v x ds of ∙ none) in
        let stands : is_last_assertion x ds ≡ true = and_from x.added (not (list_any (is_of x.e x.a x.v) ds)) adds.added last in
        let same : x ≡ fact e a v t true =
        same_parts x.e e x.a a x.v v x.t t x.added true parts.e_is parts.a_is parts.v_is adds.is_t adds.added
        in
        subst (λ z. Contains (cond z (x ∷ standing ds) (standing ds)) (fact e a v t true)) (sym stands)
        (subst (λ z. Contains (x ∷ standing ds) z) same (here x (standing ds)))

    go : (b : Bool) → is_of e a v x ≡ b → list_any (is_of e a v) ds ≡ false → cond b (left_by x) before ≡ Some t
        → Contains (standing (x ∷ ds)) (fact e a v t true) ⊎ ((list_any (is_of e a v) (x ∷ ds) ≡ false) × (before ≡ Some t))
    go false of none is = inr (or_from (is_of e a v x) (list_any (is_of e a v) ds) of none, is)
    go true of none left = inl (own of none left)

-- what the datoms leave stands
pub told_stands : (ds : List Datom) (e a : ℕ) (v : Value) (t : ℕ) → t_after None ds e a v ≡ Some t
    → Contains (standing ds) (fact e a v t true)
told_stands ds e a v t is =
    elim (told ds None e a v t is) [
      | inl member ↦ member
      | inr rest ↦ none (rest.1)
    ]
  where
    none : None ≡ Some t → Contains (standing ds) (fact e a v t true)
    none is_some = absurd (cc)
