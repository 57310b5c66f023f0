-- A datom of a rising list stands where it is searched.
use Rattle.std.proofs.Common.{◌≡◌, ℕ, ◌+◌, suc, Bool, true, false, List, [], ◌∷◌, refl, sym, ap, ◌∙◌, arith, inl, inr, Some, None}
use Rattle.std.specs.Prelude.{Contains}
use Rattle.std.specs.List.{slice_get}
use Rattle.std.specs.Ordering.{is_eq, is_gt, ordering_reverse}
use Rattle.std.specs.Cmp.{tied_itself}
use Rattle.std.specs.declared.cmp.Ordering.{Ordering}
use Rattle.std.specs.declared.cmp.Ordering.TheVariants.{Less, Equal, Greater}
use Rattle.std.proofs.lemmas.Bool.{true≢false}
use Rattle.std.proofs.lemmas.Option.{slice_get_within, get_or_from_slice_get}
use Rattle.fb_values.specs.declared.facts.Datom.{Datom}
use Rattle.fb_values.specs.declared.facts.Value.{Value}
use Rattle.fb_values.specs.declared.indexes.Order.{Order}
use Rattle.fb_values.specs.declared.indexes.Order.TheVariants.{Eavt}
use Rattle.fb_values.specs.Orders.{key_cmp}
use Rattle.fb_values.specs.OrderLaws.{key_cmp_total, key_cmp-Equal}
use Rattle.fb_values.specs.Rising.{IsBelowAll, IsRising}
use Rattle.fb_search.specs.Places.{is_below, place_of, probe_of}
use Rattle.fb_search.proofs.Own.{is_below-probe_of}
use Rattle.fb_model.proofs.Members.{cases_of, none_of}

-- ---- one datom

made : ℕ → ℕ → Value → ℕ → Bool → Datom
made e a v t added = record { e = e; a = a; v = v; t = t; added = added }

of_parts : (x y : Datom) → x.e ≡ y.e → x.a ≡ y.a → x.v ≡ y.v → x.t ≡ y.t → x.added ≡ y.added → x ≡ y
unfolding made
of_parts x y e a v t added =
    ap (λ z. made z x.a x.v x.t x.added) e ∙ ap (λ z. made y.e z x.v x.t x.added) a ∙ ap (λ z. made y.e y.a z x.t x.added) v
    ∙ ap (λ z. made y.e y.a y.v z x.added) t ∙ ap (λ z. made y.e y.a y.v y.t z) added

-- datoms with one key that both add, or both retract, are one
pub one_datom : (x y : Datom) → x.added ≡ y.added → key_cmp Eavt x y ≡ Equal → x ≡ y
one_datom x y added equal =
    let at = key_cmp-Equal Eavt x y equal in
    of_parts x y at.e at.a at.v at.t added

pub tied : (order : Order) (x y : Datom) → x ≡ y → key_cmp order x y ≡ Equal
tied order x y same = ap (key_cmp order x) (sym same) ∙ tied_itself (key_cmp_total order) x

-- ---- where it stands

before : (order : Order) (x d : Datom) (ds : List Datom) → IsBelowAll order x ds → Contains ds d → key_cmp order x d ≡ Less
before order x d [] stands member = absurd (none_of d member)
before order x d (y ∷ ds) stands member =
    elim (cases_of y d ds member) [
      | inl same ↦ ap (key_cmp order x) (sym same) ∙ stands.0
      | inr later ↦ before order x d ds stands.1 later
    ]

below : (order : Order) (d x : Datom) → key_cmp order x d ≡ Less → is_below (probe_of order d) x ≡ true
below order d x less = is_below-probe_of order d x ∙ ap is_gt ((key_cmp_total order).antisymm d x ∙ ap ordering_reverse less)

not_below : (order : Order) (d : Datom) → is_below (probe_of order d) d ≡ false
not_below order d = is_below-probe_of order d d ∙ ap is_gt (tied_itself (key_cmp_total order) d)

one-add : (n : ℕ) → 1 + n ≡ suc n
one-add n = omega arith

pub at_its_place : (order : Order) (d : Datom) (ds : List Datom) → IsRising order ds → Contains ds d
    → slice_get ds (place_of (probe_of order d) ds) ≡ Some d
at_its_place order d [] rising member = absurd (none_of d member)
at_its_place order d (x ∷ ds) rising member =
    elim (cases_of x d ds member) [
      | inl same ↦
          let here : is_below (probe_of order d) x ≡ false = ap (is_below (probe_of order d)) same ∙ not_below order d in
          rw here (ap Some same)
      | inr later ↦
          let behind : is_below (probe_of order d) x ≡ true = below order d x (before order x d ds rising.0 later) in
          rw (behind, one-add) (at_its_place order d ds rising.1 later)
    ]

is_equal : (o : Ordering) → is_eq o ≡ true → o ≡ Equal
is_equal Less is = absurd (true≢false (sym is))
is_equal Equal is = refl
is_equal Greater is = absurd (true≢false (sym is))

pub one_key : (x y : Datom) → x.added ≡ y.added → is_eq (key_cmp Eavt x y) ≡ true → x ≡ y
one_key x y added is = one_datom x y added (is_equal (key_cmp Eavt x y) is)

-- ---- what a search tells

pub nothing_there : (ds : List Datom) (d : Datom) (place : ℕ) → IsRising Eavt ds → place ≡ place_of (probe_of Eavt d) ds
    → slice_get ds place ≡ None → Contains ds d → ⊥
nothing_there ds d place rising is none member =
    let found : slice_get ds place ≡ Some d = ap (slice_get ds) is ∙ at_its_place Eavt d ds rising member in
    cc

pub what_is_there : (ds : List Datom) (d x : Datom) (place : ℕ) → IsRising Eavt ds → place ≡ place_of (probe_of Eavt d) ds
    → slice_get ds place ≡ Some x → Contains ds d → x ≡ d
what_is_there ds d x place rising is some member =
    let found : slice_get ds place ≡ Some d = ap (slice_get ds) is ∙ at_its_place Eavt d ds rising member in
    cc

pub is_there : (ds : List Datom) (d x : Datom) (place : ℕ) → slice_get ds place ≡ Some x → x ≡ d → Contains ds d
is_there ds d x place some same =
    (place, slice_get_within ds place x some, get_or_from_slice_get ds place d d (some ∙ ap Some same))
