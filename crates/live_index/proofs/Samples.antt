-- The datoms of the tests: no two of one place differ.
use Rattle.std.proofs.Common.{◌≡◌, ◌∙◌, sym, ap, subst, inl, inr, List, [], ◌∷◌, ◌++◌}
use Rattle.std.proofs.lemmas.List.Elements.{Contains-append_cases}
use Rattle.fb_values.specs.declared.facts.Datom.{Datom}
use Rattle.fb_values.specs.declared.indexes.Order.{Order}
use Rattle.fb_covers.specs.Coverage.{Coverage}
use Rattle.live_index.specs.Growth.{HasNoTwins, IsGrown}
use Rattle.live_index.specs.Samples.{adds, AreSamples}
use Rattle.live_index.proofs.Members.{contains_none, contains-cons}

pub no_twins : (ds : List Datom) → AreSamples ds → HasNoTwins ds
no_twins ds all x y in_x in_y at =
    let added : x.added ≡ y.added = all x in_x ∙ ap adds at.t ∙ sym (all y in_y) in
    λ i. record { e = at.e i; a = at.a i; v = at.v i; t = at.t i; added = added i }

pub both : (xs ys : List Datom) → AreSamples xs → AreSamples ys → AreSamples (xs ++ ys)
both xs ys all_x all_y d there = elim (Contains-append_cases xs ys d there) [ inl x ↦ all_x d x | inr y ↦ all_y d y ]

pub none : AreSamples []
none d there = absurd (contains_none d there)

pub one : (x : Datom) → x.added ≡ adds x.t → AreSamples (x ∷ [])
one x is d there = elim (contains-cons x [] d there) [
  | inl same ↦ subst (λ (z : Datom). z.added ≡ adds z.t) same is
  | inr more ↦ absurd (contains_none d more)
]

pub pushed : (ds : List Datom) (x : Datom) → AreSamples ds → x.added ≡ adds x.t → AreSamples (ds ++ x ∷ [])
pushed ds x all is = both ds (x ∷ []) all (one x is)

-- what grew by samples has samples alone
pub grown : (order : Order) (c : Coverage) (old refill datoms new : List Datom) → AreSamples old → AreSamples refill → AreSamples datoms
    → IsGrown order c old refill datoms new → AreSamples new
grown order c old refill datoms new all_old all_refill all_new g d there =
    elim ((g.members d).0 there).0 [
      | inl was ↦ elim was [ inl o ↦ all_old d o | inr r ↦ all_refill d r.1 ]
      | inr n ↦ all_new d n
    ]
