-- A seek goes to the last piece whose first datom is below the probe.
use Rattle.std.proofs.Common.{◌≡◌, ℕ, zero, suc, ◌+◌, true, false, List, [], ◌∷◌, ◌++◌, length, take, refl, subst, arith, append-nil}
use Rattle.std.proofs.Common.{length-append, Some, inl, inr}
use Rattle.std.specs.List.{slice_get}
use Rattle.std.proofs.lemmas.Bool.{cases_Bool}
use Rattle.std.specs.declared.cmp.Ordering.TheVariants.{Less}
use Rattle.fb_values.specs.declared.facts.Datom.{Datom}
use Rattle.fb_values.specs.declared.indexes.Order.{Order}
use Rattle.fb_values.specs.declared.indexes.Probe.{Probe}
use Rattle.fb_values.specs.Orders.{key_cmp}
use Rattle.fb_values.specs.Rising.{IsBelowAll, IsRising}
use Rattle.fb_search.specs.Places.{is_below, place_of}
use Rattle.fb_search.proofs.Ends.{rising-append_right, place_of-behind, place_of-before}
use Rattle.seg_tree.specs.Chunks.{joined, AreFirsts}

-- the first datoms of a rising list's pieces rise
behind : (order : Order) (d : Datom) (xs ys : List Datom) → IsBelowAll order d (xs ++ ys) → IsBelowAll order d ys
behind order d [] ys before = before
behind order d (x ∷ xs) ys before = behind order d xs ys before.1

before_firsts : (order : Order) (d : Datom) (hs : List Datom) (cs : List (List Datom)) → AreFirsts hs cs → IsBelowAll order d (joined cs)
    → IsBelowAll order d hs
before_firsts order d [] cs h before = tt
before_firsts order d (f ∷ hs) [] h before = absurd h
before_firsts order d (f ∷ hs) ([] ∷ cs) h before = absurd h.0
before_firsts order d (f ∷ hs) ((x ∷ c) ∷ cs) h before =
    (subst (λ (z : Datom). key_cmp order d z ≡ Less) h.0 before.0, before_firsts order d hs cs h.1 (behind order d c (joined cs) before.1))

pub rising_firsts : (order : Order) (hs : List Datom) (cs : List (List Datom)) → AreFirsts hs cs → IsRising order (joined cs)
    → IsRising order hs
rising_firsts order [] cs h rising = tt
rising_firsts order (f ∷ hs) [] h rising = absurd h
rising_firsts order (f ∷ hs) ([] ∷ cs) h rising = absurd h.0
rising_firsts order (f ∷ hs) ((x ∷ c) ∷ cs) h rising = (
  subst (λ (z : Datom). IsBelowAll order z hs) h.0 (before_firsts order x hs cs h.1 (behind order x c (joined cs) rising.0)),
  rising_firsts order hs cs h.1 (rising-append_right order c (joined cs) rising.1),
)

-- no piece begins below the probe
pub place_of-none : (p : Probe) (hs : List Datom) (cs : List (List Datom)) → AreFirsts hs cs → place_of p hs ≡ 0
    → place_of p (joined cs) ≡ 0
place_of-none p [] [] h none = refl
place_of-none p [] (c ∷ cs) h none = absurd h
place_of-none p (f ∷ hs) [] h none = absurd h
place_of-none p (f ∷ hs) ([] ∷ cs) h none = absurd h.0
place_of-none p (f ∷ hs) ((x ∷ c) ∷ cs) h none =
    elim (cases_Bool (is_below p x)) [
      | inl below ↦
          let up : 1 + place_of p hs ≡ 0 = rw (subst (λ (z : Datom). is_below p z ≡ true) h.0 below) at none in absurd (omega arith)
      | inr above ↦ rw above refl
    ]

-- pieces behind, of which none begins below the probe, hold nothing below it
place_of-front : (p : Probe) (c : List Datom) (hs : List Datom) (cs : List (List Datom)) → AreFirsts hs cs → place_of p hs ≡ 0
    → place_of p (c ++ joined cs) ≡ place_of p c
place_of-front p c [] [] h none = rw append-nil refl
place_of-front p c [] (b ∷ cs) h none = absurd h
place_of-front p c (f ∷ hs) [] h none = absurd h
place_of-front p c (f ∷ hs) ([] ∷ cs) h none = absurd h.0
place_of-front p c (f ∷ hs) ((x ∷ b) ∷ cs) h none =
    elim (cases_Bool (is_below p x)) [
      | inl below ↦
          let up : 1 + place_of p hs ≡ 0 = rw (subst (λ (z : Datom). is_below p z ≡ true) h.0 below) at none in absurd (omega arith)
      | inr above ↦ place_of-before p c x (b ++ joined cs) above
    ]

-- a piece behind that begins below the probe
place_of-back : (p : Probe) (c : List Datom) (hs : List Datom) (cs : List (List Datom)) (k : ℕ) → AreFirsts hs cs
    → IsRising p.order (c ++ joined cs) → place_of p hs ≡ suc k → place_of p (c ++ joined cs) ≡ length c + place_of p (joined cs)
place_of-back p c [] cs k h rising found = absurd (cc)
place_of-back p c (f ∷ hs) [] k h rising found = absurd h
place_of-back p c (f ∷ hs) ([] ∷ cs) k h rising found = absurd h.0
place_of-back p c (f ∷ hs) ((x ∷ b) ∷ cs) k h rising found =
    elim (cases_Bool (is_below p x)) [
      | inl below ↦ rw (place_of-behind p c x (b ++ joined cs) rising below, below) (omega arith)
      | inr above ↦ let none : 0 ≡ suc k = rw (subst (λ (z : Datom). is_below p z ≡ false) h.0 above) at found in absurd (omega arith)
    ]

first_found : (p : Probe) (f : Datom) (hs : List Datom) (k : ℕ) → place_of p (f ∷ hs) ≡ suc k → place_of p hs ≡ k
first_found p f hs k found =
    elim (cases_Bool (is_below p f)) [
      | inl below ↦ let up : 1 + place_of p hs ≡ suc k = rw below at found in omega arith
      | inr above ↦ let none : 0 ≡ suc k = rw above at found in absurd (omega arith)
    ]

-- the last piece that begins below the probe has the place, or the place is right behind it
pub place_of-piece : (p : Probe) (hs : List Datom) (cs : List (List Datom)) (k : ℕ) (c : List Datom)
    → AreFirsts hs cs → IsRising p.order (joined cs) → place_of p hs ≡ suc k → slice_get cs k ≡ Some c
    → place_of p (joined cs) ≡ length (joined (take k cs)) + place_of p c
place_of-piece p [] cs k c h rising found read = absurd (cc)
place_of-piece p (f ∷ hs) [] k c h rising found read = absurd h
place_of-piece p (f ∷ hs) (b ∷ cs) zero c h rising found read =
    let same : b ≡ c = cc in
    rw (place_of-front p b hs cs h.1 (first_found p f hs 0 found), same) (omega arith)
place_of-piece p (f ∷ hs) (b ∷ cs) (suc k) c h rising found read =
    let rest = first_found p f hs (suc k) found in
    rw (
      place_of-back p b hs cs k h.1 rising rest,
      place_of-piece p hs cs k c h.1 (rising-append_right p.order b (joined cs) rising) rest read,
    ) (omega (arith, length-append b (joined (take k cs))))
