-- Where a probe leads in two lists that are read as one.
use Rattle.std.proofs.Common.{◌≡◌, ◌∙◌, suc, ◌+◌, Bool, true, false, not, List, [], ◌∷◌, refl, sym, ap, subst, arith, inl, inr}
use Rattle.std.specs.Prelude.{Contains, filter}
use Rattle.std.proofs.lemmas.Bool.{true≢false, cases_Bool}
use Rattle.fb_values.specs.declared.facts.Datom.{Datom}
use Rattle.fb_values.specs.declared.indexes.Probe.{Probe}
use Rattle.fb_values.specs.Rising.{IsBelowAll, IsRising}
use Rattle.fb_search.specs.Places.{is_below, place_of}
use Rattle.fb_search.proofs.Below.{below_earlier}
use Rattle.fb_model.specs.Facts.{standing}
use Rattle.fb_model.proofs.Members.{standing_member}
use Rattle.live_runs.specs.Changed.{from_probe}
use Rattle.live_index.specs.Halves.{IsPair, merged, withdrawn}
use Rattle.live_index.proofs.Growing.{rising-filter}
use Rattle.live_index.proofs.Halves.{from_merged, into_merged, merged_rises, one_of_both, rising-withdrawn, same_list, withdrawn_member}
use Rattle.live_index.proofs.Members.{from_filter, into_filter}
use Rattle.live_index.proofs.Stepping.{pair_ahead}
use Rattle.live_index.proofs.Together.{rising-standing}

abbrev not_below : Probe → Datom → Bool
not_below p d = not (is_below p d)

-- behind a datom that is not below a probe none is
all_from : (p : Probe) (x : Datom) (ds : List Datom) → IsBelowAll p.order x ds → is_below p x ≡ false → filter (not_below p) ds ≡ ds
all_from p x [] before above = refl
all_from p x (d ∷ ds) before above =
    elim (cases_Bool (is_below p d)) [
      | inl below ↦ absurd (true≢false (sym (below_earlier p x d before.0 below) ∙ above))
      | inr over ↦ rw over (ap (λ (l : List Datom). d ∷ l) (all_from p x ds before.1 above))
    ]

-- the probe's place is where the datoms begin that are not below it
from_place : (p : Probe) (ds : List Datom) → IsRising p.order ds → from_probe p ds ≡ filter (not_below p) ds
from_place p [] rising = refl
from_place p (d ∷ ds) rising =
    elim (cases_Bool (is_below p d)) [
      | inl below ↦ let one : 1 + place_of p ds ≡ suc (place_of p ds) = omega arith in rw (below, one) (from_place p ds rising.1)
      | inr above ↦ rw above (ap (λ (l : List Datom). d ∷ l) (sym (all_from p d ds rising.0 above)))
    ]

pub pair_from : (p : Probe) (ds : List Datom) → IsRising p.order ds
    → IsPair p.order (from_probe p (standing ds)) (from_probe p (withdrawn ds))
pair_from p ds rising = pair_ahead p.order ds (place_of p (standing ds)) (place_of p (withdrawn ds)) rising

pub from_both : (p : Probe) (ds : List Datom) → IsRising p.order ds
    → merged p.order (from_probe p (standing ds)) (from_probe p (withdrawn ds)) ≡ from_probe p ds
from_both p ds rising =
    same_list p.order (merged p.order (from_probe p (standing ds)) (from_probe p (withdrawn ds))) (from_probe p ds)
    (merged_rises p.order (from_probe p (standing ds)) (from_probe p (withdrawn ds)))
    (subst (IsRising p.order) (sym (from_place p ds rising)) (rising-filter p.order (not_below p) ds rising))
    (λ x there. elim (from_merged p.order (from_probe p (standing ds)) (from_probe p (withdrawn ds)) x there) [
      | inl stands ↦
          let at = from_list (standing ds) x (rising-standing p.order ds rising) stands in
          into_list ds x rising (standing_member ds x at.0) at.1
      | inr gone ↦
          let at = from_list (withdrawn ds) x (rising-withdrawn p.order ds rising) gone in
          into_list ds x rising (withdrawn_member ds x at.0) at.1
    ])
    (λ x there.
    let at = from_list ds x rising there in
    into_merged p.order (from_probe p (standing ds)) (from_probe p (withdrawn ds)) x (pair_from p ds rising).single
    (elim (one_of_both ds x at.0) [
      | inl stands ↦ inl (into_list (standing ds) x (rising-standing p.order ds rising) stands at.1)
      | inr gone ↦ inr (into_list (withdrawn ds) x (rising-withdrawn p.order ds rising) gone at.1)
    ]))
  where
    from_list : (l : List Datom) (x : Datom) → IsRising p.order l → Contains (from_probe p l) x → Contains l x × (not_below p x ≡ true)
    from_list l x up there = from_filter (not_below p) l x (subst (λ (k : List Datom). Contains k x) (from_place p l up) there)

    into_list : (l : List Datom) (x : Datom) → IsRising p.order l → Contains l x → not_below p x ≡ true → Contains (from_probe p l) x
    into_list l x up there passes = subst (λ (k : List Datom). Contains k x) (sym (from_place p l up)) (into_filter (not_below p) l x there passes)
