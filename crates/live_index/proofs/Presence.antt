-- What stands of two lists read as one, where the second one is later: what stands of the first and has no datom of its triple in
-- the second, and what stands of the second.
use Rattle.std.proofs.Common.{◌≡◌, ◌∙◌, ◌⊎◌, inl, inr, Bool, true, false, not, List, ◌++◌, refl, sym, ap, arith}
use Rattle.std.specs.Prelude.{Contains, filter}
use Rattle.std.specs.List.{list_any}
use Rattle.std.proofs.lemmas.Bool.{cases_Bool, true≢false}
use Rattle.std.proofs.lemmas.List.Elements.{Contains-append_left, Contains-append_right, Contains-append_cases}
use Rattle.fb_values.specs.declared.facts.Datom.{Datom}
use Rattle.fb_values.specs.declared.indexes.Order.{Order}
use Rattle.fb_values.specs.Rising.{IsRising}
use Rattle.fb_model.specs.Facts.{standing}
use Rattle.fb_model.proofs.Members.{some_member, any_member, standing_member}
use Rattle.live_index.specs.Growth.{HasNoTwins}
use Rattle.live_index.specs.Ending.{is_mate}
use Rattle.live_index.specs.Halves.{IsPair, merged, outlives, withdrawn, IsLater}
use Rattle.live_index.proofs.Members.{from_filter, into_filter}
use Rattle.live_index.proofs.Growing.{single_part, rising-filter}
use Rattle.live_index.proofs.Halves.{from_merged, into_merged, merged_rises, one_of_both, same_list, withdrawn_member}
use Rattle.live_index.proofs.Together.{IsLast, standing_last, last_stands, rising_by_time, rising-standing, of_back}

-- a test that passes with a datom all of its triple may come before or after
pub standing-filter : (order : Order) (p : Datom → Bool) (ds : List Datom) → IsRising order ds
    → ((x y : Datom) → is_mate x y ≡ true → p x ≡ true → p y ≡ true) → standing (filter p ds) ≡ filter p (standing ds)
standing-filter order p ds rising whole =
    same_list order (standing (filter p ds)) (filter p (standing ds)) (rising-standing order (filter p ds) part)
    (rising-filter order p (standing ds) (rising-standing order ds rising)) forth back
  where
    part : IsRising order (filter p ds)
    part = rising-filter order p ds rising

    forth : (x : Datom) → Contains (standing (filter p ds)) x → Contains (filter p (standing ds)) x
    forth x there =
        let last = standing_last (filter p ds) x (rising_by_time order (filter p ds) part) there in
        let at = from_filter p ds x last.there in
        into_filter p (standing ds) x (last_stands ds x (rising_by_time order ds rising) (record {
          there = at.0;
          added = last.added;
          latest = λ y in_it mate. last.latest y (into_filter p ds y in_it (whole x y mate at.1)) mate;
        })) at.1

    back : (x : Datom) → Contains (filter p (standing ds)) x → Contains (standing (filter p ds)) x
    back x there =
        let at = from_filter p (standing ds) x there in
        let last = standing_last ds x (rising_by_time order ds rising) at.0 in
        last_stands (filter p ds) x (rising_by_time order (filter p ds) part) (record {
          there = into_filter p ds x last.there at.1;
          added = last.added;
          latest = λ y in_it mate. last.latest y (from_filter p ds y in_it).0 mate;
        })

module _ (order : Order) (older live : List Datom) (pair : IsPair order older live) (later : IsLater older live) where
  last_of : (x : Datom) → Contains (standing (merged order older live)) x → IsLast (merged order older live) x
  last_of x there =
      standing_last (merged order older live) x (rising_by_time order (merged order older live) (merged_rises order older live)) there

  in_all : (x : Datom) → Contains older x ⊎ Contains live x → Contains (merged order older live) x
  in_all x given = into_merged order older live x pair.single given

  left : List Datom
  left = filter (outlives live) (standing older)

  single_left : HasNoTwins (filter (outlives live) (standing older) ++ standing live)
  single_left =
      single_part (filter (outlives live) (standing older) ++ standing live) (older ++ live)
      (λ x there. elim (Contains-append_cases (filter (outlives live) (standing older)) (standing live) x there) [
        | inl first ↦ Contains-append_left older live x (standing_member older x (from_filter (outlives live) (standing older) x first).0)
        | inr second ↦ Contains-append_right older live x (standing_member live x second)
      ]) pair.single

  none_after : (x : Datom) → Contains older x → IsLast (merged order older live) x → outlives live x ≡ true
  none_after x there last =
      elim (cases_Bool (list_any (is_mate x) live)) [
        | inl some ↦
            let found = some_member (is_mate x) live some in
            let late = later x found.0 there found.1 found.2 in
            let bound = last.latest found.0 (in_all found.0 (inr found.1)) found.2 in
            absurd (omega (arith, late, bound))
        | inr none ↦ ap not none
      ]

  forth : (x : Datom) → Contains (standing (merged order older live)) x
      → Contains (merged order (filter (outlives live) (standing older)) (standing live)) x
  forth x there =
      let last = last_of x there in
      into_merged order (filter (outlives live) (standing older)) (standing live) x single_left
      (elim (from_merged order older live x last.there) [
        | inl first ↦
            inl (into_filter (outlives live) (standing older) x (last_stands older x (rising_by_time order older pair.older_rises) (record {
              there = first;
              added = last.added;
              latest = λ y in_it mate. last.latest y (in_all y (inl in_it)) mate;
            })) (none_after x first last))
        | inr second ↦ inr (last_stands live x (rising_by_time order live pair.live_rises) (record {
          there = second;
          added = last.added;
          latest = λ y in_it mate. last.latest y (in_all y (inr in_it)) mate;
        }))
      ])

  not_true : (b : Bool) → not b ≡ true → b ≡ false
  not_true true is = absurd (true≢false (sym is))
  not_true false is = refl

  back : (x : Datom) → Contains (merged order (filter (outlives live) (standing older)) (standing live)) x
      → Contains (standing (merged order older live)) x
  back x there =
      last_stands (merged order older live) x (rising_by_time order (merged order older live) (merged_rises order older live))
      (elim (from_merged order (filter (outlives live) (standing older)) (standing live) x there) [
        | inl first ↦
            let at = from_filter (outlives live) (standing older) x first in
            let last = standing_last older x (rising_by_time order older pair.older_rises) at.0 in
            record {
              there = in_all x (inl last.there);
              added = last.added;
              latest = λ y in_it mate. elim (from_merged order older live y in_it) [
                | inl mine ↦ last.latest y mine mate
                | inr other ↦ absurd (true≢false (sym (any_member (is_mate x) live y other mate) ∙ not_true _ at.1))
              ];
            }
        | inr second ↦
            let last = standing_last live x (rising_by_time order live pair.live_rises) second in
            record {
              there = in_all x (inr last.there);
              added = last.added;
              latest = λ y in_it mate. elim (from_merged order older live y in_it) [
                | inl other ↦ let early = later y x other last.there (of_back x y mate) in omega (arith, early)
                | inr mine ↦ last.latest y mine mate
              ];
            }
      ])

  pub present_is : standing (merged order older live) ≡ merged order (filter (outlives live) (standing older)) (standing live)
  present_is =
      same_list order (standing (merged order older live)) (merged order (filter (outlives live) (standing older)) (standing live))
      (rising-standing order (merged order older live) (merged_rises order older live))
      (merged_rises order (filter (outlives live) (standing older)) (standing live)) forth back

-- ---- what outlives a list

-- a retraction does not stand
withdrawn-any : (order : Order) (ds : List Datom) (x z : Datom) → IsRising order ds → Contains ds z → is_mate x z ≡ true → z.added ≡ false
    → list_any (is_mate x) (withdrawn ds) ≡ true
withdrawn-any order ds x z rising there mate gone =
    elim (one_of_both ds z there) [
      | inl stands ↦ absurd (true≢false (sym (standing_last ds z (rising_by_time order ds rising) stands).added ∙ gone))
      | inr withdrawn_too ↦ any_member (is_mate x) (withdrawn ds) z withdrawn_too mate
    ]

-- so where a list has a retraction of the datom's triple with each datom of it, what does not stand of the list tells
pub outlives-withdrawn : (order : Order) (ds : List Datom) (x : Datom) → IsRising order ds
    → ((y : Datom) → Contains ds y → is_mate x y ≡ true → (z : Datom) × Contains ds z × (is_mate x z ≡ true) × (z.added ≡ false))
    → outlives (withdrawn ds) x ≡ outlives ds x
outlives-withdrawn order ds x rising ended = ap not (go (cases_Bool (list_any (is_mate x) ds)))
  where
    go : (list_any (is_mate x) ds ≡ true) ⊎ (list_any (is_mate x) ds ≡ false)
        → list_any (is_mate x) (withdrawn ds) ≡ list_any (is_mate x) ds
    go (inl some) =
        let y = some_member (is_mate x) ds some in
        let z = ended y.0 y.1 y.2 in
        withdrawn-any order ds x z.0 rising z.1 z.2 z.3 ∙ sym some
    go (inr none) =
        elim (cases_Bool (list_any (is_mate x) (withdrawn ds))) [
          | inl some ↦
              let y = some_member (is_mate x) (withdrawn ds) some in
              absurd (true≢false (sym (any_member (is_mate x) ds y.0 (withdrawn_member ds y.0 y.1) y.2) ∙ none))
          | inr neither ↦ neither ∙ sym none
        ]
