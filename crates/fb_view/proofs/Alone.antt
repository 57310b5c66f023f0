-- The lists of one entry alone.
use Rattle.std.proofs.Common.{◌≡◌, ◌∙◌, inl, inr, List, [], ◌∷◌, ◌++◌, refl, sym, ap, subst, arith, Some}
use Rattle.std.specs.Prelude.{◌↔◌, Contains, IsTrue}
use Rattle.std.specs.Cmp.{tied_itself}
use Rattle.std.specs.Cmp.Lexicographic.{slice_cmp, lists_total}
use Rattle.std.specs.declared.cmp.Ordering.TheVariants.{Equal}
use Rattle.fb_values.specs.declared.facts.Datom.{Datom}
use Rattle.fb_values.specs.declared.indexes.Order.{Order}
use Rattle.fb_values.specs.declared.indexes.Order.TheVariants.{Eavt, Avet}
use Rattle.fb_values.specs.Orders.{key_of, value_cmp}
use Rattle.fb_values.specs.OrderLaws.{value_cmp_total}
use Rattle.fb_covers.specs.Coverage.{Coverage}
use Rattle.fb_values.specs.Lists.{list_in}
use Rattle.fb_model.specs.Rising.{IsRisingListOf}
use Rattle.fb_model.specs.FirstEntry.{first_entry}
use Rattle.fb_model.specs.History.{upto, said}
use Rattle.fb_model.specs.Facts.{facts}
use Rattle.fb_model.proofs.LawfulHistories.{IsLawful-first}
use Rattle.fb_model.proofs.Times.{same_keys, one_for_each_key}
use Rattle.live_index.specs.Growth.{HasNoTwins, IsOffered, IsGrown, is_held}
use Rattle.live_index.specs.Standing.{IsCoverageOf}
use Rattle.live_index.proofs.Members.{contains_none}
use Rattle.view_model.specs.Stands.{IsIndexed, RootStands}
use Rattle.seg_tree.specs.Indexes.{trees_of}
use Rattle.seg_tree.specs.declared.roots.Roots.{Roots}
use Rattle.std.specs.List.{All, slice_get}
use Rattle.fb_values.specs.declared.facts.Entry.{Entry}
use Rattle.fb_schema.specs.Described.{SchemaStands}
use Rattle.fb_schema.specs.Tables.{HasCoverage}
use Rattle.fb_view.specs.declared.growth.Older.{Older}
use Rattle.fb_view.specs.InAvet.{IsInAvet}
use Rattle.fb_view.specs.SnapshotModel.{AreFacts, AreWhole}
use Rattle.fb_view.proofs.Standing.{coverage_of}
use Rattle.fb_values.proofs.Rising.{rises_from}

pub grown_alone : (order : Order) (coverage : Coverage) (ds new : List Datom) → IsGrown order coverage [] [] ds new
    → (d : Datom) → Contains new d ↔ (Contains ds d × IsTrue (is_held coverage order d))
grown_alone order coverage ds new grown d = (
  λ there. let is = (grown.members d).0 there in (of_these is.0, is.1),
  λ is. (grown.members d).1 (inr is.0, is.1),
)
  where
    of_these : IsOffered order [] [] ds d → Contains ds d
    of_these offered =
        elim offered [
          | inl older ↦ elim older [ inl none ↦ absurd (contains_none d none) | inr filled ↦ absurd (contains_none d filled.1) ]
          | inr there ↦ there
        ]

-- what an empty AVET is refilled with
pub refilled_alone : (coverage : Coverage) (ds new : List Datom) → IsGrown Avet coverage [] ds [] new → IsInAvet coverage ds new
refilled_alone coverage ds new grown = record {
  rising = grown.rising;
  members = λ d. (
    λ there. let is = (grown.members d).0 there in (of_these d is.0, is.1),
    λ is. (grown.members d).1 (inl (inr (refl, is.0)), is.1),
  );
}
  where
    of_these : (d : Datom) → IsOffered Avet [] ds [] d → Contains ds d
    of_these d offered =
        elim offered [
          | inl older ↦ elim older [ inl none ↦ absurd (contains_none d none) | inr filled ↦ filled.1 ]
          | inr none ↦ absurd (contains_none d none)
        ]

-- nothing is held by any coverage, and brings no twins
pub none_held : (coverage : Coverage) (order : Order) (old : List Datom) → old ≡ [] → All (λ d. IsTrue (is_held coverage order d)) old
none_held coverage order old none =
    subst (λ (ds : List Datom). All (λ d. IsTrue (is_held coverage order d)) ds) (sym none) (λ k d within. absurd (omega (arith, within)))

pub single_alone : (old refill ds : List Datom) → old ≡ [] → HasNoTwins (refill ++ ds) → HasNoTwins (old ++ refill ++ ds)
single_alone old refill ds none single = subst (λ (l : List Datom). HasNoTwins (l ++ refill ++ ds)) (sym none) single

-- ---- the first entry

pub first_twins : HasNoTwins first_entry.datoms
first_twins x y in_x in_y at =
    (one_for_each_key (first_entry ∷ []) IsLawful-first).same x y (as_said x in_x) (as_said y in_y)
    (subst (λ key. slice_cmp value_cmp (key_of Eavt x) key ≡ Equal) (same_keys Eavt x y at)
    (tied_itself (lists_total value_cmp_total) (key_of Eavt x)))
  where
    as_said : (d : Datom) → Contains first_entry.datoms d → Contains (said (first_entry ∷ [])) d
    as_said d there = subst (λ (ds : List Datom). Contains ds d) (sym (append-nil first_entry.datoms)) there
      where
        append-nil : (ds : List Datom) → ds ++ [] ≡ ds
        append-nil [] = refl
        append-nil (x ∷ ds) = ap (λ l. x ∷ l) (append-nil ds)

pub first_roots : (roots : Roots) (coverage : Coverage) → IsCoverageOf coverage (facts (first_entry ∷ []))
    → ((order : Order) → IsGrown order coverage [] [] first_entry.datoms (list_in (trees_of roots) order))
    → RootStands (trees_of roots) (first_entry ∷ []) 0
first_roots roots coverage is grown = record { bound = omega arith; trees = trees }
  where
    append-nil : (ds : List Datom) → ds ++ [] ≡ ds
    append-nil [] = refl
    append-nil (x ∷ ds) = ap (λ l. x ∷ l) (append-nil ds)

    trees : (order : Order) → IsRisingListOf order (list_in (trees_of roots) order) (IsIndexed (upto (first_entry ∷ []) 0) order)
    trees order = record {
      rising = rises_from order (list_in (trees_of roots) order) (grown order).rising;
      members = λ d. (
        λ there.
            let at = (grown_alone order coverage first_entry.datoms (list_in (trees_of roots) order) (grown order) d).0 there in
            record {
              is_said = subst (λ (ds : List Datom). Contains ds d) (sym (append-nil first_entry.datoms)) at.0;
              is_covered = sym (is order d.a) ∙ at.1;
            },
        λ given.
            (grown_alone order coverage first_entry.datoms (list_in (trees_of roots) order) (grown order) d).1
            (subst (λ (ds : List Datom). Contains ds d) (append-nil first_entry.datoms) given.is_said, is order d.a ∙ given.is_covered),
      );
    }

pub first_is : (h : List Entry) (entry : Entry) → h ≡ first_entry ∷ [] → slice_get h 0 ≡ Some entry → entry ≡ first_entry
first_is h entry is read = let same : Some first_entry ≡ Some entry = sym (ap (λ (l : List Entry). slice_get l 0) is) ∙ read in cc

whole_first : (older : Older) (coverage : Coverage) → IsCoverageOf coverage (facts (first_entry ∷ [])) → older.held ≡ coverage
    → older.covered ≡ 0 → AreFacts older.roots older.facts
    → ((order : Order) → IsGrown order coverage [] [] first_entry.datoms (list_in (trees_of older.roots) order))
    → AreWhole (first_entry ∷ []) older
whole_first older coverage is held covered now_is grown = record {
  lawful = IsLawful-first;
  roots_stand = subst (RootStands (trees_of older.roots) (first_entry ∷ [])) (sym covered) (first_roots older.roots coverage is grown);
  covered_is = covered;
  held_is = subst (λ (c : Coverage). IsCoverageOf c (facts (first_entry ∷ []))) (sym held) is;
  now_is = now_is;
}

-- the trees of the first entry alone hold a whole history
pub first_whole : (h : List Entry) (entry : Entry) (schema : List Datom) (older : Older) (coverage : Coverage) → h ≡ first_entry ∷ []
    → slice_get h 0 ≡ Some entry → SchemaStands schema (entry ∷ []) → HasCoverage coverage schema → older.held ≡ coverage
    → older.covered ≡ 0 → AreFacts older.roots older.facts
    → ((order : Order) → IsGrown order coverage [] [] entry.datoms (list_in (trees_of older.roots) order))
    → SchemaStands schema h × AreWhole h older
first_whole h entry schema older coverage is read stands has held covered now_is grown =
    let one = first_is h entry is read in
    let stands_first : SchemaStands schema (first_entry ∷ []) = subst (λ (e : Entry). SchemaStands schema (e ∷ [])) one stands in (
      subst (SchemaStands schema) (sym is) stands_first,
      subst (λ (l : List Entry). AreWhole l older) (sym is)
          (whole_first older coverage (coverage_of schema (first_entry ∷ []) coverage stands_first has) held covered now_is (subst
          (λ (e : Entry). (order : Order) → IsGrown order coverage [] [] e.datoms (list_in (trees_of older.roots) order)) one grown)),
    )
