-- Merged trees stand for the first entries of a history.
use Rattle.std.proofs.Common.{◌≡◌, ℕ, ◌≤◌, ◌⊎◌, List, ◌++◌, leb, sym, ◌∙◌, subst, inl, inr, arith}
use Rattle.std.specs.Prelude.{Contains, IsTrue}
use Rattle.std.specs.declared.cmp.Ordering.TheVariants.{Equal}
use Rattle.std.specs.Cmp.{tied_itself}
use Rattle.std.specs.Cmp.Lexicographic.{slice_cmp, lists_total}
use Rattle.std.proofs.lemmas.Bool.{and_parts, cases_Bool, cases_lt, le-leb, leb-true}
use Rattle.std.proofs.lemmas.List.Elements.{Contains-append_cases}
use Rattle.fb_values.specs.declared.facts.Datom.{Datom}
use Rattle.fb_values.specs.declared.facts.Entry.{Entry}
use Rattle.fb_values.specs.declared.indexes.Order.{Order}
use Rattle.fb_values.specs.declared.facts.Value.{Value}
use Rattle.fb_values.specs.Orders.{key_cmp, key_of, value_cmp}
use Rattle.fb_values.specs.OrderLaws.{value_cmp_total, IsAtOnePlace}
use Rattle.fb_values.specs.Lists.{Lists, list_in}
use Rattle.fb_values.proofs.Rising.{rises_from, rising_from}
use Rattle.fb_model.specs.Rising.{IsRisingListOf}
use Rattle.fb_model.specs.History.{upto, said}
use Rattle.fb_model.specs.Facts.{facts}
use Rattle.fb_model.specs.Schema.{covers}
use Rattle.fb_model.specs.Lawful.{IsLawful}
use Rattle.fb_model.proofs.Times.{said-upto, same_keys, one_for_each_key_in}
use Rattle.fb_covers.specs.Coverage.{Coverage}
use Rattle.live_index.specs.Growth.{is_held}
use Rattle.live_index.proofs.Members.{from_filter, into_filter}
use Rattle.view_model.specs.Stands.{IsIndexed, IsLive, RootStands}
use Rattle.seg_merge.specs.Merged.{is_due, IsMerged, IsMergeable}
use Rattle.seg_merge.specs.Standing.{CanMerge}

-- what is said up to an entry is what is said with a t up to it
said_early : (h : List Entry) (c : ℕ) (d : Datom) → IsLawful h → Contains (said (upto h c)) d → Contains (said h) d × (d.t ≤ c)
said_early h c d lawful there =
    let at = from_filter (λ (x : Datom). leb x.t c) (said h) d (subst (λ (ds : List Datom). Contains ds d) (said-upto h lawful c) there) in
    (at.0, leb-true d.t c at.1)

early_said : (h : List Entry) (c : ℕ) (d : Datom) → IsLawful h → Contains (said h) d → d.t ≤ c → Contains (said (upto h c)) d
early_said h c d lawful there early =
    subst (λ (ds : List Datom). Contains ds d) (sym (said-upto h lawful c))
    (into_filter (λ (x : Datom). leb x.t c) (said h) d there (le-leb d.t c early))

module _ (h : List Entry) (old c : ℕ) (coverage : Coverage) (roots live : Lists) (can : CanMerge h old c coverage roots live)
    (order : Order) where
  covered_after : (d : Datom) → IsTrue (is_held coverage order d) → IsTrue (covers (facts (upto h c)) order d.a)
  covered_after d is = sym (can.coverage_is order d.a) ∙ is

  held_after : (d : Datom) → IsTrue (covers (facts (upto h c)) order d.a) → IsTrue (is_held coverage order d)
  held_after d is = can.coverage_is order d.a ∙ is

  due_parts : (d : Datom) → IsTrue (is_due coverage c order d) → (d.t ≤ c) × IsTrue (is_held coverage order d)
  due_parts d is = let both = and_parts (leb d.t c) (is_held coverage order d) is in (leb-true d.t c both.0, both.1)

  due_from : (d : Datom) → d.t ≤ c → IsTrue (is_held coverage order d) → IsTrue (is_due coverage c order d)
  due_from d early is = rw (le-leb d.t c early) is

  -- a merged datom is one of the entries up to c, and is covered then
  indexed : (d : Datom)
      → ((Contains (list_in roots order) d × IsTrue (is_held coverage order d))
      ⊎ (Contains (list_in live order) d × IsTrue (is_due coverage c order d)))
      → IsIndexed (upto h c) order d
  indexed d given =
      elim given [
        | inl a ↦
            let was = ((can.roots_stand.trees order).members d).0 a.0 in
            let early = said_early h old d can.lawful was.is_said in
            record { is_said = early_said h c d can.lawful early.0 (omega (arith, early.1, can.later)); is_covered = covered_after d a.1 }
        | inr b ↦
            let is = ((can.live_stands order).members d).0 b.0 in
            let due = due_parts d b.1 in
            record { is_said = early_said h c d can.lawful is.0.is_said due.0; is_covered = covered_after d due.1 }
      ]

  is_live : (d : Datom) → Contains (said h) d → d.t ≤ c → IsTrue (covers (facts (upto h c)) order d.a) → IsLive h old order d
      → Contains (list_in live order) d
  is_live d there early is live_now =
      let all : IsTrue (covers (facts h) order d.a) = sym (can.still_covered order d there early) ∙ is in
      ((can.live_stands order).members d).1 (record { is_said = there; is_covered = all }, live_now)

  -- and each of them is merged
  merged : (d : Datom) → IsIndexed (upto h c) order d
      → ((Contains (list_in roots order) d × IsTrue (is_held coverage order d))
      ⊎ (Contains (list_in live order) d × IsTrue (is_due coverage c order d)))
  merged d is =
      let early = said_early h c d can.lawful is.is_said in
      let now = held_after d is.is_covered in
      elim (cases_lt old d.t) [
        | inl later ↦ inr (is_live d early.0 early.1 is.is_covered (inl later), due_from d early.1 now)
        | inr before ↦
            elim (cases_Bool (covers (facts (upto h old)) order d.a)) [
              | inl was ↦ inl (
                ((can.roots_stand.trees order).members d).1
                    (record { is_said = early_said h old d can.lawful early.0 before; is_covered = was }),
                now,
              )
              | inr was_not ↦ inr (is_live d early.0 early.1 is.is_covered (inr was_not), due_from d early.1 now)
            ]
      ]

  pub tree_stands : (new : List Datom) → IsMerged order coverage c (list_in roots order) (list_in live order) new
      → IsRisingListOf order new (IsIndexed (upto h c) order)
  tree_stands new is = record {
    rising = rises_from order new is.rising;
    members = λ d. (λ there. indexed d ((is.members d).0 there), λ there. (is.members d).1 (merged d there));
  }

pub root_stands : (h : List Entry) (old c : ℕ) (coverage : Coverage) (roots live new : Lists) → CanMerge h old c coverage roots live
    → ((order : Order) → IsMerged order coverage c (list_in roots order) (list_in live order) (list_in new order)) → RootStands new h c
root_stands h old c coverage roots live new can is = record {
  bound = can.bound;
  trees = λ order. tree_stands h old c coverage roots live can order (list_in new order) (is order);
}

-- lists that may be merged rise, and hold one datom for each key
pub can_rise : (h : List Entry) (old c : ℕ) (coverage : Coverage) (roots live : Lists) → CanMerge h old c coverage roots live
    → (order : Order) → IsMergeable order (list_in roots order) (list_in live order)
can_rise h old c coverage roots live can order = record {
  old_rises = rising_from order (list_in roots order) (can.roots_stand.trees order).rising;
  live_rises = rising_from order (list_in live order) (can.live_stands order).rising;
  single =
      λ x y x_in y_in place. (one_for_each_key_in h can.lawful order).same x y (in_history x x_in) (in_history y y_in) (equal x y place);
}
  where
    in_history : (d : Datom) → Contains (list_in roots order ++ list_in live order) d → Contains (said h) d
    in_history d there =
        elim (Contains-append_cases (list_in roots order) (list_in live order) d there) [
          | inl a ↦ (said_early h old d can.lawful (((can.roots_stand.trees order).members d).0 a).is_said).0
          | inr b ↦ (((can.live_stands order).members d).0 b).0.is_said
        ]

    equal : (x y : Datom) → IsAtOnePlace x y → key_cmp order x y ≡ Equal
    equal x y place =
        subst (λ (key : List Value). slice_cmp value_cmp (key_of order x) key ≡ Equal) (same_keys order x y place)
        (tied_itself (lists_total value_cmp_total) (key_of order x))
