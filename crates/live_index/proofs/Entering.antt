-- A live index with the datoms of an entry, one after the other.
use Rattle.std.proofs.Common.{◌≡◌, ◌∙◌, ℕ, ◌-◌, inl, inr, true, List, [], ◌++◌, length, refl, sym, ap, subst, arith, Option}
use Rattle.std.specs.Prelude.{Contains}
use Rattle.std.specs.List.{All, slice_get}
use Rattle.std.proofs.lemmas.List.Elements.{Contains-append_cases}
use Rattle.fb_values.specs.declared.facts.Datom.{Datom}
use Rattle.fb_values.specs.declared.indexes.Order.{Order}
use Rattle.fb_values.specs.declared.indexes.Order.TheVariants.{Eavt}
use Rattle.fb_values.specs.Lists.{Lists, list_in}
use Rattle.fb_values.specs.Rising.{IsRising}
use Rattle.fb_covers.specs.Coverage.{Coverage}
use Rattle.live_index.specs.declared.orders.Orders.{Orders}
use Rattle.live_index.specs.Ending.{IsRetracted, MayEndAll}
use Rattle.live_index.specs.Growth.{HasNoTwins, IsGrown, is_held, takes}
use Rattle.live_index.specs.Halves.{AreHalves, IsPair, MayFollow, both_lists, merged}
use Rattle.live_index.specs.Lists.{AreIf, AreIndex, AreOrders, AreUsed, IsLastOf, IsNumberIf, lists_if, lists_of, numbered}
use Rattle.live_index.specs.Walks.{later_of}
use Rattle.live_index.proofs.FourLists.{if_are_longer, if_longer, if_rise, lists_longer, lists_rise, orders_longer}
use Rattle.live_index.proofs.Growing.{Gains}
use Rattle.live_index.proofs.Halves.{both_at, from_merged, grown_new, halves_new, into_merged, may_end, merged_rises, same_list}
use Rattle.live_index.proofs.Lasts.{last_merged}
use Rattle.live_index.proofs.Members.{contains_none}
use Rattle.live_index.proofs.Numbers.{number_longer, numbered_longer}
use Rattle.live_index.proofs.Together.{of_itself}
use Rattle.live_index.proofs.Used.{single_with}

-- the index before, its lists, and a table with more datoms
pub record IsBefore (old table : List Datom) (holding : Orders) (past : Option Orders) (last : Option ℕ) (now : Lists) (ds : List Datom)
    : Type 0 where
  pub are : AreIndex old holding past last
  pub is : both_lists (lists_of old holding) (lists_if old past) ≡ now
  pub table_is : table ≡ old ++ ds
  pub follow : (order : Order) → MayFollow (list_in now order) ds

module _ (old table : List Datom) (holding : Orders) (past : Option Orders) (last : Option ℕ) (now : Lists) (ds : List Datom)
    (before : IsBefore old table holding past last now ds) where
  abbrev H : Lists
  H = lists_of old holding

  abbrev P : Lists
  P = lists_if old past

  pub single_longer : HasNoTwins table
  single_longer =
      subst HasNoTwins (sym before.table_is)
      (single_with old now ds (before.are.holding_are Eavt).single (subst (AreUsed old) before.is before.are.used)
      (λ order. (before.follow order).single))

  single_plain : HasNoTwins (old ++ ds)
  single_plain = subst HasNoTwins before.table_is single_longer

  pub holding_longer : AreOrders table holding
  holding_longer =
      subst (λ (t : List Datom). AreOrders t holding) (sym before.table_is) (orders_longer old ds holding before.are.holding_are single_plain)

  pub past_longer : AreIf table past
  past_longer = subst (λ (t : List Datom). AreIf t past) (sym before.table_is) (if_are_longer old ds past before.are.past_are single_plain)

  pub holding_same : lists_of table holding ≡ lists_of old holding
  holding_same = ap (λ (t : List Datom). lists_of t holding) before.table_is ∙ lists_longer old ds holding before.are.holding_are

  pub past_same : lists_if table past ≡ lists_if old past
  past_same = ap (λ (t : List Datom). lists_if t past) before.table_is ∙ if_longer old ds past before.are.past_are

  follow_merged : (order : Order) → MayFollow (merged order (list_in H order) (list_in P order)) ds
  follow_merged order =
      subst (λ (l : List Datom). MayFollow l ds) (both_at H P order)
      (subst (λ (ls : Lists). MayFollow (list_in ls order) ds) (sym before.is) (before.follow order))

  pub may_end_longer : (order : Order) → MayEndAll (list_in (lists_of table holding) order) (list_in (lists_if table past) order) ds
  may_end_longer order =
      subst (λ (ls : Lists). MayEndAll (list_in ls order) (list_in (lists_if table past) order) ds) (sym holding_same)
      (subst (λ (ls : Lists). MayEndAll (list_in H order) (list_in ls order) ds) (sym past_same)
      (may_end order (list_in H order) (list_in P order) ds (before.are.halves order) (follow_merged order)))

  -- no datom of the entry is in the lists
  pub is_fresh : (order : Order) (d : Datom) → Contains ds d → Contains (list_in (lists_of table holding) order) d → ⊥
  is_fresh order d there holds = let early = (may_end_longer order d there).earlier d holds (of_itself d) in omega arith

  pub last_longer : IsNumberIf table last
  last_longer =
      subst (λ (t : List Datom). IsNumberIf t last) (sym before.table_is) (number_longer old ds last before.are.last_is.within)

  now_rises : IsRising Eavt (list_in now Eavt)
  now_rises = subst (λ (ls : Lists). IsRising Eavt (list_in ls Eavt)) before.is (merged_rises Eavt (list_in H Eavt) (list_in P Eavt))

  last_now : numbered table last ≡ slice_get (list_in now Eavt) (length (list_in now Eavt) - 1)
  last_now =
      ap (λ (t : List Datom). numbered t last) before.table_is
      ∙ numbered_longer old ds last before.are.last_is.within
      ∙ before.are.last_is.is
      ∙ ap (λ (ls : Lists). slice_get (list_in ls Eavt) (length (list_in ls Eavt) - 1)) before.is

  -- ---- what is made of it

  module _ (c : Coverage) (held : (order : Order) → All (λ d. is_held c order d ≡ true) (list_in now order))
      (h new : Lists) (made : Orders) (gone : Option Orders) (new_is : lists_of table made ≡ new)
      (retracted : (order : Order)
      → IsRetracted order c (list_in (lists_of table holding) order) (list_in (lists_if table past) order) ds (list_in h order)
      (list_in (lists_if table gone) order))
      (gains : (order : Order) → Gains (list_in h order) (λ d. Contains ds d × (takes c order d ≡ true)) (list_in new order))
      (made_are : AreOrders table made) (gone_are : AreIf table gone) (rising : IsRising Eavt ds) (new_last : Option ℕ)
      (last_within : IsNumberIf table new_last)
      (last_is : numbered table new_last ≡ later_of Eavt (numbered table last) (slice_get ds (length ds - 1))) where
    abbrev p : Lists
    p = lists_if table gone

    held_merged : (order : Order) → All (λ d. is_held c order d ≡ true) (merged order (list_in H order) (list_in P order))
    held_merged order =
        subst (λ (l : List Datom). All (λ d. is_held c order d ≡ true) l) (both_at H P order)
        (subst (λ (ls : Lists). All (λ d. is_held c order d ≡ true) (list_in ls order)) (sym before.is) (held order))

    retracted_from : (order : Order) → IsRetracted order c (list_in H order) (list_in P order) ds (list_in h order) (list_in p order)
    retracted_from order =
        subst (λ (ls : Lists). IsRetracted order c (list_in H order) (list_in ls order) ds (list_in h order) (list_in p order)) past_same
        (subst (λ (ls : Lists). IsRetracted order c (list_in ls order) (list_in (lists_if table past) order) ds (list_in h order)
        (list_in p order)) holding_same (retracted order))

    gains_made : (order : Order) → Gains (list_in h order) (λ d. Contains ds d × (takes c order d ≡ true)) (list_in (lists_of table made) order)
    gains_made order =
        subst (λ (ls : Lists). Gains (list_in h order) (λ d. Contains ds d × (takes c order d ≡ true)) (list_in ls order)) (sym new_is)
        (gains order)

    halves_made : (order : Order) → AreHalves order (list_in (lists_of table made) order) (list_in p order)
    halves_made order =
        halves_new order c (list_in H order) (list_in P order) ds (list_in h order) (list_in p order) (list_in (lists_of table made) order)
        (before.are.halves order) (follow_merged order) (held_merged order) (retracted_from order) (gains_made order)
        (lists_rise table made made_are order) (if_rise table gone gone_are order)

    pub grown_made : (order : Order)
        → IsGrown order c (list_in now order) [] ds (list_in (both_lists (lists_of table made) (lists_if table gone)) order)
    grown_made order =
        subst (λ (ls : Lists). IsGrown order c (list_in ls order) [] ds (list_in (both_lists (lists_of table made) p) order)) before.is
        (subst (λ (l : List Datom). IsGrown order c l [] ds (list_in (both_lists (lists_of table made) p) order)) (sym (both_at H P order))
        (subst (λ (l : List Datom). IsGrown order c (merged order (list_in H order) (list_in P order)) [] ds l)
        (sym (both_at (lists_of table made) p order))
        (grown_new order c (list_in H order) (list_in P order) ds (list_in h order) (list_in p order) (list_in (lists_of table made) order)
        (before.are.halves order) (follow_merged order) (held_merged order) (retracted_from order) (gains_made order)
        (lists_rise table made made_are order) (if_rise table gone gone_are order))))

    used_made : AreUsed table (both_lists (lists_of table made) (lists_if table gone))
    used_made d there =
        elim (Contains-append_cases old ds d (subst (λ (t : List Datom). Contains t d) before.table_is there)) [
          | inl was ↦
              let at = subst (AreUsed old) before.is before.are.used d was in
              (at.0, ((grown_made at.0).members d).1 (inl (inl at.1), held_one at.0 (list_in now at.0) d (held at.0) at.1))
          | inr now_in ↦ (Eavt, ((grown_made Eavt).members d).1 (inr now_in, refl))
        ]
      where
        held_one : (order : Order) (l : List Datom) (x : Datom) → All (λ y. is_held c order y ≡ true) l → Contains l x
            → is_held c order x ≡ true
        held_one order l x all (k, within, is) = ap (is_held c order) (sym is) ∙ all k x within

    pair_now : IsPair Eavt (list_in now Eavt) ds
    pair_now =
        record {
          older_rises = now_rises;
          live_rises = rising;
          apart = λ d was new_one. let late = (before.follow Eavt).later d d was new_one (of_itself d) in omega arith;
          single = (before.follow Eavt).single;
        }

    whole : merged Eavt (list_in now Eavt) ds ≡ list_in (both_lists (lists_of table made) (lists_if table gone)) Eavt
    whole =
        same_list Eavt (merged Eavt (list_in now Eavt) ds) (list_in (both_lists (lists_of table made) (lists_if table gone)) Eavt)
        (merged_rises Eavt (list_in now Eavt) ds) (grown_made Eavt).rising
        (λ d there. ((grown_made Eavt).members d).1 (
          elim (from_merged Eavt (list_in now Eavt) ds d there) [
            | inl was ↦ inl (inl was)
            | inr new_one ↦ inr new_one
          ],
          refl,
        ))
        (λ d there. into_merged Eavt (list_in now Eavt) ds d pair_now.single (elim (((grown_made Eavt).members d).0 there).0 [
          | inl older ↦ elim older [
            | inl was ↦ inl was
            | inr none ↦ absurd (contains_none d none.1)
          ]
          | inr new_one ↦ inr new_one
        ]))

    last_made : IsLastOf table (list_in (both_lists (lists_of table made) (lists_if table gone)) Eavt) new_last
    last_made =
        record {
          within = last_within;
          is =
              last_is
              ∙ ap (λ o. later_of Eavt o (slice_get ds (length ds - 1))) last_now
              ∙ sym (last_merged Eavt (list_in now Eavt) ds pair_now)
              ∙ ap (λ (l : List Datom). slice_get l (length l - 1)) whole;
        }

    pub index_made : AreIndex table made gone new_last
    index_made = record { holding_are = made_are; past_are = gone_are; halves = halves_made; used = used_made; last_is = last_made }
