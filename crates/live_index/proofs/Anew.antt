-- The two lists of an order that are made anew.
use Rattle.std.proofs.Common.{◌≡◌, ◌∙◌, inl, inr, true, List, ◌++◌, refl, sym, ap, subst}
use Rattle.std.specs.Prelude.{Contains, filter}
use Rattle.std.proofs.lemmas.List.Elements.{Contains-append_left, Contains-append_right, Contains-append_cases}
use Rattle.fb_values.specs.declared.facts.Datom.{Datom}
use Rattle.fb_values.specs.declared.indexes.Order.{Order}
use Rattle.fb_values.specs.declared.indexes.Order.TheVariants.{Eavt, Aevt, Avet, Vaet}
use Rattle.fb_values.specs.OrderLaws.{key_cmp-Equal}
use Rattle.fb_values.specs.Rising.{IsRising}
use Rattle.fb_values.proofs.Rising.{rising_from}
use Rattle.fb_covers.specs.Coverage.{Coverage}
use Rattle.fb_model.specs.Rising.{in_order}
use Rattle.fb_model.specs.Facts.{standing}
use Rattle.fb_model.proofs.Members.{in_order-rises, in_order_member}
use Rattle.fb_model.proofs.InOrder.{in_order_has}
use Rattle.live_index.specs.Gathered.{refill_in}
use Rattle.live_index.specs.Growth.{HasNoTwins, IsGrown, IsOffered, is_held}
use Rattle.live_index.specs.Halves.{AreHalves, IsPair, merged, withdrawn}
use Rattle.live_index.proofs.Members.{contains_none, from_filter, into_filter}
use Rattle.live_index.proofs.Growing.{single_part}
use Rattle.live_index.proofs.Halves.{both_of, merged_rises, pair_of}

-- ---- what an order is offered

refilled_by : (order : Order) (refill : List Datom) (x : Datom) → Contains (refill_in order refill) x → (order ≡ Avet) × Contains refill x
refilled_by Eavt refill x there = absurd (contains_none x there)
refilled_by Aevt refill x there = absurd (contains_none x there)
refilled_by Avet refill x there = (refl, there)
refilled_by Vaet refill x there = absurd (contains_none x there)

into_refill : (order : Order) (refill : List Datom) (x : Datom) → order ≡ Avet → Contains refill x → Contains (refill_in order refill) x
into_refill order refill x is there = subst (λ (o : Order). Contains (refill_in o refill) x) (sym is) there

module _ (order : Order) (c : Coverage) (old refill ds own coming : List Datom)
    (own_is : own ≡ filter (is_held c order) old ++ filter (is_held c order) (refill_in order refill)) (coming_is : coming ≡ ds) where
  abbrev all : List Datom
  all = filter (is_held c order) own ++ filter (is_held c order) coming

  pub from_own : (x : Datom) → Contains own x → IsOffered order old refill ds x × (is_held c order x ≡ true)
  from_own x there =
      elim (Contains-append_cases (filter (is_held c order) old) (filter (is_held c order) (refill_in order refill)) x
      (subst (λ (l : List Datom). Contains l x) own_is there)) [
        | inl first ↦ let at = from_filter (is_held c order) old x first in (inl (inl at.0), at.1)
        | inr second ↦
            let at = from_filter (is_held c order) (refill_in order refill) x second in
            (inl (inr (refilled_by order refill x at.0)), at.1)
      ]

  pub from_all : (x : Datom) → Contains all x → IsOffered order old refill ds x × (is_held c order x ≡ true)
  from_all x there =
      elim (Contains-append_cases (filter (is_held c order) own) (filter (is_held c order) coming) x there) [
        | inl first ↦ from_own x (from_filter (is_held c order) own x first).0
        | inr second ↦
            let at = from_filter (is_held c order) coming x second in
            (inr (subst (λ (l : List Datom). Contains l x) coming_is at.0), at.1)
      ]

  pub into_all : (x : Datom) → IsOffered order old refill ds x → is_held c order x ≡ true → Contains all x
  into_all x given held =
      elim given [
        | inl older ↦
            Contains-append_left (filter (is_held c order) own) (filter (is_held c order) coming) x
            (into_filter (is_held c order) own x (subst (λ (l : List Datom). Contains l x) (sym own_is) (elim older [
              | inl was ↦
                  Contains-append_left (filter (is_held c order) old) (filter (is_held c order) (refill_in order refill)) x
                  (into_filter (is_held c order) old x was held)
              | inr filled ↦
                  Contains-append_right (filter (is_held c order) old) (filter (is_held c order) (refill_in order refill)) x
                  (into_filter (is_held c order) (refill_in order refill) x (into_refill order refill x filled.0 filled.1) held)
            ])) held)
        | inr now ↦
            Contains-append_right (filter (is_held c order) own) (filter (is_held c order) coming) x
            (into_filter (is_held c order) coming x (subst (λ (l : List Datom). Contains l x) (sym coming_is) now) held)
      ]

  -- ---- and its halves

  module _ (table holding past : List Datom) (single : HasNoTwins table)
      (own_in : (x : Datom) → Contains own x → Contains table x) (coming_in : (x : Datom) → Contains coming x → Contains table x)
      (stands : holding ≡ standing (in_order order all)) (falls : past ≡ withdrawn (in_order order all)) where
    single_all : HasNoTwins all
    single_all = single_part all table (λ x there. elim (Contains-append_cases (filter (is_held c order) own) (filter (is_held c order) coming) x there) [
      | inl first ↦ own_in x (from_filter (is_held c order) own x first).0
      | inr second ↦ coming_in x (from_filter (is_held c order) coming x second).0
    ]) single

    rises : IsRising order (in_order order all)
    rises = rising_from order (in_order order all) (in_order-rises order all)

    pub both : merged order holding past ≡ in_order order all
    both =
        ap (λ (l : List Datom). merged order l past) stands
        ∙ ap (merged order (standing (in_order order all))) falls
        ∙ both_of order (in_order order all) rises

    pub halves_anew : AreHalves order holding past
    halves_anew =
        record {
          pair =
              subst (λ (l : List Datom). IsPair order holding l) (sym falls)
              (subst (λ (l : List Datom). IsPair order l (withdrawn (in_order order all))) (sym stands) (pair_of order (in_order order all) rises));
          stands = stands ∙ ap standing (sym both);
        }

    pub grown_anew : IsGrown order c old refill ds (merged order holding past)
    grown_anew =
        record {
          rising = merged_rises order holding past;
          members = λ x. (
            λ there. from_all x (in_order_member order all x (subst (λ (l : List Datom). Contains l x) both there)),
            λ given. subst (λ (l : List Datom). Contains l x) (sym both)
                (in_order_has order all
                (record { same = λ a b a_in b_in equal. single_all a b a_in b_in (key_cmp-Equal order a b equal) }) x
                (into_all x given.0 given.1)),
          );
        }
