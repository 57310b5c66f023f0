-- The table of a live index that is made anew, and the lists over it.
use Rattle.std.proofs.Common.{◌≡◌, ◌∙◌, ℕ, true, ◌⊎◌, inl, inr, List, [], ◌++◌, length, refl, sym, ap, subst, Option, Some}
use Rattle.std.specs.Prelude.{Contains}
use Rattle.std.proofs.lemmas.List.Elements.{Contains-append_left, Contains-append_right, Contains-append_cases}
use Rattle.fb_values.specs.declared.facts.Datom.{Datom}
use Rattle.fb_values.specs.declared.indexes.Order.{Order}
use Rattle.fb_values.specs.declared.indexes.Order.TheVariants.{Eavt, Aevt, Avet, Vaet}
use Rattle.fb_values.specs.Lists.{Lists, list_in}
use Rattle.fb_covers.specs.Coverage.{Coverage}
use Rattle.fb_model.specs.Rising.{in_order}
use Rattle.fb_model.specs.Facts.{standing}
use Rattle.std.specs.Prelude.{filter}
use Rattle.live_index.specs.declared.gathering.Gathered.{Gathered}
use Rattle.live_index.specs.declared.gathering.Span.{Span}
use Rattle.live_index.specs.declared.orders.Orders.{Orders}
use Rattle.live_index.specs.Gathered.{AreGathered, all_of, own_in, own_span}
use Rattle.live_index.specs.Growth.{HasNoTwins, IsGrown, IsOffered, is_held}
use Rattle.live_index.specs.Halves.{AreHalves, both_lists, merged, withdrawn}
use Rattle.live_index.specs.Lists.{AreIndex, AreOrders, AreUsed, IsLastOf, lists_if, lists_of}
use Rattle.live_index.specs.Ranks.{IsSpan, span_of}
use Rattle.live_index.proofs.Anew.{both, from_own, grown_anew, halves_anew}
use Rattle.live_index.proofs.FourLists.{if_within, in_each, lists_within}
use Rattle.live_index.proofs.Growing.{single_part}
use Rattle.live_index.proofs.Halves.{both_at, from_merged}
use Rattle.live_index.proofs.Spans.{span_last, span_longer, span_same, span_within}
use Rattle.live_index.proofs.Used.{single_with}

-- ---- one list after the other

pub record IsStep (table new more : List Datom) (s : Span) : Type 0 where
  pub is : new ≡ table ++ more
  pub from : s.from ≡ length table
  pub to : s.to ≡ length new

record IsAt (table : List Datom) (s : Span) (more : List Datom) : Type 0 where
  pub span : IsSpan table s
  pub is : span_of table s ≡ more

at_last : (table new more : List Datom) (s : Span) → IsStep table new more s → IsAt new s more
at_last table new more s step =
    let last = span_last table more s step.from (step.to ∙ ap length step.is) in
    subst (λ (t : List Datom). IsAt t s more) (sym step.is) (record { span = last.span; is = last.is })

at_longer : (table new more mine : List Datom) (s other : Span) → IsStep table new more other → IsAt table s mine → IsAt new s mine
at_longer table new more mine s other step at =
    subst (λ (t : List Datom). IsAt t s mine) (sym step.is)
    (record { span = span_longer table more s at.span; is = span_same table more s at.span ∙ at.is })

module _ (c : Coverage) (lists : Lists) (refill ds t1 t2 t3 t4 t5 : List Datom) (s1 s2 s3 s4 s5 : Span)
    (step1 : IsStep [] t1 (own_in c lists refill Eavt) s1) (step2 : IsStep t1 t2 (own_in c lists refill Aevt) s2)
    (step3 : IsStep t2 t3 (own_in c lists refill Avet) s3) (step4 : IsStep t3 t4 (own_in c lists refill Vaet) s4)
    (step5 : IsStep t4 t5 ds s5) where
  at1 : IsAt t5 s1 (own_in c lists refill Eavt)
  at1 =
      let mine = own_in c lists refill Eavt in
      at_longer t4 t5 ds mine s1 s5 step5 (at_longer t3 t4 (own_in c lists refill Vaet) mine s1 s4 step4
      (at_longer t2 t3 (own_in c lists refill Avet) mine s1 s3 step3 (at_longer t1 t2 (own_in c lists refill Aevt) mine s1 s2 step2
      (at_last [] t1 mine s1 step1))))

  at2 : IsAt t5 s2 (own_in c lists refill Aevt)
  at2 =
      let mine = own_in c lists refill Aevt in
      at_longer t4 t5 ds mine s2 s5 step5 (at_longer t3 t4 (own_in c lists refill Vaet) mine s2 s4 step4
      (at_longer t2 t3 (own_in c lists refill Avet) mine s2 s3 step3 (at_last t1 t2 mine s2 step2)))

  at3 : IsAt t5 s3 (own_in c lists refill Avet)
  at3 =
      let mine = own_in c lists refill Avet in
      at_longer t4 t5 ds mine s3 s5 step5 (at_longer t3 t4 (own_in c lists refill Vaet) mine s3 s4 step4 (at_last t2 t3 mine s3 step3))

  at4 : IsAt t5 s4 (own_in c lists refill Vaet)
  at4 = at_longer t4 t5 ds (own_in c lists refill Vaet) s4 s5 step5 (at_last t3 t4 (own_in c lists refill Vaet) s4 step4)

  at5 : IsAt t5 s5 ds
  at5 = at_last t4 t5 ds s5 step5

  pub are_gathered : AreGathered c lists refill ds (record { table = t5; eavt = s1; aevt = s2; avet = s3; vaet = s4; coming = s5 })
  are_gathered =
      let g : Gathered = record { table = t5; eavt = s1; aevt = s2; avet = s3; vaet = s4; coming = s5 } in
      record {
        table_is =
            step5.is
            ∙ ap (λ (t : List Datom). t ++ ds) (step4.is
            ∙ ap (λ (t : List Datom). t ++ own_in c lists refill Vaet) (step3.is
            ∙ ap (λ (t : List Datom). t ++ own_in c lists refill Avet) (step2.is
            ∙ ap (λ (t : List Datom). t ++ own_in c lists refill Aevt) step1.is)));
        own = in_each (λ order. IsSpan t5 (own_span g order)) at1.span at2.span at3.span at4.span;
        coming = at5.span;
        own_is = in_each (λ order. span_of t5 (own_span g order) ≡ own_in c lists refill order) at1.is at2.is at3.is at4.is;
        coming_is = at5.is;
      }

-- ---- what the table has

pub from_table : (c : Coverage) (lists : Lists) (refill ds : List Datom) (d : Datom) → Contains (all_of c lists refill ds) d
    → ((order : Order) × Contains (own_in c lists refill order) d) ⊎ Contains ds d
from_table c lists refill ds d there =
    let e = own_in c lists refill Eavt in
    let a = own_in c lists refill Aevt in
    let v = own_in c lists refill Avet in
    let r = own_in c lists refill Vaet in
    elim (Contains-append_cases (((([] ++ e) ++ a) ++ v) ++ r) ds d there) [
      | inr last ↦ inr last
      | inl most ↦ elim (Contains-append_cases ((([] ++ e) ++ a) ++ v) r d most) [
        | inr fourth ↦ inl (Vaet, fourth)
        | inl more ↦ elim (Contains-append_cases (([] ++ e) ++ a) v d more) [
          | inr third ↦ inl (Avet, third)
          | inl some ↦ elim (Contains-append_cases ([] ++ e) a d some) [
            | inr second ↦ inl (Aevt, second)
            | inl first ↦ inl (Eavt, first)
          ]
        ]
      ]
    ]

module _ (c : Coverage) (old : List Datom) (holding : Orders) (past : Option Orders) (last : Option ℕ) (now : Lists)
    (refill ds : List Datom) (g : Gathered) (are : AreIndex old holding past last) (is : both_lists (lists_of old holding) (lists_if old past) ≡ now)
    (each : (order : Order) → HasNoTwins (list_in now order ++ refill ++ ds)) (gathered : AreGathered c now refill ds g) where
  in_old : (order : Order) (d : Datom) → Contains (list_in now order) d → Contains old d
  in_old order d there =
      let both : Contains (merged order (list_in (lists_of old holding) order) (list_in (lists_if old past) order)) d =
      subst (λ (l : List Datom). Contains l d) (both_at (lists_of old holding) (lists_if old past) order)
      (subst (λ (ls : Lists). Contains (list_in ls order) d) (sym is) there) in
      elim (from_merged order (list_in (lists_of old holding) order) (list_in (lists_if old past) order) d both) [
        | inl holds ↦ lists_within old holding are.holding_are order d holds
        | inr gone ↦ if_within old past are.past_are order d gone
      ]

  single_old : HasNoTwins (old ++ (refill ++ ds))
  single_old =
      single_with old now (refill ++ ds) (are.holding_are Eavt).single (subst (AreUsed old) is are.used)
      (λ order. single_part (list_in now order ++ (refill ++ ds)) (list_in now order ++ refill ++ ds)
      (λ d there. elim (Contains-append_cases (list_in now order) (refill ++ ds) d there) [
        | inl first ↦ Contains-append_left (list_in now order ++ refill) ds d (Contains-append_left (list_in now order) refill d first)
        | inr rest ↦ elim (Contains-append_cases refill ds d rest) [
          | inl second ↦ Contains-append_left (list_in now order ++ refill) ds d (Contains-append_right (list_in now order) refill d second)
          | inr third ↦ Contains-append_right (list_in now order ++ refill) ds d third
        ]
      ]) (each order))

  from_own_in : (order : Order) (d : Datom) → Contains (own_in c now refill order) d
      → IsOffered order (list_in now order) refill ds d × (is_held c order d ≡ true)
  from_own_in order d there = from_own order c (list_in now order) refill ds (own_in c now refill order) ds refl refl d there

  parts : (d : Datom) → Contains g.table d → ((order : Order) × Contains (own_in c now refill order) d) ⊎ Contains ds d
  parts d there = from_table c now refill ds d (subst (λ (l : List Datom). Contains l d) gathered.table_is there)

  offered_in : (order : Order) (d : Datom) → IsOffered order (list_in now order) refill ds d → Contains (old ++ (refill ++ ds)) d
  offered_in order d given =
      elim given [
        | inl older ↦ elim older [
          | inl was ↦ Contains-append_left old (refill ++ ds) d (in_old order d was)
          | inr filled ↦ Contains-append_right old (refill ++ ds) d (Contains-append_left refill ds d filled.1)
        ]
        | inr new ↦ Contains-append_right old (refill ++ ds) d (Contains-append_right refill ds d new)
      ]

  pub single_gathered : HasNoTwins g.table
  single_gathered =
      single_part g.table (old ++ (refill ++ ds)) (λ d there. elim (parts d there) [
        | inl own ↦ offered_in own.0 d (from_own_in own.0 d own.1).0
        | inr new ↦ Contains-append_right old (refill ++ ds) d (Contains-append_right refill ds d new)
      ]) single_old

  -- ---- and the lists over it

  module _ (h p : Orders) (h_are : AreOrders g.table h) (p_are : AreOrders g.table p)
      (stands : (order : Order) → list_in (lists_of g.table h) order
      ≡ standing (in_order order (filter (is_held c order) (span_of g.table (own_span g order)) ++ filter (is_held c order) (span_of g.table g.coming))))
      (falls : (order : Order) → list_in (lists_of g.table p) order
      ≡ withdrawn (in_order order (filter (is_held c order) (span_of g.table (own_span g order)) ++ filter (is_held c order) (span_of g.table g.coming)))) where
    halves : (order : Order) → AreHalves order (list_in (lists_of g.table h) order) (list_in (lists_of g.table p) order)
    halves order =
        halves_anew order c (list_in now order) refill ds (span_of g.table (own_span g order)) (span_of g.table g.coming)
        (gathered.own_is order) gathered.coming_is g.table (list_in (lists_of g.table h) order) (list_in (lists_of g.table p) order)
        single_gathered (span_within g.table (own_span g order)) (span_within g.table g.coming) (stands order) (falls order)

    grown : (order : Order)
        → IsGrown order c (list_in now order) refill ds
        (merged order (list_in (lists_of g.table h) order) (list_in (lists_of g.table p) order))
    grown order =
        grown_anew order c (list_in now order) refill ds (span_of g.table (own_span g order)) (span_of g.table g.coming)
        (gathered.own_is order) gathered.coming_is g.table (list_in (lists_of g.table h) order) (list_in (lists_of g.table p) order)
        single_gathered (span_within g.table (own_span g order)) (span_within g.table g.coming) (stands order) (falls order)

    pub grown_gathered : (order : Order)
        → IsGrown order c (list_in now order) refill ds (list_in (both_lists (lists_of g.table h) (lists_of g.table p)) order)
    grown_gathered order =
        subst (λ (l : List Datom). IsGrown order c (list_in now order) refill ds l)
        (sym (both_at (lists_of g.table h) (lists_of g.table p) order)) (grown order)

    whole : in_order Eavt (filter (is_held c Eavt) (span_of g.table g.eavt) ++ filter (is_held c Eavt) (span_of g.table g.coming))
        ≡ list_in (both_lists (lists_of g.table h) (lists_of g.table p)) Eavt
    whole =
        sym (both Eavt c (list_in now Eavt) refill ds (span_of g.table g.eavt) (span_of g.table g.coming) (gathered.own_is Eavt)
        gathered.coming_is g.table (list_in (lists_of g.table h) Eavt) (list_in (lists_of g.table p) Eavt) single_gathered
        (span_within g.table g.eavt) (span_within g.table g.coming) (stands Eavt) (falls Eavt))

    pub index_gathered : (new_last : Option ℕ)
        → IsLastOf g.table
        (in_order Eavt (filter (is_held c Eavt) (span_of g.table g.eavt) ++ filter (is_held c Eavt) (span_of g.table g.coming))) new_last
        → AreIndex g.table h (Some p) new_last
    index_gathered new_last last_is =
        record {
          last_is = subst (λ (l : List Datom). IsLastOf g.table l new_last) whole last_is;
          holding_are = h_are;
          past_are = p_are;
          halves = halves;
          used = λ d there. elim (parts d there) [
            | inl own ↦ (own.0, ((grown_gathered own.0).members d).1 (from_own_in own.0 d own.1))
            | inr new ↦ (Eavt, ((grown_gathered Eavt).members d).1 (inr new, refl))
          ];
        }
