-- The first datom of a walk is the first row of the scan.
use denote.Ref.{Bor}
use Rattle.std.proofs.Common.{◌≡◌, ◌∙◌, ◌&&◌, List, [], ◌∷◌, refl, sym, ap, inl, inr, Option, Some, None}
use Rattle.std.specs.Prelude.{◌⊎◌, IsTrue}
use Rattle.std.specs.List.{slice_get}
use Rattle.std.specs.Ordering.{ordering_reverse}
use Rattle.std.specs.declared.cmp.Ordering.{Ordering}
use Rattle.std.specs.declared.cmp.Ordering.TheVariants.{Less, Greater}
use Rattle.fb_values.specs.Orders.{key_cmp, probe_cmp}
use Rattle.fb_values.specs.OrderLaws.{key_cmp_total}
use Rattle.fb_values.specs.declared.facts.Datom.{Datom}
use Rattle.fb_values.specs.declared.facts.Entry.{Entry}
use Rattle.fb_values.specs.declared.indexes.Order.{Order}
use Rattle.fb_values.specs.declared.indexes.Probe.{Probe}
use Rattle.fb_values.proofs.Rising.{rising_from}
use Rattle.fb_model.specs.Facts.{facts}
use Rattle.fb_model.specs.Schema.{covers}
use Rattle.live_index.proofs.Members.{contains-cons, contains_head, contains_none}
use Rattle.live_index.proofs.Together.{before_member}
use Rattle.view_model.specs.Window.{Window}
use Rattle.view_model.specs.View.{InView}
use Rattle.view_model.specs.Scan.{Range, leading, IsScan}
use Rattle.fb_index.specs.declared.sides.Extent.{Extent}
use Rattle.fb_scan.specs.declared.ends.End.TheVariants.{Behind}
use Rattle.fb_scan.specs.Ends.{is_met, IsWalk}
use Rattle.fb_scan.specs.Firsts.{IsRow, IsFirst}
use Rattle.fb_scan.specs.Steps.{IsGoing}
use Rattle.fb_scan.proofs.Ending.{leading_ends}
use Rattle.fb_scan.proofs.Going.{shown_member}

module _ (h : List Entry) (w : Window) (Selects : Datom → Type 0) (p : Bor Probe) where
  abbrev Row : Datom → Type 0
  Row = IsRow h w Selects p.now.order (leading p.now)

  abbrev Met : Datom → Type 0
  Met d = InView h w Selects d × IsTrue (is_met (facts h) p.now (Behind p) d)

  met_row : (d : Datom) → Met d → Row d
  met_row d met = (met.0, ap (λ b. covers (facts h) p.now.order d.a && b) (leading_ends (probe_cmp p.now d)) ∙ met.1)

  row_met : (d : Datom) → Row d → Met d
  row_met d row = (row.0, sym (ap (λ b. covers (facts h) p.now.order d.a && b) (leading_ends (probe_cmp p.now d))) ∙ row.1)

  pub none_is : IsWalk h w Selects p.now (Behind p) [] → IsFirst h w Selects p.now.order (leading p.now) None
  none_is walk = λ d row. contains_none d ((walk.members d).1 (row_met d row))

  pub first_is : (extent : Extent) (x : Datom) (rest : List Datom) → IsGoing h w Selects p.now (Behind p) extent (x ∷ []) rest
      → IsFirst h w Selects p.now.order (leading p.now) (Some x)
  first_is extent x rest going = (met_row x ((going.same x).0 (inl (contains_head x [] x refl))), least)
    where
      least : (other : Datom) → Row other → (x ≡ other) ⊎ (key_cmp p.now.order x other ≡ Less)
      least other row =
          elim ((going.same other).1 (row_met other row)) [
            | inl one ↦ elim (contains-cons x [] other one) [
              | inl same ↦ inl same
              | inr none ↦ absurd (contains_none other none)
            ]
            | inr later ↦ inr (before_member p.now.order x rest other going.rising.0 (shown_member extent w rest other later.is_seen))
          ]

-- ---- beside the whole scan

not_both : (order : Order) (x y : Datom) → key_cmp order x y ≡ Less → key_cmp order y x ≡ Less → ⊥
not_both order x y before behind =
    let turned : ◌≡◌ {A = Ordering} Less Greater = sym before ∙ (key_cmp_total order).antisymm x y ∙ ap ordering_reverse behind in
    absurd (cc)

-- the first row is the first datom of the scan
pub first_of_rows : (h : List Entry) (w : Window) (Selects : Datom → Type 0) (order : Order) (range : Range) (first : Option Datom)
    (all : List Datom)
    → IsFirst h w Selects order range first → IsScan h w Selects order range all → first ≡ slice_get all 0
first_of_rows h w Selects order range None [] is scan = refl
first_of_rows h w Selects order range None (x ∷ all) is scan = absurd (is x ((scan.members x).0 (contains_head x all x refl)))
first_of_rows h w Selects order range (Some d) [] is scan = absurd (contains_none d ((scan.members d).1 is.0))
first_of_rows h w Selects order range (Some d) (x ∷ all) is scan =
    elim (contains-cons x all d ((scan.members d).1 is.0)) [
      | inl same ↦ ap Some (sym same)
      | inr later ↦ elim (is.1 x ((scan.members x).0 (contains_head x all x refl))) [
        | inl same ↦ ap Some same
        | inr before ↦
            absurd (not_both order x d (before_member order x all d (rising_from order (x ∷ all) scan.rising).0 later) before)
      ]
    ]
