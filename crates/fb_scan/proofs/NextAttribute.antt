-- A scan from an attribute of an entity on, of which the first datom has the next attribute.
use denote.Ref.{Bor}
use Rattle.std.proofs.Common.{◌≡◌, ◌∙◌, ◌≤◌, inl, inr, ℕ, true, not, ◌&&◌, List, [], ◌∷◌, refl, sym, ap, subst, Option, Some, None, arith}
use Rattle.std.specs.Prelude.{IsTrue}
use Rattle.std.specs.Ordering.{is_eq, is_lt, is_gt, nat_cmp, ordering_then}
use Rattle.std.specs.declared.cmp.Ordering.{Ordering}
use Rattle.std.specs.declared.cmp.Ordering.TheVariants.{Less, Equal, Greater}
use Rattle.std.proofs.lemmas.Bool.{true≢false, and_parts, and_from}
use Rattle.std.proofs.lemmas.Bool.Decides.{nat_tests}
use Rattle.fb_values.specs.declared.facts.Datom.{Datom}
use Rattle.fb_values.specs.declared.facts.Entry.{Entry}
use Rattle.fb_values.specs.declared.indexes.Order.TheVariants.{Eavt}
use Rattle.fb_values.specs.declared.indexes.Probe.{Probe}
use Rattle.fb_values.specs.Orders.{key_cmp, value_cmp, probe_cmp}
use Rattle.fb_values.specs.Rising.{IsRising}
use Rattle.fb_search.specs.Places.{is_below}
use Rattle.fb_model.specs.Facts.{facts}
use Rattle.view_model.specs.Window.{Window}
use Rattle.view_model.specs.View.{InView}
use Rattle.live_index.proofs.Members.{contains-cons, contains_head, contains_none}
use Rattle.live_index.proofs.Together.{before_member}
use Rattle.fb_index.specs.declared.sides.Extent.{Extent}
use Rattle.fb_db.specs.declared.db.Db.{Db}
use Rattle.fb_db.specs.Seen.{window_of}
use Rattle.fb_scan.specs.declared.ends.End.TheVariants.{Behind}
use Rattle.fb_scan.specs.Attributes.{HasAttribute, IsNextAttribute}
use Rattle.fb_scan.specs.Ends.{is_met, IsWalk}
use Rattle.fb_scan.specs.declared.walk.Scan.{Scan}
use Rattle.fb_scan.specs.Steps.{HasGiven, IsGoing}
use Rattle.fb_scan.proofs.Going.{shown_member}

-- ---- numbers

is_same : (n m : ℕ) → is_eq (nat_cmp n m) ≡ true → n ≡ m
is_same n m is = grind (arith, nat_tests, is)

same_is : (n m : ℕ) → n ≡ m → is_eq (nat_cmp n m) ≡ true
same_is n m is = grind (arith, nat_tests, is)

not_above : (n m : ℕ) → not (is_gt (nat_cmp n m)) ≡ true → n ≤ m
not_above n m is = grind (arith, nat_tests, is)

above_not : (n m : ℕ) → n ≤ m → not (is_gt (nat_cmp n m)) ≡ true
above_not n m le = grind (arith, nat_tests, le)

-- ---- the probes

abbrev pub attributes_from : ℕ → Option ℕ → Probe
attributes_from e a = record { order = Eavt; e = Some e; a = a; v = None; t = None }

in_range : (x y : Ordering) → (not (is_gt (ordering_then x (ordering_then y Equal))) && not (is_lt (ordering_then x Equal))) ≡ (is_eq x &&
    not (is_gt y))
in_range Less y = refl
in_range Equal Less = refl
in_range Equal Equal = refl
in_range Equal Greater = refl
in_range Greater y = refl

met_is : (schema : List Datom) (e from : ℕ) (whole : Bor Probe) (d : Datom) → whole.now ≡ attributes_from e None
    → is_met schema (attributes_from e (Some from)) (Behind whole) d ≡ (is_eq (nat_cmp e d.e) && not (is_gt (nat_cmp from d.a)))
met_is schema e from whole d is =
    ap (λ (q : Probe). not (is_below (attributes_from e (Some from)) d) && not (is_lt (probe_cmp q d))) is
    ∙ in_range (nat_cmp e d.e) (nat_cmp from d.a)

-- ---- the order of datoms of one entity

not_later : (o p : Ordering) → ordering_then o p ≡ Less → not (is_gt o) ≡ true
not_later Less p is = refl
not_later Equal p is = refl
not_later Greater p is = cc

by_attribute : (x d : Datom) → x.e ≡ d.e → key_cmp Eavt x d ≡ Less → x.a ≤ d.a
by_attribute x d same less =
    not_above x.a d.a (not_later (nat_cmp x.a d.a) (ordering_then (value_cmp x.v d.v) (ordering_then (nat_cmp x.t d.t) Equal))
    (inner (nat_cmp x.e d.e) (same_is x.e d.e same) less))
  where
    inner : (o : Ordering) → is_eq o ≡ true → ordering_then o
        (ordering_then (nat_cmp x.a d.a) (ordering_then (value_cmp x.v d.v) (ordering_then (nat_cmp x.t d.t) Equal))) ≡ Less
        → ordering_then (nat_cmp x.a d.a) (ordering_then (value_cmp x.v d.v) (ordering_then (nat_cmp x.t d.t) Equal)) ≡ Less
    inner Less eq is = absurd (true≢false (sym eq))
    inner Equal eq is = is
    inner Greater eq is = absurd (true≢false (sym eq))

-- ---- the scan from an attribute of an entity on, to the end of the entity's datoms

module _ (h : List Entry) (w : Window) (Selects : Datom → Type 0) (e from : ℕ) (first : Probe) (whole : Bor Probe)
    (first_is : first ≡ attributes_from e (Some from)) (whole_is : whole.now ≡ attributes_from e None) where
  abbrev Met : Datom → Type 0
  Met d = InView h w Selects d × IsTrue (is_met (facts h) first (Behind whole) d)

  met_here : (d : Datom) → is_met (facts h) first (Behind whole) d ≡ (is_eq (nat_cmp e d.e) && not (is_gt (nat_cmp from d.a)))
  met_here d = ap (λ (p : Probe). is_met (facts h) p (Behind whole) d) first_is ∙ met_is (facts h) e from whole d whole_is

  met_has : (d : Datom) → Met d → InView h w Selects d × (d.e ≡ e) × (from ≤ d.a)
  met_has d met =
      let both = and_parts (is_eq (nat_cmp e d.e)) (not (is_gt (nat_cmp from d.a))) (sym (met_here d) ∙ met.1) in
      (met.0, sym (is_same e d.e both.0), not_above from d.a both.1)

  has_met : (a : ℕ) → from ≤ a → (has : HasAttribute h w Selects e a) → Met has.datom
  has_met a above has = (
    has.in_view,
    met_here has.datom
        ∙ and_from (is_eq (nat_cmp e has.datom.e)) (not (is_gt (nat_cmp from has.datom.a))) (same_is e has.datom.e (sym has.of_entity))
        (above_not from has.datom.a (subst (λ (n : ℕ). from ≤ n) (sym has.of_attribute) above)),
  )

  no_attribute : (result : Option ℕ) → result ≡ None → IsWalk h w Selects first (Behind whole) []
      → IsNextAttribute h w Selects e from result
  no_attribute result is_none none =
      subst (IsNextAttribute h w Selects e from) (sym is_none)
      (λ a above has. contains_none has.datom ((none.members has.datom).1 (has_met a above has)))

  pub next_is : (extent : Extent) (x : Datom) (rest : List Datom) → IsGoing h w Selects first (Behind whole) extent (x ∷ []) rest
      → IsNextAttribute h w Selects e from (Some x.a)
  next_is extent x rest going =
      (own.2, record { datom = x; in_view = own.0; of_entity = own.1; of_attribute = refl }, least)
    where
      own : InView h w Selects x × (x.e ≡ e) × (from ≤ x.a)
      own = met_has x ((going.same x).0 (inl (contains_head x [] x refl)))

      rises : IsRising Eavt (x ∷ rest)
      rises = subst (λ (p : Probe). IsRising p.order (x ∷ rest)) first_is going.rising

      least : (a : ℕ) → from ≤ a → HasAttribute h w Selects e a → x.a ≤ a
      least a above has =
          subst (λ (n : ℕ). x.a ≤ n) has.of_attribute
          (elim ((going.same has.datom).1 (has_met a above has)) [
            | inl one ↦ elim (contains-cons x [] has.datom one) [
              | inl same ↦ subst (λ (z : Datom). x.a ≤ z.a) same (omega arith)
              | inr none ↦ absurd (contains_none has.datom none)
            ]
            | inr later ↦ by_attribute x has.datom (own.1 ∙ sym has.of_entity)
                (before_member Eavt x rest has.datom rises.0 (shown_member extent w rest has.datom later.is_seen))
          ])

module _ {S : Type 0} (db : Db S) (Selects : Datom → Type 0) (e from : ℕ) (first : Probe) (whole : Bor Probe)
    (first_is : first ≡ attributes_from e (Some from)) (whole_is : whole.now ≡ attributes_from e None) where
  pub no_attribute_ahead : (scan : Scan S) → HasGiven db Selects first (Behind whole) scan []
      → (HasGiven db Selects first (Behind whole) scan [] → IsWalk db.snapshot.entries (window_of db) Selects first (Behind whole) [])
      → (result : Option ℕ) → result ≡ None → IsNextAttribute db.snapshot.entries (window_of db) Selects e from result
  no_attribute_ahead scan start none result is_none =
      no_attribute db.snapshot.entries (window_of db) Selects e from first whole first_is whole_is result is_none (none start)
