-- What the two scans of a pull find is what its definitions take out of the list of facts.
use Rattle.std.proofs.Common.{◌≡◌, ◌∙◌, ℕ, Bool, true, false, ◌&&◌, List, [], ◌∷◌, refl, sym, ap, subst, Some, None, eqb, arith}
use Rattle.std.specs.Prelude.{filter, Contains}
use Rattle.std.specs.Ordering.{is_eq, nat_cmp, ordering_then, ordering_reverse}
use Rattle.std.specs.declared.cmp.Ordering.{Ordering}
use Rattle.std.specs.declared.cmp.Ordering.TheVariants.{Less, Equal, Greater}
use Rattle.std.specs.Cmp.{tied_itself}
use Rattle.std.proofs.lemmas.Cmp.{nat_cmp_total}
use Rattle.std.proofs.lemmas.Bool.{and_parts, and_from, eqb-true}
use Rattle.std.proofs.lemmas.Bool.Decides.{nat_tests}
use Rattle.fb_values.specs.declared.facts.Datom.{Datom}
use Rattle.fb_values.specs.declared.facts.Value.{Value}
use Rattle.fb_values.specs.declared.facts.Value.TheVariants.{Ref}
use Rattle.fb_values.specs.declared.indexes.Order.TheVariants.{Eavt, Vaet}
use Rattle.fb_values.specs.declared.indexes.Probe.{Probe}
use Rattle.fb_values.specs.Orders.{key_cmp, value_cmp, probe_cmp}
use Rattle.fb_values.specs.OrderLaws.{value_cmp_total}
use Rattle.fb_values.specs.Rising.{IsBelowAll, IsRising}
use Rattle.fb_values.proofs.Rising.{rises_from, rising_from}
use Rattle.fb_model.specs.Facts.{facts as facts_of, value_eq}
use Rattle.fb_model.specs.Schema.{is_about, is_ref}
use Rattle.fb_model.proofs.Members.{here, there, kept, keep}
use Rattle.fb_model.proofs.Triples.{value_eq-true}
use Rattle.view_model.specs.Scan.{leading, IsScan}
use Rattle.view_model.proofs.Scans.{IsRisingListOf-one}
use Rattle.live_index.proofs.Growing.{rising-filter}
use Rattle.fb_db.specs.declared.db.Db.{Db}
use Rattle.fb_db.specs.Seen.{window_of}
use Rattle.pull_model.specs.Found as model
use Rattle.fb_pull.specs.Views.{Sees}

-- ---- what the probes lead to

-- the entity's datoms under the attribute
abbrev pub under : ℕ → ℕ → Probe
under e a = record { order = Eavt; e = Some e; a = Some a; v = None; t = None }

-- the datoms that refer to the entity by the attribute
abbrev pub to : ℕ → ℕ → Probe
to e a = record { order = Vaet; e = None; a = Some a; v = Some (Ref e); t = None }

abbrev pub refers : ℕ → ℕ → Datom → Bool
refers e a d = eqb d.a a && value_eq d.v (Ref e)

two_equal : (x y : Ordering) → is_eq (ordering_then x (ordering_then y Equal)) ≡ (is_eq x && is_eq y)
two_equal Less y = refl
two_equal Equal Less = refl
two_equal Equal Equal = refl
two_equal Equal Greater = refl
two_equal Greater y = refl

pub number : (m n : ℕ) → is_eq (nat_cmp m n) ≡ eqb n m
number m n = first_of (grind arith, grind (arith, nat_tests))

is_eq-reverse : (o : Ordering) → is_eq (ordering_reverse o) ≡ is_eq o
is_eq-reverse Less = refl
is_eq-reverse Equal = refl
is_eq-reverse Greater = refl

leads_under : (e a : ℕ) (d : Datom) → is_eq (probe_cmp (under e a) d) ≡ is_about e a d
leads_under e a d =
    two_equal (nat_cmp e d.e) (nat_cmp a d.a) ∙ ap (λ b. b && is_eq (nat_cmp a d.a)) (number e d.e)
    ∙ ap (λ b. eqb d.e e && b) (number a d.a)

swapped : (b c : Bool) → (b && c) ≡ (c && b)
swapped true true = refl
swapped true false = refl
swapped false true = refl
swapped false false = refl

leads_to : (e a : ℕ) (d : Datom) → is_eq (probe_cmp (to e a) d) ≡ refers e a d
leads_to e a d =
    two_equal (value_cmp (Ref e) d.v) (nat_cmp a d.a)
    ∙ ap (λ b. b && is_eq (nat_cmp a d.a)) (ap is_eq (value_cmp_total.antisymm (Ref e) d.v) ∙ is_eq-reverse (value_cmp d.v (Ref e)))
    ∙ ap (λ b. value_eq d.v (Ref e) && b) (number a d.a)
    ∙ swapped (value_eq d.v (Ref e)) (eqb d.a a)

-- ---- datoms of one value and attribute rise by their entities in both orders

same_order : (e a v t : Ordering) → a ≡ Equal → v ≡ Equal
    → ordering_then v (ordering_then a (ordering_then e (ordering_then t Equal))) ≡ ordering_then e
    (ordering_then a (ordering_then v (ordering_then t Equal)))
same_order e a v t a_is v_is =
    subst (λ (o : Ordering). ordering_then v (ordering_then o (ordering_then e (ordering_then t Equal))) ≡ ordering_then e
    (ordering_then o (ordering_then v (ordering_then t Equal)))) (sym a_is)
    (subst (λ (o : Ordering). ordering_then o (ordering_then e (ordering_then t Equal)) ≡ ordering_then e
    (ordering_then o (ordering_then t Equal))) (sym v_is) refl)

by_entity : (e a : ℕ) (x y : Datom) → refers e a x ≡ true → refers e a y ≡ true → key_cmp Vaet x y ≡ key_cmp Eavt x y
by_entity e a x y x_is y_is =
    let x_parts = and_parts (eqb x.a a) (value_eq x.v (Ref e)) x_is in
    let y_parts = and_parts (eqb y.a a) (value_eq y.v (Ref e)) y_is in
    let attributes : x.a ≡ y.a = eqb-true x.a a x_parts.0 ∙ sym (eqb-true y.a a y_parts.0) in
    let values : x.v ≡ y.v = value_eq-true x.v (Ref e) x_parts.1 ∙ sym (value_eq-true y.v (Ref e) y_parts.1) in
    same_order (nat_cmp x.e y.e) (nat_cmp x.a y.a) (value_cmp x.v y.v) (nat_cmp x.t y.t)
    (ap (λ (n : ℕ). nat_cmp x.a n) (sym attributes) ∙ tied_itself nat_cmp_total x.a)
    (ap (λ (v : Value). value_cmp x.v v) (sym values) ∙ tied_itself value_cmp_total x.v)

before_in_vaet : (e a : ℕ) (x : Datom) (ds : List Datom) → refers e a x ≡ true → ((d : Datom) → Contains ds d → refers e a d ≡ true)
    → IsBelowAll Eavt x ds → IsBelowAll Vaet x ds
before_in_vaet e a x [] is all before = tt
before_in_vaet e a x (y ∷ ds) is all before =
    (by_entity e a x y is (all y (here y ds)) ∙ before.0, before_in_vaet e a x ds is (λ d member. all d (there y d ds member)) before.1)

rising_in_vaet : (e a : ℕ) (ds : List Datom) → ((d : Datom) → Contains ds d → refers e a d ≡ true) → IsRising Eavt ds → IsRising Vaet ds
rising_in_vaet e a [] all rising = tt
rising_in_vaet e a (x ∷ ds) all rising = (
  before_in_vaet e a x ds (all x (here x ds)) (λ d member. all d (there x d ds member)) rising.0,
  rising_in_vaet e a ds
      (λ d member. all d (there x d ds member)) rising.1,
)

-- ---- the scans

module _ {S : Type 0} (db : Db S) (Selects : Datom → Type 0) (facts : model.Db) (sees : Sees db Selects facts) (e a : ℕ) where
  pub scan_under : IsScan db.snapshot.entries (window_of db) Selects Eavt (leading (under e a)) (filter (is_about e a) facts.seen)
  scan_under = record {
    rising =
        rises_from Eavt (filter (is_about e a) facts.seen)
        (rising-filter Eavt (is_about e a) facts.seen (rising_from Eavt facts.seen sees.seen_is.rising));
    members = λ d. (
      λ member. let own = kept (is_about e a) facts.seen d member in
          ((sees.seen_is.members d).0 own.member, leads_under e a d ∙ own.passes),
      λ is. keep (is_about e a) facts.seen d ((sees.seen_is.members d).1 is.0) (sym (leads_under e a d) ∙ is.1),
    );
  }

  pub scan_to : is_ref (facts_of db.snapshot.entries) a ≡ true
      → IsScan db.snapshot.entries (window_of db) Selects Vaet (leading (to e a)) (filter (refers e a) facts.seen)
  scan_to held = record {
    rising =
        rises_from Vaet (filter (refers e a) facts.seen)
        (rising_in_vaet e a (filter (refers e a) facts.seen) (λ d member. (kept (refers e a) facts.seen d member).passes)
        (rising-filter Eavt (refers e a) facts.seen (rising_from Eavt facts.seen sees.seen_is.rising)));
    members = λ d. (
      λ member.
          let own = kept (refers e a) facts.seen d member in
          let same : d.a ≡ a = eqb-true d.a a (and_parts (eqb d.a a) (value_eq d.v (Ref e)) own.passes).0 in (
            (sees.seen_is.members d).0 own.member,
            and_from (is_ref (facts_of db.snapshot.entries) d.a) (is_eq (probe_cmp (to e a) d))
                (subst (λ (n : ℕ). is_ref (facts_of db.snapshot.entries) n ≡ true) (sym same) held) (leads_to e a d ∙ own.passes),
          ),
      λ is.
          keep (refers e a) facts.seen d ((sees.seen_is.members d).1 is.0)
          (sym (leads_to e a d) ∙ (and_parts (is_ref (facts_of db.snapshot.entries) d.a) (is_eq (probe_cmp (to e a) d)) is.1).1),
    );
  }

  pub one_scan : (ds : List Datom) → IsScan db.snapshot.entries (window_of db) Selects Eavt (leading (under e a)) ds
      → ds ≡ filter (is_about e a) facts.seen
  one_scan ds is = IsRisingListOf-one Eavt _ ds (filter (is_about e a) facts.seen) is scan_under
