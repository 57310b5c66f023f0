-- The entity that has a value is that of the first datom of the value in AVET.
use Rattle.std.proofs.Common.{◌≡◌, ℕ, ◌<◌, ◌≤◌, true, ◌&&◌, List, [], ◌∷◌, refl, ap, sym, ◌∙◌, subst, arith, inl, inr, Option, Some}
use Rattle.std.proofs.Common.{None, eqb}
use Rattle.std.specs.Option.{option_map}
use Rattle.std.specs.Ordering.{is_eq, is_lt, nat_cmp, ordering_then, ordering_reverse}
use Rattle.std.specs.Cmp.{tied_itself}
use Rattle.std.specs.Cmp.Lexicographic.{slice_cmp}
use Rattle.std.specs.declared.cmp.Ordering.{Ordering}
use Rattle.std.specs.declared.cmp.Ordering.TheVariants.{Less, Equal, Greater}
use Rattle.std.proofs.lemmas.Bool.{true≢false, and_parts, and_from, eqb-true, eq-eqb, cases_lt}
use Rattle.fb_values.specs.declared.facts.Datom.{Datom}
use Rattle.fb_values.specs.declared.facts.Entry.{Entry}
use Rattle.fb_values.specs.declared.facts.Value.{Value}
use Rattle.fb_values.specs.declared.facts.Value.TheVariants.{Ref}
use Rattle.fb_values.specs.declared.indexes.Order.TheVariants.{Avet}
use Rattle.fb_values.specs.declared.indexes.Probe.{Probe}
use Rattle.fb_values.specs.Orders.{value_cmp, key_cmp, probe_cmp}
use Rattle.fb_values.specs.OrderLaws.{value_cmp_total}
use Rattle.fb_model.specs.Facts.{facts, value_eq}
use Rattle.fb_model.specs.Schema.{covers}
use Rattle.fb_model.proofs.Triples.{is_of-true, value_eq-true, value_eq-refl}
use Rattle.view_model.specs.Window.{Window, without_history}
use Rattle.view_model.specs.Scan.{leading, is_scanned}
use Rattle.fb_scan.specs.Firsts.{IsFirst}
use Rattle.read_model.specs.Finding.{Has, IsHolder}

-- the datoms of a value
abbrev pub of_value : ℕ → Value → Probe
of_value a v = record { order = Avet; e = None; a = Some a; v = Some v; t = None }

is_eq-then : (o p : Ordering) → is_eq (ordering_then o p) ≡ (is_eq o && is_eq p)
is_eq-then Less p = refl
is_eq-then Equal p = refl
is_eq-then Greater p = refl

is_eq-last : (o : Ordering) → is_eq (ordering_then o Equal) ≡ is_eq o
is_eq-last Less = refl
is_eq-last Equal = refl
is_eq-last Greater = refl

is_eq-reverse : (o : Ordering) → is_eq (ordering_reverse o) ≡ is_eq o
is_eq-reverse Less = refl
is_eq-reverse Equal = refl
is_eq-reverse Greater = refl

number : (m n : ℕ) → is_eq (value_cmp (Ref m) (Ref n)) ≡ eqb n m
number m n = grind arith

-- the probe leads to the datoms of the attribute that have the value
leads : (a : ℕ) (v : Value) (d : Datom) → is_eq (probe_cmp (of_value a v) d) ≡ (eqb d.a a && value_eq d.v v)
leads a v d =
    is_eq-then (value_cmp (Ref a) (Ref d.a)) (slice_cmp value_cmp (v ∷ []) (d.v ∷ []))
    ∙ ap (λ b. b && is_eq (slice_cmp value_cmp (v ∷ []) (d.v ∷ []))) (number a d.a)
    ∙ ap (λ b. eqb d.a a && b) (is_eq-last (value_cmp v d.v) ∙ ap is_eq (value_cmp_total.antisymm v d.v) ∙ is_eq-reverse (value_cmp d.v v))

then_lt : (p q : Ordering) → p ≡ Equal → is_lt (ordering_then p q) ≡ true → is_lt q ≡ true
then_lt Less q same less = absurd (cc)
then_lt Equal q same less = less
then_lt Greater q same less = absurd (cc)

above : (m n : ℕ) → n < m → nat_cmp m n ≡ Greater
above m n less = grind arith

upto : (m n : ℕ) (rest : Ordering) → is_lt (ordering_then (nat_cmp m n) rest) ≡ true → m ≤ n
upto m n rest less =
    elim (cases_lt n m) [
      | inl more ↦ absurd (true≢false (sym less ∙ ap (λ o. is_lt (ordering_then o rest)) (above m n more)))
      | inr le ↦ le
    ]

-- of two datoms with one attribute and value the one with the lesser entity stands first
by_entity : (x y : Datom) → x.a ≡ y.a → x.v ≡ y.v → is_lt (key_cmp Avet x y) ≡ true → x.e ≤ y.e
by_entity x y same_a same_v less =
    let a_is : value_cmp (Ref x.a) (Ref y.a) ≡ Equal =
    subst (λ n. value_cmp (Ref x.a) (Ref n) ≡ Equal) same_a (tied_itself value_cmp_total (Ref x.a)) in
    let v_is : value_cmp x.v y.v ≡ Equal = subst (λ v. value_cmp x.v v ≡ Equal) same_v (tied_itself value_cmp_total x.v) in
    let behind_a =
    then_lt (value_cmp (Ref x.a) (Ref y.a)) (slice_cmp value_cmp (x.v ∷ Ref x.e ∷ Ref x.t ∷ []) (y.v ∷ Ref y.e ∷ Ref y.t ∷ [])) a_is less in
    let behind_v = then_lt (value_cmp x.v y.v) (slice_cmp value_cmp (Ref x.e ∷ Ref x.t ∷ []) (Ref y.e ∷ Ref y.t ∷ [])) v_is behind_a in
    upto x.e y.e (slice_cmp value_cmp (Ref x.t ∷ []) (Ref y.t ∷ [])) behind_v

module _ (h : List Entry) (w : Window) (Selects : Datom → Type 0) (a : ℕ) (v : Value) (covered : covers (facts h) Avet a ≡ true) where
  scanned : (e : ℕ) (has : Has h w Selects a v e) → is_scanned (facts h) Avet (leading (of_value a v)) has.datom ≡ true
  scanned e has =
      let own = is_of-true e a v has.datom has.says in
      let held : covers (facts h) Avet has.datom.a ≡ true = subst (λ n. covers (facts h) Avet n ≡ true) (sym own.a_is) covered in
      let led : is_eq (probe_cmp (of_value a v) has.datom) ≡ true =
      leads a v has.datom
      ∙ and_from (eqb has.datom.a a) (value_eq has.datom.v v) (eq-eqb has.datom.a a own.a_is)
      (subst (λ u. value_eq has.datom.v u ≡ true) own.v_is (value_eq-refl has.datom.v)) in
      and_from (covers (facts h) Avet has.datom.a) (is_eq (probe_cmp (of_value a v) has.datom)) held led

  pub holder_of_first : (first : Option Datom) → IsFirst h (without_history w) Selects Avet (leading (of_value a v)) first
      → IsHolder h w Selects a v (option_map (λ d. d.e) first)
  holder_of_first None none = λ e has. none has.datom (has.in_view, scanned e has)
  holder_of_first (Some d) first =
      let mine = first.0 in
      let parts = and_parts (covers (facts h) Avet d.a) (is_eq (probe_cmp (of_value a v) d)) mine.1 in
      let both = and_parts (eqb d.a a) (value_eq d.v v) (sym (leads a v d) ∙ parts.1) in
      let a_is = eqb-true d.a a both.0 in
      let v_is = value_eq-true d.v v both.1 in (
        record {
          datom = d;
          in_view = mine.0;
          says =
              and_from (eqb d.e d.e && eqb d.a a) (value_eq d.v v) (and_from (eqb d.e d.e) (eqb d.a a) (eq-eqb d.e d.e refl) both.0) both.1;
        },
        λ other has.
            let own = is_of-true other a v has.datom has.says in
            elim (first.1 has.datom (has.in_view, scanned other has)) [
              | inl same ↦ let e_is : d.e ≡ has.datom.e = ap (λ (x : Datom). x.e) same in omega (arith, e_is, own.e_is)
              | inr later ↦ omega (
                arith,
                own.e_is,
                by_entity d has.datom (a_is ∙ sym own.a_is) (v_is ∙ sym own.v_is) (ap is_lt later),
              )
            ],
      )
