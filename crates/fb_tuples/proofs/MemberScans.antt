-- The first datom of an entity under an attribute has the least of its values; and what the values of an attribute that are reached are scanned by.
use Rattle.std.proofs.Common.{inl, inr, ◌≡◌, ℕ, Bool, true, false, not, List, [], ◌∷◌, ◌++◌, refl, sym, ap, ◌∙◌, subst, Option, Some, None}
use Rattle.std.specs.Prelude.{Contains, nat_eq, filter}
use Rattle.std.specs.Ordering.{is_lt, is_le, is_eq, ordering_then, ordering_reverse}
use Rattle.std.specs.Cmp.{tied_itself}
use Rattle.std.specs.Cmp.Lexicographic.{slice_cmp}
use Rattle.std.specs.FinMap.{nat_cmp-IsAntisymmetric}
use Rattle.std.specs.declared.cmp.Ordering.{Ordering}
use Rattle.std.specs.declared.cmp.Ordering.TheVariants.{Less, Equal, Greater}
use Rattle.std.proofs.lemmas.Bool.{true≢false, and_parts, and_from, eqb-true, eq-eqb}
use Rattle.std.proofs.lemmas.List.Elements.{Contains-append_left, Contains-append_right}
use Rattle.fb_values.specs.declared.facts.Datom.{Datom}
use Rattle.fb_values.specs.declared.facts.Entry.{Entry}
use Rattle.fb_values.specs.declared.facts.Value.{Value}
use Rattle.fb_values.specs.declared.facts.Value.TheVariants.{Ref}
use Rattle.fb_values.specs.declared.indexes.Order.TheVariants.{Eavt, Avet, Aevt}
use Rattle.fb_values.specs.Orders.{value_cmp, key_cmp, probe_cmp}
use Rattle.fb_values.specs.OrderLaws.{value_cmp_total}
use Rattle.fb_values.specs.Rising.{IsRising}
use Rattle.fb_values.proofs.Rising.{rising_from}
use Rattle.fb_model.specs.Facts.{facts}
use Rattle.fb_model.specs.Schema.{covers}
use Rattle.view_model.specs.Window.{Window, without_history}
use Rattle.view_model.specs.Scan.{IsScan, leading, between}
use Rattle.tuple_model.specs.Seen.{IsMember}
use Rattle.tuple_model.proofs.Members.{here, there, cases_of, none_of, kept_has}
use Rattle.fb_tuples.specs.Gathered.{under}
use Rattle.fb_tuples.specs.Reached.{is_reached, HasReached, about, valued, first_value}
use Rattle.fb_tuples.proofs.Listed.{then_rest, not_less_back, below_member, leads}

-- ---- the datoms of one entity under one attribute

both_tied : (r s : Ordering) → is_eq (ordering_then r (ordering_then s Equal)) ≡ true → (r ≡ Equal) × (s ≡ Equal)
both_tied Equal Equal is = (refl, refl)
both_tied Equal Less is = absurd (true≢false (sym is))
both_tied Equal Greater is = absurd (true≢false (sym is))
both_tied Less s is = absurd (true≢false (sym is))
both_tied Greater s is = absurd (true≢false (sym is))

tied_both : (r s : Ordering) → r ≡ Equal → s ≡ Equal → is_eq (ordering_then r (ordering_then s Equal)) ≡ true
tied_both r s first second = rw (first, second) refl

same_number : (m n : ℕ) → m ≡ n → value_cmp (Ref m) (Ref n) ≡ Equal
same_number m n same = subst (λ k. value_cmp (Ref m) (Ref k) ≡ Equal) same (tied_itself value_cmp_total (Ref m))

one_number : (m n : ℕ) → value_cmp (Ref m) (Ref n) ≡ Equal → m ≡ n
one_number m n tied = nat_cmp-IsAntisymmetric m n tied

led_about : (e a : ℕ) (d : Datom) → is_eq (probe_cmp (about e a) d) ≡ true → (d.e ≡ e) × (d.a ≡ a)
led_about e a d led =
    let tied = both_tied (value_cmp (Ref e) (Ref d.e)) (value_cmp (Ref a) (Ref d.a)) led in
    (sym (one_number e d.e tied.0), sym (one_number a d.a tied.1))

about_leads : (e a : ℕ) (d : Datom) → d.e ≡ e → d.a ≡ a → is_eq (probe_cmp (about e a) d) ≡ true
about_leads e a d same_e same_a =
    tied_both (value_cmp (Ref e) (Ref d.e)) (value_cmp (Ref a) (Ref d.a)) (same_number e d.e (sym same_e)) (same_number a d.a (sym same_a))

values_rise : (x y : Datom) → x.e ≡ y.e → x.a ≡ y.a → key_cmp Eavt x y ≡ Less → is_lt (value_cmp y.v x.v) ≡ false
values_rise x y same_e same_a less =
    not_less_back x.v y.v (slice_cmp value_cmp (Ref x.t ∷ []) (Ref y.t ∷ []))
    (then_rest (value_cmp (Ref x.a) (Ref y.a)) (slice_cmp value_cmp (x.v ∷ Ref x.t ∷ []) (y.v ∷ Ref y.t ∷ [])) (same_number x.a y.a same_a)
    (then_rest (value_cmp (Ref x.e) (Ref y.e)) (slice_cmp value_cmp (Ref x.a ∷ x.v ∷ Ref x.t ∷ []) (Ref y.a ∷ y.v ∷ Ref y.t ∷ []))
    (same_number x.e y.e same_e) less))

-- ---- the least value of an entity

module _ (e a : ℕ) where
  pub first_is_least : (x : Datom) (ds : List Datom) → IsRising Eavt (x ∷ ds) → ((d : Datom) → Contains (x ∷ ds) d → (d.e ≡ e) × (d.a ≡ a))
      → (d : Datom) → Contains (x ∷ ds) d → is_lt (value_cmp d.v x.v) ≡ false
  first_is_least x ds rising each d member = elim (cases_of x d ds member) [
    | inl same ↦ subst (λ (z : Datom). is_lt (value_cmp z.v x.v) ≡ false) same (ap is_lt (tied_itself value_cmp_total x.v))
    | inr later ↦
        let first = each x (here x ds) in
        let other = each d (there x d ds later) in
        values_rise x d (first.0 ∙ sym other.0) (first.1 ∙ sym other.1) (below_member Eavt x d ds rising.0 later)
  ]

module _ (h : List Entry) (w : Window) (Selects : Datom → Type 0) where
  pub member_scanned : (e a : ℕ) (ds : List Datom) → IsScan h (without_history w) Selects Eavt (leading (about e a)) ds
      → IsMember h w Selects e a (first_value ds)
  member_scanned e a [] scan =
      λ d seen on. let parts = and_parts (nat_eq d.e e) (nat_eq d.a a) on in
      none_of d ((scan.members d).1 (seen, about_leads e a d (eqb-true d.e e parts.0) (eqb-true d.a a parts.1)))
  member_scanned e a (x ∷ ds) scan =
      let each = λ (d : Datom) (member : Contains (x ∷ ds) d). led_about e a d ((scan.members d).0 member).1 in
      let seen = (scan.members x).0 (here x ds) in
      let on = each x (here x ds) in (
        (x, seen.0, and_from _ _ (eq-eqb x.e e on.0) (eq-eqb x.a a on.1), refl),
        λ d also of.
            let parts = and_parts (nat_eq d.e e) (nat_eq d.a a) of in
            first_is_least e a x ds (rising_from Eavt (x ∷ ds) scan.rising) each d
            ((scan.members d).1 (also, about_leads e a d (eqb-true d.e e parts.0) (eqb-true d.a a parts.1))),
      )

-- ---- the values that are reached

flips : (o : Ordering) → is_le o ≡ not (is_lt (ordering_reverse o))
flips Less = refl
flips Equal = refl
flips Greater = refl

pub within_reach : (v least greatest : Value) → is_lt (value_cmp v least) ≡ false
    → is_le (value_cmp v greatest) ≡ is_reached least (Some greatest) v
within_reach v least greatest low =
    rw low (flips (value_cmp v greatest) ∙ ap (λ o. not (is_lt o)) (sym (value_cmp_total.antisymm greatest v)))

not_true : (b : Bool) → not b ≡ true → b ≡ false
not_true true is = absurd (true≢false (sym is))
not_true false is = refl

module _ (h : List Entry) (w : Window) (Selects : Datom → Type 0) (a : ℕ) where
  held : (d : Datom) → covers (facts h) Avet a ≡ true → d.a ≡ a → covers (facts h) Avet d.a ≡ true
  held d covered same = subst (λ n. covers (facts h) Avet n ≡ true) (sym same) covered

  pub reached_from : (least : Value) (ds : List Datom) → covers (facts h) Avet a ≡ true
      → IsScan h w Selects Avet (between a (Some least) None) ds → HasReached h w Selects a least None ds
  reached_from least ds covered scan d seen same reach =
      let parts = and_parts (not (is_lt (value_cmp d.v least))) true reach in
      (scan.members d).1 (
        seen,
        and_from _ _ (held d covered same)
            (and_from _ _ (and_from _ _ (eq-eqb d.a a same) parts.0) refl),
      )

  pub reached_upto : (least greatest : Value) (xs ys : List Datom) → covers (facts h) Avet a ≡ true
      → IsScan h w Selects Avet (between a (Some least) (Some greatest)) xs
      → IsScan h w Selects Avet (leading (valued a greatest)) ys → HasReached h w Selects a least (Some greatest) (xs ++ ys)
  reached_upto least greatest xs ys covered below last d seen same reach =
      let parts = and_parts (not (is_lt (value_cmp d.v least))) (not (is_lt (value_cmp greatest d.v))) reach in
      go parts.0 (not_true (is_lt (value_cmp greatest d.v)) parts.1) (value_cmp d.v greatest) refl
    where
      go : not (is_lt (value_cmp d.v least)) ≡ true → is_lt (value_cmp greatest d.v) ≡ false → (o : Ordering) → value_cmp d.v greatest ≡ o
          → Contains (xs ++ ys) d
      go from over Less is =
          Contains-append_left xs ys d
          ((below.members d).1 (
            seen,
            and_from _ _ (held d covered same)
                (and_from _ _ (and_from _ _ (eq-eqb d.a a same) from) (ap is_lt is)),
          ))
      go from over Equal is =
          Contains-append_right xs ys d
          ((last.members d).1 (
            seen,
            and_from _ _ (held d covered same)
                (tied_both (value_cmp (Ref a) (Ref d.a)) (value_cmp greatest d.v) (same_number a d.a (sym same))
                (value_cmp_total.antisymm greatest d.v ∙ ap ordering_reverse is)),
          ))
      go from over Greater is =
          absurd (true≢false (sym (ap is_lt (value_cmp_total.antisymm greatest d.v ∙ ap ordering_reverse is)) ∙ over))

  pub reached_under : (least : Value) (greatest : Option Value) (ds : List Datom) → IsScan h w Selects Aevt (leading (under a)) ds
      → HasReached h w Selects a least greatest (filter (λ d. is_reached least greatest d.v) ds)
  reached_under least greatest ds scan d seen same reach =
      kept_has (λ d. is_reached least greatest d.v) ds d ((scan.members d).1 (seen, leads a d same)) reach
