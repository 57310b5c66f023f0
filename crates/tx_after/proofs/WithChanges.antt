-- The facts with changes, as far as they pass a test of triples.
use Rattle.std.proofs.Common.{◌≡◌, ℕ, Bool, true, false, cond, not, ◌&&◌, List, [], ◌∷◌, ◌++◌, refl, ap, sym, ◌∙◌, subst, inl, inr, ◌⊎◌}
use Rattle.std.proofs.Common.{eqb}
use Rattle.std.specs.Prelude.{filter, Contains, map}
use Rattle.std.specs.List.{list_any, list_all}
use Rattle.std.specs.Ordering.{is_lt}
use Rattle.std.proofs.lemmas.Bool.{true≢false, and_parts, and_from, not-true, eq-eqb}
use Rattle.std.proofs.lemmas.List.Elements.{Contains-append_left, Contains-append_right, Contains-append_cases}
use Rattle.fb_values.specs.declared.facts.Datom.{Datom}
use Rattle.fb_values.specs.declared.facts.Entry.{Entry}
use Rattle.fb_values.specs.declared.facts.Value.{Value}
use Rattle.fb_values.specs.declared.indexes.Order.{Order}
use Rattle.fb_values.specs.declared.indexes.Order.TheVariants.{Eavt}
use Rattle.fb_values.specs.OrderLaws.{key_cmp-Equal}
use Rattle.fb_values.specs.Rising.{rises}
use Rattle.fb_model.specs.Rising.{in_order}
use Rattle.fb_model.specs.History.{said}
use Rattle.fb_model.specs.Facts.{is_of, standing, facts, value_eq}
use Rattle.fb_model.proofs.Members.{here, cases_of, none_of, member_passes, any_member, some_member, IsKept, kept, keep, standing_member}
use Rattle.fb_model.proofs.Members.{standing_added, standing_has, standing-apart, are_of_other_triples, in_order_member, in_order-rises}
use Rattle.fb_model.proofs.Members.{filter_twice}
use Rattle.fb_model.proofs.InOrder.{OneForEachKey, in_order_has, one_rising_list, first_is_least}
use Rattle.fb_model.proofs.Triples.{is_of-true, standing-append, not_followed, value_eq-refl}
use Rattle.fb_model.proofs.Untouched.{IsOnTriples}
use Rattle.fb_model.specs.Schema.{is_about}
use Rattle.fb_facts.specs.FactLists.{is_of_entity, is_under}
use Rattle.tx_after.specs.After.{after, facts_of, values_of}
use Rattle.tx_after.specs.Triples.{triples_rise, triple_cmp, is_unmentioned, is_added, with_changes}
use Rattle.tx_after.proofs.Orders.{AreApart, other_triple, triples-from_keys, rest_rises}

-- ---- added datoms are told apart by their keys

made : ℕ → ℕ → Value → ℕ → Bool → Datom
made e a v t added = record { e = e; a = a; v = v; t = t; added = added }

datom_same : (x y : Datom) → x.e ≡ y.e → x.a ≡ y.a → x.v ≡ y.v → x.t ≡ y.t → x.added ≡ y.added → x ≡ y
unfolding made
datom_same x y e a v t added =
    ap (λ z. made z x.a x.v x.t x.added) e ∙ ap (λ z. made y.e z x.v x.t x.added) a ∙ ap (λ z. made y.e y.a z x.t x.added) v
    ∙ ap (λ z. made y.e y.a y.v z x.added) t ∙ ap (λ z. made y.e y.a y.v y.t z) added

pub one_of_added : (order : Order) (ds : List Datom) → ((d : Datom) → Contains ds d → d.added ≡ true) → OneForEachKey order ds
one_of_added order ds added =
    record {
      same =
          λ x y x_in y_in equal. let place = key_cmp-Equal order x y equal in
          datom_same x y place.e place.a place.v place.t (added x x_in ∙ sym (added y y_in));
    }

-- two lists of added datoms with the same members are one list in order
pub same_in_order : (order : Order) (xs ys : List Datom)
    → ((d : Datom) → Contains xs d → d.added ≡ true) → ((d : Datom) → Contains ys d → d.added ≡ true)
    → ((d : Datom) → Contains xs d → Contains ys d) → ((d : Datom) → Contains ys d → Contains xs d) → in_order order xs ≡ in_order order ys
same_in_order order xs ys x_added y_added to back =
    one_rising_list order (in_order order xs) (in_order order ys) (in_order-rises order xs) (in_order-rises order ys)
    (λ d member. in_order_has order ys (one_of_added order ys y_added) d (to d (in_order_member order xs d member)))
    (λ d member. in_order_has order xs (one_of_added order xs x_added) d (back d (in_order_member order ys d member)))

-- ---- facts of one triple are one

standing-alone : (ds : List Datom) → are_of_other_triples ds ≡ true → AreApart ds
standing-alone [] apart = record { same = λ x y x_in y_in of. absurd (none_of x x_in) }
standing-alone (d ∷ ds) apart = record {
  same =
      λ x y x_in y_in of. go x y of (cases_of d x ds x_in) (cases_of d y ds y_in)
      (standing-alone ds (and_parts (not (list_any (is_of d.e d.a d.v) ds)) (are_of_other_triples ds) apart).1);
}
  where
    parts : (not (list_any (is_of d.e d.a d.v) ds) ≡ true) × (are_of_other_triples ds ≡ true)
    parts = and_parts (not (list_any (is_of d.e d.a d.v) ds)) (are_of_other_triples ds) apart

    back : (x y : Datom) → is_of x.e x.a x.v y ≡ true → is_of y.e y.a y.v x ≡ true
    back x y of =
        let is = is_of-true x.e x.a x.v y of in
        and_from _ _ (and_from _ _ (eq-eqb x.e y.e (sym is.e_is)) (eq-eqb x.a y.a (sym is.a_is)))
        (ap (λ v. value_eq x.v v) is.v_is ∙ value_eq-refl x.v)

    clash : (y : Datom) → Contains ds y → is_of d.e d.a d.v y ≡ true → ⊥
    clash y member of = true≢false (sym (any_member (is_of d.e d.a d.v) ds y member of) ∙ not-true _ parts.0)

    go : (x y : Datom) → is_of x.e x.a x.v y ≡ true → (d ≡ x) ⊎ Contains ds x → (d ≡ y) ⊎ Contains ds y → AreApart ds → x ≡ y
    go x y of (inl x_is) (inl y_is) rest = sym x_is ∙ y_is
    go x y of (inl x_is) (inr y_in) rest = absurd (clash y y_in (subst (λ z. is_of z.e z.a z.v y ≡ true) (sym x_is) of))
    go x y of (inr x_in) (inl y_is) rest = absurd (clash x x_in (subst (λ z. is_of z.e z.a z.v x ≡ true) (sym y_is) (back x y of)))
    go x y of (inr x_in) (inr y_in) rest = rest.same x y x_in y_in of

pub standing_apart : (ds : List Datom) → AreApart (standing ds)
standing_apart ds = standing-alone (standing ds) (standing-apart ds)

-- the facts that pass, in order, have rising triples
pub told-rises : (order : Order) (test : Datom → Bool) (ds : List Datom)
    → triples_rise order (in_order order (filter test (standing ds))) ≡ true
told-rises order test ds =
    triples-from_keys order (in_order order (filter test (standing ds))) (in_order-rises order (filter test (standing ds)))
    (record { same = λ x y x_in y_in of. (standing_apart ds).same x y (of_facts x x_in) (of_facts y y_in) of })
  where
    of_facts : (d : Datom) → Contains (in_order order (filter test (standing ds))) d → Contains (standing ds) d
    of_facts d member = (kept test (standing ds) d (in_order_member order (filter test (standing ds)) d member)).member

-- ---- changes of which each triple rises above the last are of other triples

pub apart-from_triples : (order : Order) (ds : List Datom) → triples_rise order ds ≡ true → are_of_other_triples ds ≡ true
apart-from_triples order [] rising = refl
apart-from_triples order (d ∷ ds) rising =
    let parts = and_parts _ _ rising in
    and_from _ _ (ap not (none ds parts.0)) (apart-from_triples order ds parts.1)
  where
    none : (es : List Datom) → list_all (λ y. is_lt (triple_cmp order d y)) es ≡ true → list_any (is_of d.e d.a d.v) es ≡ false
    none es low = go (list_any (is_of d.e d.a d.v) es) refl
      where
        go : (b : Bool) → list_any (is_of d.e d.a d.v) es ≡ b → b ≡ false
        go false is = refl
        go true is =
            let found = some_member (is_of d.e d.a d.v) es is in
            absurd (true≢false
            (sym found.2 ∙ other_triple order d found.0 (member_passes (λ y. is_lt (triple_cmp order d y)) es found.0 low found.1)))

-- ---- the facts with changes

module _ (h : List Entry) (changes : List Datom) (apart : are_of_other_triples changes ≡ true) where
  -- a fact before of which no change tells, or an addition
  pub data IsAfter (d : Datom) : Type 0 where
    stays : Contains (facts h) d → is_unmentioned changes d ≡ true → IsAfter d
    comes : Contains changes d → d.added ≡ true → IsAfter d

  pub after_cases : (d : Datom) → Contains (after h changes) d → IsAfter d
  after_cases d member =
      elim (Contains-append_cases (filter (not_followed changes) (facts h)) (standing changes) d
      (subst (λ l. Contains l d) (standing-append (said h) changes) member)) [
        | inl old ↦ (let is = kept (not_followed changes) (facts h) d old in stays is.member is.passes)
        | inr new ↦ comes (standing_member changes d new) (standing_added changes d new)
      ]

  pub is_in_after : (d : Datom) → IsAfter d → Contains (after h changes) d
  is_in_after d (stays member alone) =
      subst (λ l. Contains l d) (sym (standing-append (said h) changes))
      (Contains-append_left (filter (not_followed changes) (facts h)) (standing changes) d
      (keep (not_followed changes) (facts h) d member alone))
  is_in_after d (comes member added) =
      subst (λ l. Contains l d) (sym (standing-append (said h) changes))
      (Contains-append_right (filter (not_followed changes) (facts h)) (standing changes) d (standing_has changes d apart member added))

  pub after_added : (d : Datom) → Contains (after h changes) d → d.added ≡ true
  after_added d member = standing_added (said h ++ changes) d member

  -- a test of triples passes a datom of a passing one's triple
  fewer_tell : (test : Datom → Bool) → IsOnTriples test → (d : Datom) → test d ≡ true
      → list_any (is_of d.e d.a d.v) (filter test changes) ≡ list_any (is_of d.e d.a d.v) changes
  fewer_tell test on d pass = go (list_any (is_of d.e d.a d.v) (filter test changes)) refl (list_any (is_of d.e d.a d.v) changes) refl
    where
      go : (b : Bool) → list_any (is_of d.e d.a d.v) (filter test changes) ≡ b → (c : Bool) → list_any (is_of d.e d.a d.v) changes ≡ c
          → b ≡ c
      go true is true also = refl
      go false is false also = refl
      go true is false also =
          let found = some_member (is_of d.e d.a d.v) (filter test changes) is in
          absurd
          (true≢false (sym (any_member (is_of d.e d.a d.v) changes found.0 (kept test changes found.0 found.1).member found.2) ∙ also))
      go false is true also =
          let found = some_member (is_of d.e d.a d.v) changes also in
          absurd (true≢false (sym (any_member (is_of d.e d.a d.v) (filter test changes) found.0
          (keep test changes found.0 found.1 (sym (on.same d found.0 found.2) ∙ pass)) found.2) ∙ is))

  -- those that pass a test are made of the facts and the changes that pass it
  pub told_with_changes : (order : Order) (test : Datom → Bool) → IsOnTriples test
      → with_changes order (in_order order (filter test (facts h))) (filter test changes) ≡ in_order order (filter test (after h changes))
  told_with_changes order test on =
      same_in_order order
      (filter (is_unmentioned (filter test changes)) (in_order order (filter test (facts h))) ++ filter is_added (filter test changes))
      (filter test (after h changes))
      left_added (λ d member. after_added d (kept test (after h changes) d member).member) to back
    where
      told_kept : (d : Datom) → Contains (in_order order (filter test (facts h))) d → IsKept test (facts h) d
      told_kept d member = kept test (facts h) d (in_order_member order (filter test (facts h)) d member)

      left_added : (d : Datom)
          → Contains
          (filter (is_unmentioned (filter test changes)) (in_order order (filter test (facts h))) ++ filter is_added (filter test changes))
          d
          → d.added ≡ true
      left_added d member =
          elim (Contains-append_cases (filter (is_unmentioned (filter test changes)) (in_order order (filter test (facts h))))
          (filter is_added (filter test changes)) d member) [
            | inl old ↦
                standing_added (said h) d
                (told_kept d (kept (is_unmentioned (filter test changes)) (in_order order (filter test (facts h))) d old).member).member
            | inr new ↦ (kept is_added (filter test changes) d new).passes
          ]

      to : (d : Datom)
          → Contains
          (filter (is_unmentioned (filter test changes)) (in_order order (filter test (facts h))) ++ filter is_added (filter test changes))
          d
          → Contains (filter test (after h changes)) d
      to d member =
          elim (Contains-append_cases (filter (is_unmentioned (filter test changes)) (in_order order (filter test (facts h))))
          (filter is_added (filter test changes)) d member) [
            | inl old ↦
                (let is = kept (is_unmentioned (filter test changes)) (in_order order (filter test (facts h))) d old in
                let fact = told_kept d is.member in
                keep test (after h changes) d
                (is_in_after d (stays fact.member (ap not (sym (fewer_tell test on d fact.passes)) ∙ is.passes))) fact.passes)
            | inr new ↦ (let is = kept is_added (filter test changes) d new in let change = kept test changes d is.member in
                keep test (after h changes) d (is_in_after d (comes change.member is.passes)) change.passes)
          ]

      back : (d : Datom) → Contains (filter test (after h changes)) d
          → Contains
          (filter (is_unmentioned (filter test changes)) (in_order order (filter test (facts h))) ++ filter is_added (filter test changes))
          d
      back d member = let is = kept test (after h changes) d member in cases (after_cases d is.member) is.passes
        where
          cases : IsAfter d → test d ≡ true
              → Contains (filter (is_unmentioned (filter test changes)) (in_order order (filter test (facts h)))
              ++ filter is_added (filter test changes)) d
          cases (stays fact alone) pass =
              Contains-append_left (filter (is_unmentioned (filter test changes)) (in_order order (filter test (facts h))))
              (filter is_added (filter test changes)) d
              (keep (is_unmentioned (filter test changes)) (in_order order (filter test (facts h))) d
              (in_order_has order (filter test (facts h))
              (one_of_added order (filter test (facts h)) (λ x x_in. standing_added (said h) x (kept test (facts h) x x_in).member)) d
              (keep test (facts h) d fact pass))
              (ap not (fewer_tell test on d pass) ∙ alone))
          cases (comes change added) pass =
              Contains-append_right (filter (is_unmentioned (filter test changes)) (in_order order (filter test (facts h))))
              (filter is_added (filter test changes)) d
              (keep is_added (filter test changes) d (keep test changes d change pass) added)

pub entity-IsOnTriples : (e : ℕ) → IsOnTriples (is_of_entity e)
entity-IsOnTriples e = record { same = λ d other h. ap (λ n. eqb n e) (sym (is_of-true d.e d.a d.v other h).e_is) }

pub under-IsOnTriples : (a : ℕ) → IsOnTriples (is_under a)
under-IsOnTriples a = record { same = λ d other h. ap (λ n. eqb n a) (sym (is_of-true d.e d.a d.v other h).a_is) }

-- ---- a test before and after the list is put in order

pub rises-filter : (order : Order) (p : Datom → Bool) (ds : List Datom) → rises order ds ≡ true → rises order (filter p ds) ≡ true
rises-filter order p [] rising = refl
rises-filter order p (x ∷ ds) rising = go (p x) (rises-filter order p ds (rest_rises order x ds rising))
  where
    below : (es : List Datom) → ((d : Datom) → Contains es d → Contains ds d) → rises order es ≡ true → rises order (x ∷ es) ≡ true
    below [] within rest = refl
    below (y ∷ es) within rest = and_from _ _ (first_is_least order x ds y rising (within y (here y es))) rest

    go : (b : Bool) → rises order (filter p ds) ≡ true → rises order (cond b (x ∷ filter p ds) (filter p ds)) ≡ true
    go true rest = below (filter p ds) (λ d member. (kept p ds d member).member) rest
    go false rest = rest

pub filter-in_order : (order : Order) (p : Datom → Bool) (ds : List Datom)
    → ((d : Datom) → Contains ds d → d.added ≡ true) → filter p (in_order order ds) ≡ in_order order (filter p ds)
filter-in_order order p ds added =
    one_rising_list order (filter p (in_order order ds)) (in_order order (filter p ds))
    (rises-filter order p (in_order order ds) (in_order-rises order ds)) (in_order-rises order (filter p ds))
    (λ d member. let is = kept p (in_order order ds) d member in
    in_order_has order (filter p ds) (one_of_added order (filter p ds) (λ x x_in. added x (kept p ds x x_in).member)) d
    (keep p ds d (in_order_member order ds d is.member) is.passes))
    (λ d member. let is = kept p ds d (in_order_member order (filter p ds) d member) in
    keep p (in_order order ds) d (in_order_has order ds (one_of_added order ds added) d is.member) is.passes)

and_swap : (x y : Bool) → (x && y) ≡ (y && x)
and_swap false false = refl
and_swap false true = refl
and_swap true false = refl
and_swap true true = refl

filter_agree : (p q : Datom → Bool) → ((d : Datom) → p d ≡ q d) → (ds : List Datom) → filter p ds ≡ filter q ds
filter_agree p q agree [] = refl
filter_agree p q agree (d ∷ ds) =
    ap (λ b. cond b (d ∷ filter p ds) (filter p ds)) (agree d) ∙ ap (λ l. cond (q d) (d ∷ l) l) (filter_agree p q agree ds)

pub about-filter : (e a : ℕ) (ds : List Datom) → filter (is_under a) (filter (is_of_entity e) ds) ≡ filter (is_about e a) ds
about-filter e a ds =
    filter_twice (is_under a) (is_of_entity e) ds
    ∙ filter_agree (λ d. is_under a d && is_of_entity e d) (is_about e a) (λ d. and_swap (is_under a d) (is_of_entity e d)) ds

pub values-told : (h : List Entry) (changes : List Datom) (e a : ℕ)
    → map (λ (d : Datom). d.v) (filter (is_under a) (facts_of h changes e)) ≡ values_of h changes e a
values-told h changes e a =
    ap (map (λ (d : Datom). d.v))
    (filter-in_order Eavt (is_under a) (filter (is_of_entity e) (after h changes))
    (λ d member. standing_added (said h ++ changes) d (kept (is_of_entity e) (after h changes) d member).member)
    ∙ ap (in_order Eavt) (about-filter e a (after h changes)))
