-- What a transaction records, where it breaks no rule: in order, changes alone, and the instant.
use Rattle.std.proofs.Common.{◌≡◌, ℕ, suc, ◌+◌, ◌≤◌, ℤ, Bool, true, false, cond, not, ◌&&◌, ◌||◌, List, [], ◌∷◌, ◌++◌, length, refl, ap}
use Rattle.std.proofs.Common.{sym, ◌∙◌, arith, ◌⊎◌, eqb, ltb, Some}
use Rattle.std.specs.Prelude.{Contains, filter, int_lt}
use Rattle.std.specs.List.{list_any}
use Rattle.std.specs.Option.{option_map_or}
use Rattle.std.specs.Ordering.{is_lt}
use Rattle.std.proofs.lemmas.Bool.{true≢false, and_from, or_parts, or_right, eq-eqb}
use Rattle.std.proofs.lemmas.Bool.Decides.{nat_tests}
use Rattle.edn_model.specs.Form.{Form}
use Rattle.fb_values.specs.declared.facts.Datom.{Datom}
use Rattle.fb_values.specs.declared.facts.Entry.{Entry}
use Rattle.fb_values.specs.declared.facts.Value.{Value}
use Rattle.fb_values.specs.declared.facts.Value.TheVariants.{Instant}
use Rattle.fb_values.specs.declared.indexes.Order.{Order}
use Rattle.fb_values.specs.declared.indexes.Order.TheVariants.{Eavt}
use Rattle.fb_values.specs.Orders.{key_cmp}
use Rattle.fb_values.specs.OrderLaws.{key_cmp-Equal, IsAtOnePlace}
use Rattle.fb_numbers.specs.Numbers.{transaction_of, tx_instant, most_datoms, greatest_t, greatest_instant}
use Rattle.fb_model.specs.Rising.{put_in_order, in_order}
use Rattle.fb_model.specs.History.{basis, said, last_instant}
use Rattle.fb_model.specs.Facts.{facts, holds_after}
use Rattle.fb_model.specs.Schema.{Attribute, attribute_named}
use Rattle.fb_model.specs.Laws.{is_forbidden}
use Rattle.fb_model.specs.Lawful.{IsLawful}
use Rattle.fb_model.proofs.Members.{kept, keep, cases_of, in_order_member}
use Rattle.fb_model.proofs.InOrder.{OneForEachKey, in_order_has, put_has_old, put_has_new}
use Rattle.tx_model.specs.Asks.{Ask, attribute_of_ask}
use Rattle.tx_model.specs.Tempids.{db_of}
use Rattle.tx_model.specs.Transaction.{joined, is_change, transaction, recorded}
use Rattle.tx_model.specs.NameRules.{breaks_protected_attribute, is_protected, adds_reserved_ident}
use Rattle.tx_model.specs.ChangeRules.{asked, is_recorded}
use Rattle.tx_model.proofs.Lists.{none_passes}
use Rattle.tx_model.proofs.Refused.{NoneBroken}
use Rattle.tx_model.proofs.Changed.{Origin, by_addition, by_retraction, by_withdrawal, IsChangeOf, change_of}

-- ---- lists

abbrev made : ℕ → ℕ → Value → ℕ → Bool → Datom
made e a v t added = record { e = e; a = a; v = v; t = t; added = added }

datom_same : (x y : Datom) → x.e ≡ y.e → x.a ≡ y.a → x.v ≡ y.v → x.t ≡ y.t → x.added ≡ y.added → x ≡ y
datom_same x y e a v t added =
    ap (λ z. made z x.a x.v x.t x.added) e ∙ ap (λ z. made y.e z x.v x.t x.added) a ∙ ap (λ z. made y.e y.a z x.t x.added) v
    ∙ ap (λ z. made y.e y.a y.v z x.added) t ∙ ap (λ z. made y.e y.a y.v y.t z) added

put-length : (order : Order) (d : Datom) (ds : List Datom) → length (put_in_order order d ds) ≤ length ds + 1
put-length order d [] = omega arith
put-length order d (y ∷ ds) = go (is_lt (key_cmp order d y)) (is_lt (key_cmp order y d)) (put-length order d ds)
  where
    go : (b c : Bool) → length (put_in_order order d ds) ≤ length ds + 1
        → length (cond b (d ∷ y ∷ ds) (cond c (y ∷ put_in_order order d ds) (y ∷ ds))) ≤ suc (length ds) + 1
    go true c rest = omega arith
    go false true rest = omega (arith, rest)
    go false false rest = omega arith

in_order-length : (order : Order) (ds : List Datom) → length (in_order order ds) ≤ length ds
in_order-length order [] = omega arith
in_order-length order (d ∷ ds) = omega (arith, put-length order d (in_order order ds), in_order-length order ds)

-- a datom of a triple is a change in one way alone
one_way : (held x y : Bool) → cond x (not held) held ≡ true → cond y (not held) held ≡ true → x ≡ y
one_way held true true p q = refl
one_way held false false p q = refl
one_way true true false p q = absurd (true≢false (sym p))
one_way false true false p q = absurd (true≢false (sym q))
one_way true false true p q = absurd (true≢false (sym q))
one_way false false true p q = absurd (true≢false (sym p))

pub one_change : (ds asked : List Datom) → OneForEachKey Eavt (filter (is_change ds) asked)
one_change ds asked = record {
  same =
      λ x y x_in y_in equal.
      alike x y (kept (is_change ds) asked x x_in).passes (kept (is_change ds) asked y y_in).passes (key_cmp-Equal Eavt x y equal);
}
  where
    alike : (x y : Datom) → is_change ds x ≡ true → is_change ds y ≡ true → IsAtOnePlace x y → x ≡ y
    alike x y p q place =
        datom_same x y place.e place.a place.v place.t
        (one_way (holds_after false ds y.e y.a y.v) x.added y.added
        (ap (λ held. cond x.added (not held) held) (sym (ap (λ e. holds_after false ds e x.a x.v) place.e
        ∙ ap (λ a. holds_after false ds y.e a x.v) place.a ∙ ap (λ v. holds_after false ds y.e y.a v) place.v)) ∙ p) q)

-- ---- the changes

module _ (h : List Entry) (fs : List Form) (lawful : IsLawful h) (none : NoneBroken (transaction h fs)) where
  pub the_change : (d : Datom) → Contains (transaction h fs).changes d → IsChangeOf (transaction h fs) d
  the_change d member = change_of h fs none.wrong_type d member

  pub change_has : (d : Datom)
      → Contains (joined (transaction h fs).added ++ joined (transaction h fs).retracted ++ joined (transaction h fs).swept
      ++ joined (transaction h fs).replaced) d
      → is_change (said h) d ≡ true → Contains (transaction h fs).changes d
  change_has d member changes =
      in_order_has Eavt (filter (is_change (said h)) (joined (transaction h fs).added ++ joined (transaction h fs).retracted
      ++ joined (transaction h fs).swept ++ joined (transaction h fs).replaced))
      (one_change (said h) (joined (transaction h fs).added ++ joined (transaction h fs).retracted ++ joined (transaction h fs).swept
      ++ joined (transaction h fs).replaced)) d
      (keep (is_change (said h)) (joined (transaction h fs).added ++ joined (transaction h fs).retracted ++ joined (transaction h fs).swept
      ++ joined (transaction h fs).replaced) d member changes)

  -- a test of changes that no form may pass
  pub not_asked : (test : Datom → Bool) (d : Datom) (change : IsChangeOf (transaction h fs) d)
      → list_any (λ x. is_recorded (transaction h fs) x && test x) (asked (transaction h fs) change.place) ≡ false → test d ≡ false
  not_asked test d change broken =
      go (test d) refl
    where
      go : (b : Bool) → test d ≡ b → b ≡ false
      go false is = refl
      go true is = absurd (true≢false (sym (and_from (is_recorded (transaction h fs) d) (test d) change.changes is)
          ∙ none_passes (λ x. is_recorded (transaction h fs) x && test x) (asked (transaction h fs) change.place) d broken change.member))

  pub not_forbidden : (d : Datom) → Contains (transaction h fs).changes d → is_forbidden (facts h) d ≡ false
  not_forbidden d member =
      let change = the_change d member in
      not_asked (is_forbidden (facts h)) d change (none.attribute_fixed change.place change.within)

  -- no change tells an instant
  protected_not : (k : List ℕ) (a : Attribute) (group : List Ask) (ask : Ask) → Contains (transaction h fs).asks group → Contains group ask
      → attribute_of_ask ask ≡ Some k → attribute_named (facts h) k ≡ Some a → eqb a.id tx_instant ≡ false
  protected_not k a group ask group_among ask_among k_is a_is =
      let unbroken =
      none_passes (breaks_protected_attribute (db_of h)) (transaction h fs).asks group none.protected_attribute group_among in
      let first =
      (or_parts _ _ (none_passes (λ ask. option_map_or (is_protected (facts h)) (attribute_of_ask ask) false
      || adds_reserved_ident (facts h) ask) group ask unbroken ask_among)).0 in
      sym (ap (λ o. option_map_or (λ (attribute : Attribute). eqb attribute.id tx_instant) o false) a_is)
      ∙ sym (ap (λ o. option_map_or (is_protected (facts h)) o false) k_is) ∙ first

  pub not_instant : (d : Datom) → Contains (transaction h fs).changes d → eqb d.a tx_instant ≡ false
  not_instant d member = by_origin (the_change d member).origin
    where
      by_origin : Origin (transaction h fs).db (transaction h fs).names (transaction h fs).asks d → eqb d.a tx_instant ≡ false
      by_origin (by_addition group group_among ask ask_among asked_by) =
          ap (λ x. eqb x tx_instant) asked_by.made.a_is
          ∙ protected_not asked_by.k asked_by.made.attribute group ask group_among ask_among asked_by.keyword_is asked_by.made.attribute_is
      by_origin (by_retraction group group_among ask ask_among asked_by) =
          ap (λ x. eqb x tx_instant) asked_by.made.a_is
          ∙ protected_not asked_by.k asked_by.made.attribute group ask group_among ask_among asked_by.keyword_is asked_by.made.attribute_is
      by_origin (by_withdrawal gone) = go (eqb d.a tx_instant) refl
        where
          go : (b : Bool) → eqb d.a tx_instant ≡ b → b ≡ false
          go false is = refl
          go true is =
              absurd (true≢false
              (sym (or_right _ _ (and_from _ _ is (ap not (sym (ap (λ (x : Datom). x.added) gone.is))))) ∙ not_forbidden d member))

  pub own_t_of : (d : Datom) → Contains (transaction h fs).changes d → d.t ≡ basis h + 1
  own_t_of d member = by_origin (the_change d member).origin
    where
      by_origin : Origin (transaction h fs).db (transaction h fs).names (transaction h fs).asks d → d.t ≡ basis h + 1
      by_origin (by_addition group group_among ask ask_among asked_by) = asked_by.made.t_is
      by_origin (by_retraction group group_among ask ask_among asked_by) = asked_by.made.t_is
      by_origin (by_withdrawal gone) = sym (ap (λ (x : Datom). x.t) gone.is)

  -- ---- what is recorded

  abbrev pub instant_of : ℤ → Datom
  instant_of instant = record { e = transaction_of (basis h + 1); a = tx_instant; v = Instant instant; t = basis h + 1; added = true }

  pub recorded_cases : (instant : ℤ) (d : Datom) → Contains (recorded (transaction h fs) instant) d
      → (instant_of instant ≡ d) ⊎ Contains (transaction h fs).changes d
  recorded_cases instant d member =
      cases_of (instant_of instant) d (transaction h fs).changes
      (in_order_member Eavt (instant_of instant ∷ (transaction h fs).changes) d member)

  in_order_again : (d : Datom) → Contains (transaction h fs).changes d → Contains (in_order Eavt (transaction h fs).changes) d
  in_order_again d member =
      in_order_has Eavt (transaction h fs).changes
      (record {
        same =
            λ x y x_in y_in equal. (one_change (said h) (joined (transaction h fs).added ++ joined (transaction h fs).retracted
            ++ joined (transaction h fs).swept ++ joined (transaction h fs).replaced)).same x y
            (in_order_member Eavt (filter (is_change (said h)) (joined (transaction h fs).added ++ joined (transaction h fs).retracted
            ++ joined (transaction h fs).swept ++ joined (transaction h fs).replaced)) x x_in)
            (in_order_member Eavt (filter (is_change (said h)) (joined (transaction h fs).added ++ joined (transaction h fs).retracted
            ++ joined (transaction h fs).swept ++ joined (transaction h fs).replaced)) y y_in) equal;
      }) d member

  pub recorded_has : (instant : ℤ) (d : Datom) → Contains (transaction h fs).changes d → Contains (recorded (transaction h fs) instant) d
  recorded_has instant d member =
      put_has_old Eavt (instant_of instant) (in_order Eavt (transaction h fs).changes) d (in_order_again d member)

  pub recorded_instant : (instant : ℤ) → Contains (recorded (transaction h fs) instant) (instant_of instant)
  recorded_instant instant =
      put_has_new Eavt (instant_of instant) (in_order Eavt (transaction h fs).changes)
      (λ y member equal. absurd (true≢false (sym (eq-eqb y.a tx_instant (sym (key_cmp-Equal Eavt (instant_of instant) y equal).a))
      ∙ not_instant y (in_order_member Eavt (transaction h fs).changes y member))))

  -- ---- room

  pub room_for_t : basis h + 1 ≤ greatest_t
  room_for_t = below greatest_t (basis h + 1) (or_parts _ _ (or_parts _ _ none.full).0).0
    where
      below : (m n : ℕ) → ltb m n ≡ false → n ≤ m
      below m n is = grind (arith, nat_tests)

  pub room_for_instant : int_lt (last_instant h) greatest_instant ≡ true
  room_for_instant = not_not (int_lt (last_instant h) greatest_instant) (or_parts _ _ none.full).1
    where
      not_not : (b : Bool) → not b ≡ false → b ≡ true
      not_not true e = refl
      not_not false e = absurd (true≢false e)

  pub few_enough : (instant : ℤ) → length (recorded (transaction h fs) instant) ≤ most_datoms
  few_enough instant =
      omega (
        arith,
        put-length Eavt (instant_of instant) (in_order Eavt (transaction h fs).changes),
        in_order-length Eavt (transaction h fs).changes,
        below most_datoms (length (transaction h fs).changes + 1) (or_parts _ _ none.too_large).0,
      )
    where
      below : (m n : ℕ) → ltb m n ≡ false → n ≤ m
      below m n is = grind (arith, nat_tests)
