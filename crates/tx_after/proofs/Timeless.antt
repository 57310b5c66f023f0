-- Facts under one attribute, of which the t is left out: with changes they have the same values.
use Rattle.std.proofs.Common.{◌≡◌, ℕ, Bool, true, false, cond, ◌&&◌, List, [], ◌∷◌, ◌++◌, refl, ap, sym, ◌∙◌, eqb}
use Rattle.std.specs.Prelude.{filter, map}
use Rattle.std.specs.List.{list_all}
use Rattle.std.specs.Ordering.{is_lt, ordering_reverse}
use Rattle.std.specs.declared.cmp.Ordering.{Ordering}
use Rattle.std.specs.declared.cmp.Ordering.TheVariants.{Less, Equal, Greater}
use Rattle.std.proofs.lemmas.Bool.{and_parts, eqb-true}
use Rattle.fb_values.specs.declared.facts.Datom.{Datom}
use Rattle.fb_values.specs.declared.facts.Entry.{Entry}
use Rattle.fb_values.specs.declared.facts.Value.{Value}
use Rattle.fb_values.specs.declared.indexes.Order.TheVariants.{Eavt}
use Rattle.fb_model.specs.Facts.{facts}
use Rattle.fb_model.specs.Schema.{is_about}
use Rattle.fb_model.proofs.Members.{all_members, kept, in_order_member}
use Rattle.fb_model.proofs.Triples.{is_of-true}
use Rattle.fb_model.proofs.Untouched.{IsOnTriples}
use Rattle.fb_facts.specs.FactLists.{facts_in}
use Rattle.tx_after.specs.Triples.{without_time, triple_cmp, triples_rise, with_changes}
use Rattle.tx_after.proofs.Orders.{triple_cmp_total, at_one_place}
use Rattle.tx_after.proofs.Merging.{step-old, step-told, step-new, left_old, low_rest}

abbrev pub values : List Datom → List Value
values ds = map (λ (d : Datom). d.v) ds

-- one more datom in front, or none
one_more : (k : Bool) (c : Datom) (xs ys : List Datom) → values xs ≡ values ys
    → values (cond k (c ∷ []) [] ++ xs) ≡ values (cond k (c ∷ []) [] ++ ys)
one_more true c xs ys same = ap (λ l. c.v ∷ l) same
one_more false c xs ys same = same

module _ (e a : ℕ) where
  -- the values of the facts, as facts of no t
  abbrev pub made : List Datom → List Datom
  made ds = map (without_time e a) (values ds)

  values-made : (ds : List Datom) → values (made ds) ≡ values ds
  values-made [] = refl
  values-made (d ∷ ds) = ap (λ l. d.v ∷ l) (values-made ds)

  cmp_one : (x c : Datom) → is_about e a x ≡ true → triple_cmp Eavt (without_time e a x.v) c ≡ triple_cmp Eavt x c
  cmp_one x c about =
      let parts = and_parts (eqb x.e e) (eqb x.a a) about in
      (triple_cmp_total Eavt).congr (without_time e a x.v) x c
      (at_one_place Eavt (without_time e a x.v) x (sym (eqb-true x.e e parts.0)) (sym (eqb-true x.a a parts.1)) refl)

  cmp_both : (x y : Datom) → is_about e a x ≡ true → is_about e a y ≡ true
      → triple_cmp Eavt (without_time e a x.v) (without_time e a y.v) ≡ triple_cmp Eavt x y
  cmp_both x y about also =
      cmp_one x (without_time e a y.v) about
      ∙ (triple_cmp_total Eavt).antisymm x (without_time e a y.v)
      ∙ ap ordering_reverse (cmp_one y x also)
      ∙ sym ((triple_cmp_total Eavt).antisymm x y)

  low_made : (x : Datom) (ds : List Datom) → is_about e a x ≡ true → list_all (is_about e a) ds ≡ true
      → list_all (λ y. is_lt (triple_cmp Eavt (without_time e a x.v) y)) (made ds) ≡ list_all (λ y. is_lt (triple_cmp Eavt x y)) ds
  low_made x [] about all = refl
  low_made x (d ∷ ds) about all =
      let parts = and_parts (is_about e a d) (list_all (is_about e a) ds) all in
      ap (λ r. is_lt r && list_all (λ y. is_lt (triple_cmp Eavt (without_time e a x.v) y)) (made ds)) (cmp_both x d about parts.0)
      ∙ ap (λ b. is_lt (triple_cmp Eavt x d) && b) (low_made x ds about parts.1)

  pub made-rises : (ds : List Datom) → list_all (is_about e a) ds ≡ true → triples_rise Eavt (made ds) ≡ triples_rise Eavt ds
  made-rises [] all = refl
  made-rises (d ∷ ds) all =
      let parts = and_parts (is_about e a d) (list_all (is_about e a) ds) all in
      ap (λ b. b && triples_rise Eavt (made ds)) (low_made d ds parts.0 parts.1)
      ∙ ap (λ b. list_all (λ y. is_lt (triple_cmp Eavt d y)) ds && b) (made-rises ds parts.1)

  pub same_values : (bs cs : List Datom) → list_all (is_about e a) bs ≡ true → triples_rise Eavt bs ≡ true → triples_rise Eavt cs ≡ true
      → values (with_changes Eavt (made bs) cs) ≡ values (with_changes Eavt bs cs)
  same_values [] cs all rising also = refl
  same_values (b ∷ bs) cs all rising also =
      walk
      (λ ds. same_values bs ds (and_parts (is_about e a b) (list_all (is_about e a) bs) all).1 (and_parts _ _ rising).1) cs also
    where
      about : is_about e a b ≡ true
      about = (and_parts (is_about e a b) (list_all (is_about e a) bs) all).0

      made_rise : triples_rise Eavt (made (b ∷ bs)) ≡ true
      made_rise = made-rises (b ∷ bs) all ∙ rising

      -- where one fact less has the same values with any changes
      walk : ((cs : List Datom) → triples_rise Eavt cs ≡ true → values (with_changes Eavt (made bs) cs) ≡ values (with_changes Eavt bs cs))
          → (cs : List Datom) → triples_rise Eavt cs ≡ true
          → values (with_changes Eavt (made (b ∷ bs)) cs) ≡ values (with_changes Eavt (b ∷ bs) cs)
      walk rest [] also =
          ap values (left_old Eavt (made (b ∷ bs)) made_rise)
          ∙ values-made (b ∷ bs)
          ∙ ap values (sym (left_old Eavt (b ∷ bs) rising))
      walk rest (c ∷ cs) also = go (triple_cmp Eavt b c) refl (walk rest cs (and_parts _ _ also).1)
        where
          go : (k : Ordering) → triple_cmp Eavt b c ≡ k
              → values (with_changes Eavt (made (b ∷ bs)) cs) ≡ values (with_changes Eavt (b ∷ bs) cs)
              → values (with_changes Eavt (made (b ∷ bs)) (c ∷ cs)) ≡ values (with_changes Eavt (b ∷ bs) (c ∷ cs))
          go Less is next =
              ap values (step-old Eavt (without_time e a b.v) c (made bs) cs made_rise also (cmp_one b c about ∙ is))
              ∙ ap (λ l. b.v ∷ l) (rest (c ∷ cs) also)
              ∙ ap values (sym (step-old Eavt b c bs cs rising also is))
          go Equal is next =
              ap values (step-told Eavt (without_time e a b.v) c (made bs) cs (cmp_one b c about ∙ is))
              ∙ rest (c ∷ cs) also
              ∙ ap values (sym (step-told Eavt b c bs cs is))
          go Greater is next =
              ap values
              (step-new Eavt c (made (b ∷ bs)) cs
              (low_rest Eavt c (without_time e a b.v) (made bs) (cmp_one b c about ∙ is) made_rise) also)
              ∙ one_more c.added c (with_changes Eavt (made (b ∷ bs)) cs) (with_changes Eavt (b ∷ bs) cs) next
              ∙ ap values (sym (step-new Eavt c (b ∷ bs) cs (low_rest Eavt c b bs is rising) also))

  pub facts_about : (h : List Entry) → list_all (is_about e a) (facts_in Eavt (is_about e a) h) ≡ true
  facts_about h =
      all_members (is_about e a) (facts_in Eavt (is_about e a) h)
      (λ d member. (kept (is_about e a) (facts h) d (in_order_member Eavt (filter (is_about e a) (facts h)) d member)).passes)

  pub about-IsOnTriples : IsOnTriples (is_about e a)
  about-IsOnTriples = record {
    same =
        λ d other h. let of = is_of-true d.e d.a d.v other h in
        ap (λ n. eqb n e && eqb d.a a) (sym of.e_is) ∙ ap (λ n. eqb other.e e && eqb n a) (sym of.a_is);
  }
