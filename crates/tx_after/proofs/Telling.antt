-- Where the changes of a triple lie.
use Rattle.std.proofs.Common.{◌≡◌, ℕ, zero, suc, ◌+◌, ◌<◌, ◌≤◌, Bool, true, false, cond, ◌||◌, List, [], ◌∷◌, length, get_or, refl, ap, sym}
use Rattle.std.proofs.Common.{◌∙◌, subst, arith}
use Rattle.std.specs.List.{list_all, list_any}
use Rattle.std.specs.Ordering.{is_lt}
use Rattle.std.specs.Ordering.{ordering_reverse}
use Rattle.std.proofs.lemmas.Bool.{true≢false, and_parts, or_from}
use Rattle.fb_values.specs.declared.facts.Datom.{Datom}
use Rattle.fb_values.specs.declared.facts.Value.{Value}
use Rattle.fb_values.specs.declared.indexes.Order.TheVariants.{Eavt}
use Rattle.fb_model.specs.Facts.{is_of}
use Rattle.fb_model.proofs.Triples.{is_of-true}
use Rattle.tx_after.specs.Triples.{triple_cmp, triples_rise}
use Rattle.tx_after.specs.Places.{is_lower, triple_place}
use Rattle.tx_after.proofs.Orders.{triple_cmp_total, lt_chain, at_one_place}

module _ (e a : ℕ) (v : Value) where
  asked : Datom
  asked = record { e = e; a = a; v = v; t = 0; added = true }

  pub place-le-length : (ds : List Datom) → triple_place e a v ds ≤ length ds
  place-le-length [] = omega arith
  place-le-length (d ∷ ds) =
      elim (is_lower e a v d) as (λ b. cond b (1 + triple_place e a v ds) 0 ≤ suc (length ds)) [
        | true ↦ omega (arith, place-le-length ds)
        | false ↦ omega arith
      ]

  front_lower : (d : Datom) (ds : List Datom) (i : ℕ) (x : Datom) → list_all (λ y. is_lt (triple_cmp Eavt d y)) ds ≡ true → i < length ds
      → is_lower e a v (get_or ds i x) ≡ true → is_lower e a v d ≡ true
  unfolding asked
  front_lower d [] i x low within lower = absurd (omega arith)
  front_lower d (y ∷ ds) zero x low within lower = lt_chain Eavt d y asked (and_parts _ _ low).0 lower
  front_lower d (y ∷ ds) (suc i) x low within lower = front_lower d ds i x (and_parts _ _ low).1 (omega arith) lower

  pub place_behind : (ds : List Datom) (i : ℕ) (x : Datom) → triples_rise Eavt ds ≡ true → i < length ds
      → is_lower e a v (get_or ds i x) ≡ true → i < triple_place e a v ds
  place_behind [] i x rising within lower = absurd (omega arith)
  place_behind (d ∷ ds) zero x rising within lower = subst (λ b. 0 < cond b (1 + triple_place e a v ds) 0) (sym lower) (omega arith)
  place_behind (d ∷ ds) (suc i) x rising within lower =
      subst (λ b. suc i < cond b (1 + triple_place e a v ds) 0) (sym (front_lower d ds i x (and_parts _ _ rising).0 (omega arith) lower))
      (omega (arith, place_behind ds i x (and_parts _ _ rising).1 (omega arith) lower))

  pub place_upto : (ds : List Datom) (i : ℕ) (x : Datom) → i < length ds → is_lower e a v (get_or ds i x) ≡ false
      → triple_place e a v ds ≤ i
  place_upto [] i x within above = absurd (omega arith)
  place_upto (d ∷ ds) zero x within above = subst (λ b. cond b (1 + triple_place e a v ds) 0 ≤ 0) (sym above) (omega arith)
  place_upto (d ∷ ds) (suc i) x within above =
      elim (is_lower e a v d) as (λ b. cond b (1 + triple_place e a v ds) 0 ≤ suc i) [
        | true ↦ omega (arith, place_upto ds i x (omega arith) above)
        | false ↦ omega arith
      ]

  -- a datom of a lower triple is of another one
  lower_other : (d : Datom) → is_lower e a v d ≡ true → is_of e a v d ≡ false
  unfolding asked
  lower_other d lower = go (is_of e a v d) refl
    where
      go : (b : Bool) → is_of e a v d ≡ b → b ≡ false
      go false is = refl
      go true is =
          let of = is_of-true e a v d is in absurd (true≢false (sym lower ∙ ap is_lt (at_one_place Eavt d asked of.e_is of.a_is of.v_is)))

  -- and so is one behind another triple that is not lower
  higher_other : (d y : Datom) → is_lower e a v d ≡ false → is_of e a v d ≡ false → is_lt (triple_cmp Eavt d y) ≡ true
      → is_of e a v y ≡ false
  unfolding asked
  higher_other d y above other less = go (is_of e a v y) refl
    where
      go : (b : Bool) → is_of e a v y ≡ b → b ≡ false
      go false is = refl
      go true is =
          let of = is_of-true e a v y is in
          absurd (true≢false (sym less ∙ ap is_lt ((triple_cmp_total Eavt).antisymm d y ∙ ap ordering_reverse ((triple_cmp_total Eavt).congr
          y asked d (at_one_place Eavt y asked of.e_is of.a_is of.v_is)) ∙ sym ((triple_cmp_total Eavt).antisymm d asked)) ∙ above))

  none_higher : (d : Datom) (ds : List Datom) → is_lower e a v d ≡ false → is_of e a v d ≡ false
      → list_all (λ y. is_lt (triple_cmp Eavt d y)) ds ≡ true → list_any (is_of e a v) ds ≡ false
  none_higher d [] above other low = refl
  none_higher d (y ∷ ds) above other low =
      let parts = and_parts _ _ low in or_from _ _ (higher_other d y above other parts.0) (none_higher d ds above other parts.1)

  -- no change is of the triple where all are lower
  pub none_behind : (ds : List Datom) → triple_place e a v ds ≡ length ds → list_any (is_of e a v) ds ≡ false
  none_behind [] all = refl
  none_behind (d ∷ ds) all = go (is_lower e a v d) refl all (none_behind ds)
    where
      go : (b : Bool) → is_lower e a v d ≡ b → cond b (1 + triple_place e a v ds) 0 ≡ suc (length ds)
          → (triple_place e a v ds ≡ length ds → list_any (is_of e a v) ds ≡ false) → list_any (is_of e a v) (d ∷ ds) ≡ false
      go false is all next = absurd (omega arith)
      go true is all next = or_from _ _ (lower_other d is) (next (omega arith))

  -- else the datom at the place tells
  pub place_tells : (ds : List Datom) (x : Datom) → triples_rise Eavt ds ≡ true → triple_place e a v ds < length ds
      → is_of e a v (get_or ds (triple_place e a v ds) x) ≡ list_any (is_of e a v) ds
  place_tells [] x rising within = absurd (omega arith)
  place_tells (d ∷ ds) x rising within = go (is_lower e a v d) refl within (place_tells ds x (and_parts _ _ rising).1)
    where
      rest : (c : Bool) → is_of e a v d ≡ c → is_lower e a v d ≡ false → c ≡ (c || list_any (is_of e a v) ds)
      rest true is above = refl
      rest false is above = sym (none_higher d ds above is (and_parts _ _ rising).0)

      go : (b : Bool) → is_lower e a v d ≡ b → cond b (1 + triple_place e a v ds) 0 < suc (length ds)
          → (triple_place e a v ds < length ds → is_of e a v (get_or ds (triple_place e a v ds) x) ≡ list_any (is_of e a v) ds)
          → is_of e a v (get_or (d ∷ ds) (cond b (1 + triple_place e a v ds) 0) x) ≡ list_any (is_of e a v) (d ∷ ds)
      go false is within next = rest (is_of e a v d) refl is
      go true is within next =
          let one : 1 + triple_place e a v ds ≡ suc (triple_place e a v ds) = omega arith in
          ap (λ n. is_of e a v (get_or (d ∷ ds) n x)) one
          ∙ next (omega arith)
          ∙ ap (λ b. b || list_any (is_of e a v) ds) (sym (lower_other d is))
