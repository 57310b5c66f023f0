-- Additions one after the other: each conflicts with the one before it, or with the one behind it.
use Rattle.std.proofs.Common.{◌≡◌, ℕ, zero, suc, ◌+◌, ◌-◌, ◌<◌, ◌≤◌, Bool, true, false, cond, ◌&&◌, ◌||◌, eqb, ltb, List, [], ◌∷◌, length}
use Rattle.std.proofs.Common.{get_or, drop, refl, ap, sym, ◌∙◌, subst, arith, Option, Some, None}
use Rattle.std.specs.Prelude.{filter}
use Rattle.std.proofs.lemmas.Bool.{and_parts, eqb-true, lt-ltb}
use Rattle.std.proofs.lemmas.Bool.Decides.{nat_tests}
use Rattle.std.proofs.lemmas.List.{at_drop_more}
use Rattle.std.proofs.Math.ListN.{drop_of_length-le}
use Rattle.fb_values.specs.declared.facts.Datom.{Datom}
use Rattle.fb_model.specs.Schema.{is_one}
use Rattle.tx_asks.specs.declared.triples.Triple.{Triple}
use Rattle.tx_asks.specs.Triples.{rise}
use Rattle.tx_rules.specs.Places.{earlier, asked_at, first_where}
use Rattle.tx_rules.specs.Neighbours.{are_of_one_entity}
use Rattle.tx_rules.specs.Conflicts.{is_addition, is_withdrawn, conflicts, first_conflict, conflict_at, first_behind}
use Rattle.tx_rules.proofs.Crowded.{AreAdditions, additions-of, blank, conflicts-beside, first_conflict-additions}
use Rattle.tx_rules.proofs.Earlier.{earlier-assoc, earlier-none}
use Rattle.tx_rules.proofs.Reached.{reaches, reaches-earlier, same_places}

-- ---- two places of one addition are one

reaches-cond : (n : ℕ) (b : Bool) (x : Option ℕ) → reaches n (cond b x None) ≡ (b && reaches n x)
reaches-cond n true x = refl
reaches-cond n false x = refl

reaches-or : (n : ℕ) (b : Bool) (x y : Option ℕ) → reaches n (earlier (cond b x None) y) ≡ ((b && reaches n x) || reaches n y)
reaches-or n b x y = reaches-earlier n (cond b x None) y ∙ ap (λ c. c || reaches n y) (reaches-cond n b x)

mixed : (w l b one p x r : Bool)
    → (((w && x) || ((l && one) && (p || x))) || (((b && one) && x) || r)) ≡ (((l && one) && p) || (((w || ((l || b) && one)) && x) || r))
mixed w l b one p x r = grind (arith, nat_tests)

twice : (w l b one : Bool) (p x r : Option ℕ)
    → earlier (earlier (cond w x None) (cond (l && one) (earlier p x) None)) (earlier (cond (b && one) x None) r)
    ≡ earlier (cond (l && one) p None) (earlier (cond (w || ((l || b) && one)) x None) r)
twice w l b one p x r = same_places _ _ (λ n.
    reaches-earlier n (earlier (cond w x None) (cond (l && one) (earlier p x) None)) (earlier (cond (b && one) x None) r)
    ∙ ap (λ c. c || reaches n (earlier (cond (b && one) x None) r))
    (reaches-or n w x (cond (l && one) (earlier p x) None)
    ∙ ap (λ c. (w && reaches n x) || c)
    (reaches-cond n (l && one) (earlier p x) ∙ ap (λ c. (l && one) && c) (reaches-earlier n p x)))
    ∙ ap (λ c. ((w && reaches n x) || ((l && one) && (reaches n p || reaches n x))) || c) (reaches-or n (b && one) x r)
    ∙ mixed w l b one (reaches n p) (reaches n x) (reaches n r)
    ∙ sym (reaches-or n (l && one) p (earlier (cond (w || ((l || b) && one)) x None) r)
    ∙ ap (λ c. ((l && one) && reaches n p) || c) (reaches-or n (w || ((l || b) && one)) x r)))

module _ (schema : List Datom) where
  -- ---- by the addition before and the one behind

  abbrev is_behind : Option Triple → Triple → Bool
  is_behind None t = false
  is_behind (Some last) t = are_of_one_entity last t

  abbrev is_before : Triple → List Triple → Bool
  is_before t [] = false
  is_before t (next ∷ ts) = are_of_one_entity t next

  abbrev by_neighbours : Option Triple → List Triple → Option ℕ
  by_neighbours last [] = None
  by_neighbours last (t ∷ ts) =
      earlier (cond (is_withdrawn t || ((is_behind last t || is_before t ts) && is_one schema t.a)) (asked_at t) None)
      (by_neighbours (Some t) ts)

  -- the last one, where it is before one of its entity and attribute
  abbrev of_last : Option Triple → List Triple → Option ℕ
  of_last None ts = None
  of_last (Some last) ts = cond (is_before last ts && is_one schema last.a) (asked_at last) None

  of_one : (last t : Triple) → (are_of_one_entity last t && is_one schema last.a) ≡ (are_of_one_entity last t && is_one schema t.a)
  of_one last t = go (are_of_one_entity last t) refl
    where
      go : (b : Bool) → are_of_one_entity last t ≡ b → (b && is_one schema last.a) ≡ (b && is_one schema t.a)
      go true is = ap (is_one schema) (eqb-true last.a t.a (and_parts (eqb last.e t.e) (eqb last.a t.a) is).1)
      go false is = refl

  behind-neighbours : (last : Option Triple) (ts : List Triple)
      → first_behind schema last ts ≡ earlier (of_last last ts) (by_neighbours last ts)
  behind-neighbours None [] = refl
  behind-neighbours (Some last) [] = refl
  behind-neighbours None (t ∷ ts) =
      ap (earlier (conflict_at schema None t)) (behind-neighbours (Some t) ts)
      ∙ twice (is_withdrawn t) false (is_before t ts) (is_one schema t.a) None (asked_at t) (by_neighbours (Some t) ts)
  behind-neighbours (Some last) (t ∷ ts) =
      ap (earlier (conflict_at schema (Some last) t)) (behind-neighbours (Some t) ts)
      ∙ twice (is_withdrawn t) (are_of_one_entity last t) (is_before t ts) (is_one schema t.a) (asked_at last) (asked_at t)
      (by_neighbours (Some t) ts)
      ∙ ap (λ b. earlier (cond b (asked_at last) None) (by_neighbours (Some last) (t ∷ ts))) (sym (of_one last t))

  -- ---- by places

  record IsAt (ts : List Triple) (i : ℕ) (t : Triple) (rest : List Triple) : Type 0 where
    within : i < length ts
    is : get_or ts i blank ≡ t
    next : drop (suc i) ts ≡ rest

  at_drop : (ts : List Triple) (i : ℕ) (t : Triple) (rest : List Triple) → drop i ts ≡ t ∷ rest → IsAt ts i t rest
  at_drop [] zero t rest same = absurd (cc)
  at_drop [] (suc i) t rest same = absurd (cc)
  at_drop (x ∷ ts) zero t rest same = record { within = omega arith; is = cc; next = cc }
  at_drop (x ∷ ts) (suc i) t rest same =
      let at = at_drop ts i t rest same in
      record { within = omega (arith, at.within); is = at.is; next = at.next }

  none_behind : (ts : List Triple) (i : ℕ) → drop i ts ≡ [] → length ts ≤ i
  none_behind [] i same = omega arith
  none_behind (x ∷ ts) zero same = absurd (cc)
  none_behind (x ∷ ts) (suc i) same = omega (arith, none_behind ts i same)

  module _ (ts : List Triple) (additions : AreAdditions ts) where
    abbrev last_at : ℕ → Option Triple
    last_at zero = None
    last_at (suc i) = Some (get_or ts i blank)

    first_side : (i : ℕ) → (ltb 0 i && are_of_one_entity (get_or ts (i - 1) blank) (get_or ts i blank)) ≡ is_behind (last_at i) (get_or ts i blank)
    first_side zero = refl
    first_side (suc i) =
        let one : suc i - 1 ≡ i = omega arith in
        let above : ltb 0 (suc i) ≡ true = lt-ltb 0 (suc i) (omega arith) in
        rw (one, above) refl

    second_side : (i : ℕ) (rest : List Triple) → drop (suc i) ts ≡ rest
        → (ltb (i + 1) (length ts) && are_of_one_entity (get_or ts i blank) (get_or ts (i + 1) blank)) ≡ is_before (get_or ts i blank) rest
    second_side i [] none =
        let over : ltb (i + 1) (length ts) ≡ false = above (i + 1) (length ts) (omega (arith, none_behind ts (suc i) none)) in
        rw over refl
      where
        above : (m n : ℕ) → n ≤ m → ltb m n ≡ false
        above m n le = grind (arith, nat_tests)
    second_side i (next ∷ rest) some =
        let at = at_drop ts (suc i) next rest some in
        let one : i + 1 ≡ suc i = omega arith in
        let inside : ltb (suc i) (length ts) ≡ true = lt-ltb (suc i) (length ts) at.within in
        rw (one, inside, at.is) refl

    conflicts-at : (i : ℕ) (t : Triple) (rest : List Triple) → drop i ts ≡ t ∷ rest
        → (is_withdrawn t || ((is_behind (last_at i) t || is_before t rest) && is_one schema t.a)) ≡ conflicts schema ts t
    conflicts-at i t rest same =
        let at = at_drop ts i t rest same in
        subst (λ x. (is_withdrawn x || ((is_behind (last_at i) x || is_before x rest) && is_one schema x.a)) ≡ conflicts schema ts x) at.is
        (ap (λ b. is_withdrawn (get_or ts i blank) || ((b || is_before (get_or ts i blank) rest) && is_one schema (get_or ts i blank).a))
        (sym (first_side i))
        ∙ ap (λ b. is_withdrawn (get_or ts i blank)
        || (((ltb 0 i && are_of_one_entity (get_or ts (i - 1) blank) (get_or ts i blank)) || b) && is_one schema (get_or ts i blank).a))
        (sym (second_side i rest at.next))
        ∙ conflicts-beside ts additions i blank at.within schema)

    neighbours-from : (rest : List Triple) (i : ℕ) → drop i ts ≡ rest
        → by_neighbours (last_at i) rest ≡ first_where (conflicts schema ts) asked_at rest
    neighbours-from [] i same = refl
    neighbours-from (t ∷ rest) i same =
        let at = at_drop ts i t rest same in
        ap (λ b. earlier (cond b (asked_at t) None) (by_neighbours (Some t) rest)) (conflicts-at i t rest same)
        ∙ ap (earlier (cond (conflicts schema ts t) (asked_at t) None))
        (ap (λ x. by_neighbours (Some x) rest) (sym at.is) ∙ neighbours-from rest (suc i) at.next)

    behind-conflict : first_behind schema None ts ≡ first_conflict schema ts
    behind-conflict = behind-neighbours None ts ∙ neighbours-from ts 0 refl

  pub first_conflict-behind : (ts : List Triple) → rise ts ≡ true → first_behind schema None (filter is_addition ts) ≡ first_conflict schema ts
  first_conflict-behind ts rising =
      behind-conflict (filter is_addition ts) (additions-of ts rising) ∙ first_conflict-additions schema ts

-- ---- a loop over triples, one further

module _ (schema : List Datom) (ts : List Triple) (i : ℕ) (t : Triple) (inside : i < length ts) (is : t ≡ get_or ts i t)
    (first : Option ℕ) (last : Option Triple) (whole : Option ℕ)
    (so_far : earlier first (first_behind schema last (filter is_addition (drop i ts))) ≡ whole) where
  here : filter is_addition (drop i ts) ≡ filter is_addition (t ∷ drop (i + 1) ts)
  here = at_drop_more (filter is_addition) ts i t inside ∙ ap (λ y. filter is_addition (y ∷ drop (i + 1) ts)) (sym is)

  pub one_behind : (now : Option ℕ) (newest : Option Triple) → is_addition t ≡ true → now ≡ earlier first (conflict_at schema last t)
      → newest ≡ Some t → earlier now (first_behind schema newest (filter is_addition (drop (i + 1) ts))) ≡ whole
  one_behind now newest added now_is newest_is =
      let rest = filter is_addition (drop (i + 1) ts) in
      let found : filter is_addition (drop i ts) ≡ t ∷ rest = here ∙ rw added in
      ap (λ x. earlier x (first_behind schema newest rest)) now_is
      ∙ ap (λ x. earlier (earlier first (conflict_at schema last t)) (first_behind schema x rest)) newest_is
      ∙ sym (earlier-assoc first (conflict_at schema last t) (first_behind schema (Some t) rest))
      ∙ ap (λ l. earlier first (first_behind schema last l)) (sym found)
      ∙ so_far

  pub none_more : (now : Option ℕ) (newest : Option Triple) → is_addition t ≡ false → now ≡ first → newest ≡ last
      → earlier now (first_behind schema newest (filter is_addition (drop (i + 1) ts))) ≡ whole
  none_more now newest other now_is newest_is =
      let rest = filter is_addition (drop (i + 1) ts) in
      let found : filter is_addition (drop i ts) ≡ rest = here ∙ rw other in
      ap (λ x. earlier x (first_behind schema newest rest)) now_is
      ∙ ap (λ x. earlier first (first_behind schema x rest)) newest_is
      ∙ ap (λ l. earlier first (first_behind schema last l)) (sym found)
      ∙ so_far

-- ---- and at its end

pub all_behind : (schema : List Datom) (ts : List Triple) (i : ℕ) (first : Option ℕ) (last : Option Triple) (whole : Option ℕ)
    → length ts ≤ i → earlier first (first_behind schema last (filter is_addition (drop i ts))) ≡ whole → first ≡ whole
all_behind schema ts i first last whole past so_far =
    sym (earlier-none first)
    ∙ ap (λ l. earlier first (first_behind schema last (filter is_addition l))) (sym (drop_of_length-le ts past))
    ∙ so_far
