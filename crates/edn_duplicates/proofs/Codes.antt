-- Alike forms have one code, where nothing is said twice inside.
use Rattle.std.proofs.Common.{◌≡◌, Bool, true, false, ◌&&◌, ◌||◌, not, ◌==◌, List, [], ◌∷◌, ◌++◌, length, Ordering, refl, ap, sym, subst}
use Rattle.std.proofs.Common.{◌∙◌, append_assoc, append-nil, true≢false}
use Rattle.std.proofs.lemmas.Bool.Decides.{Decides-int_eq}
use Rattle.std.proofs.lemmas.Cmp.{lists_total, eq_by_cmp_equiv}
use Rattle.std.proofs.lemmas.Map.Keys.{IsDistinct-push}
use Rattle.std.proofs.lemmas.Map.Lookups.{CmpEqualImpliesEq}
use Rattle.std.proofs.lemmas.Slice.Eq.{bytes_eq-Decides}
use Rattle.std.specs.Cmp.{IsTotalOrder}
use Rattle.std.specs.Cmp.Lexicographic.{slice_cmp}
use Rattle.std.specs.List.{AllByRecursion, IsDistinct}
use Rattle.std.specs.Ordering.{eq_by_cmp}
use Rattle.edn_model.specs.Form as form
use Rattle.edn_model.specs.Likeness.{alike, alike_in_order, forms_among, pairs_among, any, any_pair, count, count_pairs, bool_eq, distinct}
use Rattle.edn_model.specs.Likeness.{distinct_from, keys}
use Rattle.edn_duplicates.specs.Code.{joined, spelled, IsPairCode, InOrder, IsCode, AreCodes, ArePairCodes}
use Rattle.edn_duplicates.specs.Inside.{IsDistinctInside, AreDistinctInside, ArePairsDistinctInside}
use Rattle.edn_duplicates.specs.declared.token.CodeToken.{CodeToken}
use Rattle.edn_duplicates.specs.declared.token.CodeToken.TheVariants.{Bool as Bool', Int, Str, Sym, Key, Inst, Uuid, Sequence, Map, Set}
use Rattle.edn_duplicates.proofs.Likeness.{left_true, right_true, either_right, counts_agree, pair_counts_agree, number_from, any_from}
use Rattle.edn_duplicates.proofs.Likeness.{alike_from, pair_parts, has_code}
use Rattle.edn_duplicates.proofs.Orders.{has_itself, first_or_later, same_key, Within, one_order}

bool_from : (a b : Bool) → bool_eq a b ≡ true → a ≡ b
bool_from true true h = refl
bool_from true false h = sym h
bool_from false true h = h
bool_from false false h = refl

not_both : (b : Bool) → b ≡ true → not b ≡ true → ⊥
not_both true p n = true≢false (sym n)
not_both false p n = true≢false (sym p)

pub not_true : (b : Bool) → (b ≡ true → ⊥) → b ≡ false
not_true true h = absurd (h refl)
not_true false h = refl

pub not_is_true : (b : Bool) → (b ≡ true → ⊥) → not b ≡ true
not_is_true true h = absurd (h refl)
not_is_true false h = refl

pub clash : (b : Bool) → b ≡ true → b ≡ false → ⊥
clash b p q = true≢false (sym p ∙ q)

module _ (cmp : CodeToken → CodeToken → Ordering) (total : IsTotalOrder cmp) (exact : CmpEqualImpliesEq (slice_cmp cmp)) where
  abbrev apart : List (List CodeToken) → Type 0
  apart = IsDistinct (eq_by_cmp (slice_cmp cmp))

  abbrev has : List CodeToken → List (List CodeToken) → Bool
  has = has_code cmp total exact

  pub codes_with_last : (seen : form.Forms) (f : form.Form) (old : List (List CodeToken)) (a : List CodeToken) → AreCodes cmp seen old
      → IsCode cmp f a
      → AreCodes cmp (form.with_last seen f) (old ++ a ∷ [])
  codes_with_last form.no_forms f [] a p c = (c, tt)
  codes_with_last form.no_forms f (b ∷ old) a p c = absurd p
  codes_with_last (form.form g seen) f [] a p c = absurd p
  codes_with_last (form.form g seen) f (b ∷ old) a p c = (p.0, codes_with_last seen f old a p.1 c)

  -- forms of which no two are alike have codes of which no two are one
  distinct_codes : (seen fs : form.Forms) (old xs : List (List CodeToken)) → AreCodes cmp seen old → AreCodes cmp fs xs
      → distinct_from seen fs ≡ true
      → apart old → apart (old ++ xs)
  distinct_codes seen form.no_forms old [] p q h d = subst apart (sym (append-nil old)) d
  distinct_codes seen form.no_forms old (a ∷ xs) p q h d = absurd q
  distinct_codes seen (form.form f fs) old [] p q h d = absurd q
  distinct_codes seen (form.form f fs) old (a ∷ xs) p q h d =
      let fresh : has a old ≡ false = not_true (has a old) (λ e. not_both (any (alike f) seen)
      (any_from cmp total exact (alike f) a (λ g k. alike_from cmp total exact f g a q.0 k) seen old p e)
      (left_true (not (any (alike f) seen)) (distinct_from (form.with_last seen f) fs) h)) in
      let more : apart (old ++ a ∷ []) = IsDistinct-push (eq_by_cmp_equiv (lists_total total)) old a d fresh in
      subst apart (append_assoc old (a ∷ []) xs)
      (distinct_codes (form.with_last seen f) fs (old ++ a ∷ []) xs (codes_with_last seen f old a p q.0) q.1
      (right_true (not (any (alike f) seen)) (distinct_from (form.with_last seen f) fs) h) more)

  all_distinct : (fs : form.Forms) (xs : List (List CodeToken)) → AreCodes cmp fs xs → distinct fs ≡ true → apart xs
  unfolding IsDistinct
  all_distinct fs xs p h = distinct_codes form.no_forms fs [] xs tt p h tt

  -- ---- maps: pairs whose keys' codes are no two one are no two one

  key_codes : (ps : form.Pairs) (xs : List (List CodeToken)) → ArePairCodes cmp ps xs → List (List CodeToken)
  key_codes form.no_pairs [] h = []
  key_codes form.no_pairs (c ∷ xs) h = absurd h
  key_codes (form.pair k v ps) [] h = absurd h
  key_codes (form.pair k v ps) (c ∷ xs) h = h.0.key ∷ key_codes ps xs h.1

  are_key_codes : (ps : form.Pairs) (xs : List (List CodeToken)) (h : ArePairCodes cmp ps xs) → AreCodes cmp (keys ps) (key_codes ps xs h)
  unfolding key_codes
  are_key_codes form.no_pairs [] h = tt
  are_key_codes form.no_pairs (c ∷ xs) h = absurd h
  are_key_codes (form.pair k v ps) [] h = absurd h
  are_key_codes (form.pair k v ps) (c ∷ xs) h = (h.0.is_key, are_key_codes ps xs h.1)

  pair_apart : (k v : form.Form) (a : List CodeToken) (p : IsPairCode (IsCode cmp k) (IsCode cmp v) a) (ps : form.Pairs)
      (xs : List (List CodeToken)) (h : ArePairCodes cmp ps xs)
      → AllByRecursion (λ y. eq_by_cmp (slice_cmp cmp) p.key y ≡ false) (key_codes ps xs h)
      → AllByRecursion (λ y. eq_by_cmp (slice_cmp cmp) a y ≡ false) xs
  unfolding key_codes
  pair_apart k v a p form.no_pairs [] h d = tt
  pair_apart k v a p form.no_pairs (b ∷ xs) h d = absurd h
  pair_apart k v a p (form.pair l u ps) [] h d = absurd h
  pair_apart k v a p (form.pair l u ps) (b ∷ xs) h d = (
    not_true (eq_by_cmp (slice_cmp cmp) a b) (λ e.
        clash (eq_by_cmp (slice_cmp cmp) p.key h.0.key)
        (subst (λ z. eq_by_cmp (slice_cmp cmp) p.key z ≡ true) (pair_parts cmp total exact k v l u a b
        (same_key (lists_total total) exact a b e) p h.0).0 ((eq_by_cmp_equiv (lists_total total)).refl p.key)) d.0),
    pair_apart k v a p ps xs h.1 d.1,
  )

  pairs_apart : (ps : form.Pairs) (xs : List (List CodeToken)) (h : ArePairCodes cmp ps xs) → apart (key_codes ps xs h) → apart xs
  unfolding key_codes IsDistinct
  pairs_apart form.no_pairs [] h d = tt
  pairs_apart form.no_pairs (c ∷ xs) h d = absurd h
  pairs_apart (form.pair k v ps) [] h d = absurd h
  pairs_apart (form.pair k v ps) (c ∷ xs) h d = (pair_apart k v c h.0 ps xs h.1 d.0, pairs_apart ps xs h.1 d.1)

  -- ---- one code

  -- where a form passes, and all that pass have one code, the code is among theirs
  pub any_same : (test : form.Form → Bool) (a : List CodeToken)
      → ((g : form.Form) (t : List CodeToken) → test g ≡ true → IsCode cmp g t → a ≡ t)
      → (gs : form.Forms) (ys : List (List CodeToken)) → AreCodes cmp gs ys → any test gs ≡ true → has a ys ≡ true
  any_same test a each form.no_forms ys q h = absurd (true≢false (sym h))
  any_same test a each (form.form g gs) [] q h = absurd q
  any_same test a each (form.form g gs) (b ∷ ys) q h =
      elim (test g) as (λ r. test g ≡ r → (r || any test gs) ≡ true → has a (b ∷ ys) ≡ true) [
        | true ↦ λ e _. subst (λ z. has z (b ∷ ys) ≡ true) (sym (each g b e q.0)) (has_itself (lists_total total) exact b ys)
        | false ↦ λ _ k. either_right (eq_by_cmp (slice_cmp cmp) a b) (has a ys) (any_same test a each gs ys q.1 k)
      ] refl h

  any_pair_same : (test : form.Form → form.Form → Bool) (a : List CodeToken)
      → ((l u : form.Form) (t : List CodeToken) → test l u ≡ true → IsPairCode (IsCode cmp l) (IsCode cmp u) t → a ≡ t)
      → (qs : form.Pairs) (ys : List (List CodeToken)) → ArePairCodes cmp qs ys → any_pair test qs ≡ true → has a ys ≡ true
  any_pair_same test a each form.no_pairs ys q h = absurd (true≢false (sym h))
  any_pair_same test a each (form.pair l u qs) [] q h = absurd q
  any_pair_same test a each (form.pair l u qs) (b ∷ ys) q h =
      elim (test l u) as (λ r. test l u ≡ r → (r || any_pair test qs) ≡ true → has a (b ∷ ys) ≡ true) [
        | true ↦ λ e _. subst (λ z. has z (b ∷ ys) ≡ true) (sym (each l u b e q.0)) (has_itself (lists_total total) exact b ys)
        | false ↦ λ _ k. either_right (eq_by_cmp (slice_cmp cmp) a b) (has a ys) (any_pair_same test a each qs ys q.1 k)
      ] refl h

  mutual
    pub same_code : (f g : form.Form) (s t : List CodeToken) → IsDistinctInside f → alike f g ≡ true → IsCode cmp f s → IsCode cmp g t
        → s ≡ t
    same_code form.nil form.nil s t d h p q = p ∙ sym q
    same_code (form.boolean a) (form.boolean b) s t d h p q = p ∙ ap (λ z. Bool' z ∷ []) (bool_from a b h) ∙ sym q
    same_code (form.integer a) (form.integer b) s t d h p q = p ∙ ap (λ z. Int z ∷ []) ((Decides-int_eq a b).0 h) ∙ sym q
    same_code (form.string a) (form.string b) s t d h p q = p ∙ ap (λ z. Str (spelled z) ∷ []) ((bytes_eq-Decides a b).0 h) ∙ sym q
    same_code (form.symbol a) (form.symbol b) s t d h p q = p ∙ ap (λ z. Sym (spelled z) ∷ []) ((bytes_eq-Decides a b).0 h) ∙ sym q
    same_code (form.keyword a) (form.keyword b) s t d h p q = p ∙ ap (λ z. Key (spelled z) ∷ []) ((bytes_eq-Decides a b).0 h) ∙ sym q
    same_code (form.list fs) (form.list gs) s t d h p q =
        p.joins ∙ ap (λ z. joined (Sequence (length z)) z) (in_order_same fs gs p.parts q.parts d h p.codes q.codes) ∙ sym q.joins
    same_code (form.list fs) (form.vector gs) s t d h p q =
        p.joins ∙ ap (λ z. joined (Sequence (length z)) z) (in_order_same fs gs p.parts q.parts d h p.codes q.codes) ∙ sym q.joins
    same_code (form.vector fs) (form.list gs) s t d h p q =
        p.joins ∙ ap (λ z. joined (Sequence (length z)) z) (in_order_same fs gs p.parts q.parts d h p.codes q.codes) ∙ sym q.joins
    same_code (form.vector fs) (form.vector gs) s t d h p q =
        p.joins ∙ ap (λ z. joined (Sequence (length z)) z) (in_order_same fs gs p.parts q.parts d h p.codes q.codes) ∙ sym q.joins
    same_code (form.map ps) (form.map qs) s t d h p q =
        let i : InOrder cmp Map p.parts s = p.joins in
        let j : InOrder cmp Map q.parts t = q.joins in
        let many : length p.parts ≡ length q.parts =
        pair_counts_agree cmp ps qs p.parts q.parts p.codes q.codes (left_true (count_pairs ps == count_pairs qs) (pairs_among ps qs) h) in
        let within : Within (lists_total total) exact p.parts q.parts =
        pairs_among_same ps qs p.parts q.parts d.0 (right_true (count_pairs ps == count_pairs qs) (pairs_among ps qs) h) p.codes q.codes in
        let keys_apart : apart (key_codes ps p.parts p.codes) =
        all_distinct (keys ps) (key_codes ps p.parts p.codes) (are_key_codes ps p.parts p.codes) d.1 in
        i.joins ∙ ap (λ z. joined (Map (length z)) z)
        (one_order (lists_total total) exact p.parts q.parts i.sorted j.sorted
        (pairs_apart ps p.parts p.codes keys_apart) within many i.shuffled j.shuffled i.rises j.rises)
        ∙ sym j.joins
    same_code (form.set fs) (form.set gs) s t d h p q =
        let i : InOrder cmp Set p.parts s = p.joins in
        let j : InOrder cmp Set q.parts t = q.joins in
        let many : length p.parts ≡ length q.parts =
        counts_agree cmp fs gs p.parts q.parts p.codes q.codes (left_true (count fs == count gs) (forms_among fs gs) h) in
        let within : Within (lists_total total) exact p.parts q.parts =
        forms_among_same fs gs p.parts q.parts d.0 (right_true (count fs == count gs) (forms_among fs gs) h) p.codes q.codes in
        i.joins ∙ ap (λ z. joined (Set (length z)) z)
        (one_order (lists_total total) exact p.parts q.parts i.sorted j.sorted
        (all_distinct fs p.parts p.codes d.1) within many i.shuffled j.shuffled i.rises j.rises)
        ∙ sym j.joins
    same_code (form.instant a) (form.instant b) s t d h p q = p ∙ ap (λ z. Inst z ∷ []) ((Decides-int_eq a b).0 h) ∙ sym q
    same_code (form.uuid a) (form.uuid b) s t d h p q = p ∙ ap (λ z. Uuid z ∷ []) (number_from a b h) ∙ sym q
    same_code f g s t d h p q = absurd (true≢false (sym h))

    in_order_same : (fs gs : form.Forms) (xs ys : List (List CodeToken)) → AreDistinctInside fs → alike_in_order fs gs ≡ true
        → AreCodes cmp fs xs → AreCodes cmp gs ys → xs ≡ ys
    in_order_same form.no_forms form.no_forms [] [] d h p q = refl
    in_order_same form.no_forms form.no_forms [] (b ∷ ys) d h p q = absurd q
    in_order_same form.no_forms form.no_forms (a ∷ xs) ys d h p q = absurd p
    in_order_same form.no_forms (form.form g gs) xs ys d h p q = absurd (true≢false (sym h))
    in_order_same (form.form f fs) form.no_forms xs ys d h p q = absurd (true≢false (sym h))
    in_order_same (form.form f fs) (form.form g gs) [] ys d h p q = absurd p
    in_order_same (form.form f fs) (form.form g gs) (a ∷ xs) [] d h p q = absurd q
    in_order_same (form.form f fs) (form.form g gs) (a ∷ xs) (b ∷ ys) d h p q =
        ap (λ z. z ∷ xs) (same_code f g a b d.0 (left_true (alike f g) (alike_in_order fs gs) h) p.0 q.0)
        ∙ ap (λ zs. b ∷ zs) (in_order_same fs gs xs ys d.1 (right_true (alike f g) (alike_in_order fs gs) h) p.1 q.1)

    forms_among_same : (fs gs : form.Forms) (xs ys : List (List CodeToken)) → AreDistinctInside fs → forms_among fs gs ≡ true
        → AreCodes cmp fs xs → AreCodes cmp gs ys
        → (k : List CodeToken) → has k xs ≡ true → has k ys ≡ true
    forms_among_same form.no_forms gs [] ys d h p q k m = absurd (true≢false (sym m))
    forms_among_same form.no_forms gs (a ∷ xs) ys d h p q k m = absurd p
    forms_among_same (form.form f fs) gs [] ys d h p q k m = absurd p
    forms_among_same (form.form f fs) gs (a ∷ xs) ys d h p q k m =
        first_or_later (lists_total total) exact k a xs m
        (λ e. subst (λ z. has z ys ≡ true) (sym e)
        (any_same (alike f) a (λ g t r c. same_code f g a t d.0 r p.0 c) gs ys q (left_true (any (alike f) gs) (forms_among fs gs) h)))
        (λ r. forms_among_same fs gs xs ys d.1 (right_true (any (alike f) gs) (forms_among fs gs) h) p.1 q k r)

    pairs_among_same : (ps qs : form.Pairs) (xs ys : List (List CodeToken)) → ArePairsDistinctInside ps → pairs_among ps qs ≡ true
        → ArePairCodes cmp ps xs → ArePairCodes cmp qs ys
        → (m : List CodeToken) → has m xs ≡ true → has m ys ≡ true
    pairs_among_same form.no_pairs qs [] ys d h p q m n = absurd (true≢false (sym n))
    pairs_among_same form.no_pairs qs (a ∷ xs) ys d h p q m n = absurd p
    pairs_among_same (form.pair k v ps) qs [] ys d h p q m n = absurd p
    pairs_among_same (form.pair k v ps) qs (a ∷ xs) ys d h p q m n =
        let here : IsPairCode (IsCode cmp k) (IsCode cmp v) a = p.0 in
        let test : form.Form → form.Form → Bool = λ l u. alike k l && alike v u in
        let each : (l u : form.Form) (t : List CodeToken) → test l u ≡ true → IsPairCode (IsCode cmp l) (IsCode cmp u) t → a ≡ t =
        λ l u t r c. here.joins
        ∙ ap (λ z. joined (Sequence 2) (z ∷ here.value ∷ []))
        (same_code k l here.key c.key d.0 (left_true (alike k l) (alike v u) r) here.is_key c.is_key)
        ∙ ap (λ z. joined (Sequence 2) (c.key ∷ z ∷ []))
        (same_code v u here.value c.value d.1 (right_true (alike k l) (alike v u) r) here.is_value c.is_value)
        ∙ sym c.joins in
        first_or_later (lists_total total) exact m a xs n
        (λ e. subst (λ z. has z ys ≡ true) (sym e) (any_pair_same test a each qs ys q (left_true (any_pair test qs) (pairs_among ps qs) h)))
        (λ r. pairs_among_same ps qs xs ys d.2 (right_true (any_pair test qs) (pairs_among ps qs) h) p.1 q m r)
