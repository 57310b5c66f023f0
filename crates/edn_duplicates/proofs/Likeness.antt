-- Forms of one code are alike.
use Rattle.std.proofs.Common.{◌≡◌, ℕ, suc, Bool, true, false, ◌&&◌, ◌||◌, ℤ, pos, ◌==◌, bytes_eq, List, [], ◌∷◌, length, IsPermutation}
use Rattle.std.proofs.Common.{Ordering, refl, ap, sym, subst, ◌∙◌, true≢false, arith}
use Rattle.std.proofs.lemmas.Bool.Decides.{nat_tests, Decides-int_eq}
use Rattle.std.proofs.lemmas.Cmp.{lists_total}
use Rattle.std.proofs.lemmas.List.Sorted.{list_any-IsPermutation, length_permutation}
use Rattle.std.proofs.lemmas.Map.Lookups.{CmpEqualImpliesEq}
use Rattle.std.proofs.lemmas.Slice.Eq.{bytes_eq-Decides}
use Rattle.std.specs.Cmp.{IsTotalOrder}
use Rattle.std.specs.Cmp.Lexicographic.{slice_cmp}
use Rattle.std.specs.List.{AllByRecursion}
use Rattle.std.specs.Ordering.{int_eq, eq_by_cmp}
use Rattle.edn_model.specs.Form as form
use Rattle.edn_model.specs.Likeness.{alike, alike_in_order, forms_among, pairs_among, any, any_pair, count, count_pairs, bool_eq}
use Rattle.edn_duplicates.specs.Code.{joined, IsPairCode, InOrder, IsCode, AreCodes, ArePairCodes}
use Rattle.edn_duplicates.specs.declared.token.CodeToken.{CodeToken}
use Rattle.edn_duplicates.specs.declared.token.CodeToken.TheVariants.{Nil, Bool as Bool', Int, Str, Sym, Key, Inst, Uuid, Sequence, Map}
use Rattle.edn_duplicates.specs.declared.token.CodeToken.TheVariants.{Set}
use Rattle.edn_duplicates.proofs.Lists.{each_shuffled}
use Rattle.edn_duplicates.proofs.Orders.{has, has_itself, first_or_later}
use Rattle.edn_duplicates.proofs.Prefix.{part_count, first_token, later_tokens, apart, all_apart, all_pairs_apart, some_codes}
use Rattle.edn_duplicates.proofs.Prefix.{some_pair_codes, same_parts, IsApart, IsSomeCode}

-- ---- tests

pub both_true : (a b : Bool) → a ≡ true → b ≡ true → (a && b) ≡ true
both_true true b p q = q
both_true false b p q = absurd (true≢false (sym p))

pub left_true : (a b : Bool) → (a && b) ≡ true → a ≡ true
left_true true b h = refl
left_true false b h = h

pub right_true : (a b : Bool) → (a && b) ≡ true → b ≡ true
right_true true b h = h
right_true false b h = absurd (true≢false (sym h))

pub either_left : (a b : Bool) → a ≡ true → (a || b) ≡ true
either_left true b h = refl
either_left false b h = absurd (true≢false (sym h))

pub either_right : (a b : Bool) → b ≡ true → (a || b) ≡ true
either_right true b h = refl
either_right false b h = h

same_bool : (b : Bool) → bool_eq b b ≡ true
same_bool true = refl
same_bool false = refl

same_int : (z : ℤ) → int_eq z z ≡ true
same_int z = (Decides-int_eq z z).1 refl

same_bytes : (s : List ℕ) → bytes_eq s s ≡ true
same_bytes s = (bytes_eq-Decides s s).1 refl

pub same_number : (n : ℕ) → (n == n) ≡ true
same_number n = grind (arith, nat_tests)

pub number_from : (m n : ℕ) → (m == n) ≡ true → m ≡ n
number_from m n h = grind (arith, nat_tests)

numbers_apart : (m n : ℕ) → (m == n) ≡ false → m ≡ n → ⊥
numbers_apart m n h e = true≢false (sym (subst (λ z. (m == z) ≡ true) e (same_number m)) ∙ h)

-- ---- what a token holds

truth_in : CodeToken → Bool
truth_in (Bool' b) = b
truth_in _ = false

number_in : CodeToken → ℤ
number_in (Int z) = z
number_in (Inst z) = z
number_in _ = pos 0

natural_in : CodeToken → ℕ
natural_in (Uuid n) = n
natural_in _ = 0

text_in : CodeToken → List ℕ
text_in (Str s) = s.text
text_in (Sym s) = s.text
text_in (Key s) = s.text
text_in _ = []

-- ---- the kinds of forms and of tokens: lists and vectors are of one

token_kind : CodeToken → ℕ
token_kind Nil = 0
token_kind (Bool' b) = 1
token_kind (Int z) = 2
token_kind (Str s) = 3
token_kind (Sym s) = 4
token_kind (Key s) = 5
token_kind (Sequence n) = 6
token_kind (Map n) = 7
token_kind (Set n) = 8
token_kind (Inst z) = 9
token_kind (Uuid n) = 10

abbrev pub kind : form.Form → ℕ
kind form.nil = 0
kind (form.boolean b) = 1
kind (form.integer z) = 2
kind (form.string s) = 3
kind (form.symbol s) = 4
kind (form.keyword k) = 5
kind (form.list fs) = 6
kind (form.vector fs) = 6
kind (form.map ps) = 7
kind (form.set fs) = 8
kind (form.instant z) = 9
kind (form.uuid n) = 10

module _ (cmp : CodeToken → CodeToken → Ordering) where
  kind_is : (f : form.Form) (s : List CodeToken) → IsCode cmp f s → token_kind (first_token s) ≡ kind f
  unfolding token_kind
  kind_is form.nil s h = ap (λ z. token_kind (first_token z)) h
  kind_is (form.boolean b) s h = ap (λ z. token_kind (first_token z)) h
  kind_is (form.integer z) s h = ap (λ z. token_kind (first_token z)) h
  kind_is (form.string k) s h = ap (λ z. token_kind (first_token z)) h
  kind_is (form.symbol k) s h = ap (λ z. token_kind (first_token z)) h
  kind_is (form.keyword k) s h = ap (λ z. token_kind (first_token z)) h
  kind_is (form.list fs) s h = ap (λ z. token_kind (first_token z)) h.joins
  kind_is (form.vector fs) s h = ap (λ z. token_kind (first_token z)) h.joins
  kind_is (form.map ps) s h = ap (λ z. token_kind (first_token z)) h.joins.joins
  kind_is (form.set fs) s h = ap (λ z. token_kind (first_token z)) h.joins.joins
  kind_is (form.instant z) s h = ap (λ z. token_kind (first_token z)) h
  kind_is (form.uuid n) s h = ap (λ z. token_kind (first_token z)) h

  -- one code, one kind
  pub one_kind : (f g : form.Form) (s : List CodeToken) → IsCode cmp f s → IsCode cmp g s → kind f ≡ kind g
  one_kind f g s p q = sym (kind_is f s p) ∙ kind_is g s q

  -- the front of one list and of another
  fronts : (s : List CodeToken) (a b : CodeToken) (xs ys : List CodeToken) → s ≡ a ∷ xs → s ≡ b ∷ ys → a ≡ b
  fronts s a b xs ys p q = ap first_token (sym p ∙ q)

  pub joined_alike : (s : List CodeToken) (a b : CodeToken) (xs ys : List (List CodeToken)) → s ≡ joined a xs → s ≡ joined b ys
      → part_count a ≡ length xs → part_count b ≡ length ys → AllByRecursion (IsApart cmp) xs → AllByRecursion (IsSomeCode cmp) ys → xs ≡ ys
  joined_alike s a b xs ys p q m n h k =
      same_parts cmp xs ys h k (sym m ∙ ap part_count (ap first_token (sym p ∙ q)) ∙ n) (ap later_tokens (sym p ∙ q))

  count_is : (fs : form.Forms) (cs : List (List CodeToken)) → AreCodes cmp fs cs → count fs ≡ length cs
  count_is form.no_forms [] h = refl
  count_is form.no_forms (c ∷ cs) h = absurd h
  count_is (form.form f fs) [] h = absurd h
  count_is (form.form f fs) (c ∷ cs) h = ap suc (count_is fs cs h.1)

  pair_count_is : (ps : form.Pairs) (cs : List (List CodeToken)) → ArePairCodes cmp ps cs → count_pairs ps ≡ length cs
  pair_count_is form.no_pairs [] h = refl
  pair_count_is form.no_pairs (c ∷ cs) h = absurd h
  pair_count_is (form.pair k v ps) [] h = absurd h
  pair_count_is (form.pair k v ps) (c ∷ cs) h = ap suc (pair_count_is ps cs h.1)

  pub same_count : (fs gs : form.Forms) (xs ys : List (List CodeToken)) → AreCodes cmp fs xs → AreCodes cmp gs ys → length xs ≡ length ys
      → (count fs == count gs) ≡ true
  same_count fs gs xs ys p q e =
      subst (λ n. (count fs == n) ≡ true) (count_is fs xs p ∙ e ∙ sym (count_is gs ys q)) (same_number (count fs))

  pub same_pair_count : (ps qs : form.Pairs) (xs ys : List (List CodeToken)) → ArePairCodes cmp ps xs → ArePairCodes cmp qs ys
      → length xs ≡ length ys → (count_pairs ps == count_pairs qs) ≡ true
  same_pair_count ps qs xs ys p q e =
      subst (λ n. (count_pairs ps == n) ≡ true) (pair_count_is ps xs p ∙ e ∙ sym (pair_count_is qs ys q)) (same_number (count_pairs ps))

  pub counts_agree : (fs gs : form.Forms) (xs ys : List (List CodeToken)) → AreCodes cmp fs xs → AreCodes cmp gs ys
      → (count fs == count gs) ≡ true → length xs ≡ length ys
  counts_agree fs gs xs ys p q h =
      sym (count_is fs xs p) ∙ number_from (count fs) (count gs) h ∙ count_is gs ys q

  pub pair_counts_agree : (ps qs : form.Pairs) (xs ys : List (List CodeToken)) → ArePairCodes cmp ps xs → ArePairCodes cmp qs ys
      → (count_pairs ps == count_pairs qs) ≡ true → length xs ≡ length ys
  pair_counts_agree ps qs xs ys p q h =
      sym (pair_count_is ps xs p) ∙ number_from (count_pairs ps) (count_pairs qs) h ∙ pair_count_is qs ys q

first_part : List (List CodeToken) → List CodeToken
first_part [] = []
first_part (x ∷ xs) = x

later_parts : List (List CodeToken) → List (List CodeToken)
later_parts [] = []
later_parts (x ∷ xs) = xs

module _ (cmp : CodeToken → CodeToken → Ordering) (total : IsTotalOrder cmp) (exact : CmpEqualImpliesEq (slice_cmp cmp)) where
  abbrev pub has_code : List CodeToken → List (List CodeToken) → Bool
  has_code = has (lists_total total) exact

  -- a test that every form of a code passes is passed by one of the forms whose codes have it
  pub any_from : (test : form.Form → Bool) (a : List CodeToken) → ((g : form.Form) → IsCode cmp g a → test g ≡ true)
      → (gs : form.Forms) (ys : List (List CodeToken)) → AreCodes cmp gs ys → has_code a ys ≡ true → any test gs ≡ true
  any_from test a each form.no_forms [] q h = absurd (true≢false (sym h))
  any_from test a each form.no_forms (b ∷ ys) q h = absurd q
  any_from test a each (form.form g gs) [] q h = absurd q
  any_from test a each (form.form g gs) (b ∷ ys) q h =
      first_or_later (lists_total total) exact a b ys h
      (λ e. either_left (test g) (any test gs) (each g (subst (IsCode cmp g) (sym e) q.0)))
      (λ k. either_right (test g) (any test gs) (any_from test a each gs ys q.1 k))

  any_pair_from : (test : form.Form → form.Form → Bool) (a : List CodeToken)
      → ((l w : form.Form) → IsPairCode (IsCode cmp l) (IsCode cmp w) a → test l w ≡ true)
      → (qs : form.Pairs) (ys : List (List CodeToken)) → ArePairCodes cmp qs ys → has_code a ys ≡ true → any_pair test qs ≡ true
  any_pair_from test a each form.no_pairs [] q h = absurd (true≢false (sym h))
  any_pair_from test a each form.no_pairs (b ∷ ys) q h = absurd q
  any_pair_from test a each (form.pair l w qs) [] q h = absurd q
  any_pair_from test a each (form.pair l w qs) (b ∷ ys) q h =
      first_or_later (lists_total total) exact a b ys h
      (λ e. either_left (test l w) (any_pair test qs) (each l w (subst (IsPairCode (IsCode cmp l) (IsCode cmp w)) (sym e) q.0)))
      (λ k. either_right (test l w) (any_pair test qs) (any_pair_from test a each qs ys q.1 k))

  -- one code of two pairs: their keys have one code, and their values
  pub pair_parts : (k v l u : form.Form) (a b : List CodeToken) → a ≡ b
      → (p : IsPairCode (IsCode cmp k) (IsCode cmp v) a) (q : IsPairCode (IsCode cmp l) (IsCode cmp u) b)
      → (p.key ≡ q.key) × (p.value ≡ q.value)
  unfolding first_part later_parts
  pair_parts k v l u a b e p q =
      let one : p.key ∷ p.value ∷ [] ≡ q.key ∷ q.value ∷ [] =
      joined_alike cmp a (Sequence 2) (Sequence 2) (p.key ∷ p.value ∷ []) (q.key ∷ q.value ∷ []) p.joins (e ∙ q.joins) refl refl (
        apart cmp k p.key p.is_key,
        (apart cmp v p.value p.is_value, tt),
      ) (record { of = l; is = q.is_key }, (record { of = u; is = q.is_value }, tt)) in
      (ap first_part one, ap (λ z. first_part (later_parts z)) one)

  -- one code of two sequences: the parts of the first belong to the members of the second too
  moved : (fs gs : form.Forms) (s : List CodeToken) (p : IsCode cmp (form.list fs) s) (q : IsCode cmp (form.list gs) s)
      → AreCodes cmp gs p.parts
  moved fs gs s p q =
      subst (AreCodes cmp gs)
      (sym (joined_alike cmp s (Sequence (length p.parts)) (Sequence (length q.parts)) p.parts q.parts p.joins q.joins refl refl
      (all_apart cmp fs p.parts p.codes) (some_codes cmp gs q.parts q.codes)))
      q.codes

  -- lists that are one in order have as many elements, and the same ones
  shuffled_within : (xs ys sorted sorted' : List (List CodeToken)) → IsPermutation xs sorted → IsPermutation ys sorted' → sorted ≡ sorted'
      → (length xs ≡ length ys) × ((k : List CodeToken) → has_code k xs ≡ true → has_code k ys ≡ true)
  shuffled_within xs ys sorted sorted' p q one = (
    sym (length_permutation xs sorted p) ∙ ap length one ∙ length_permutation ys sorted' q,
    λ k h. list_any-IsPermutation (eq_by_cmp (slice_cmp cmp) k) ys sorted' q ∙ ap (λ zs. has_code k zs) (sym one)
        ∙ sym (list_any-IsPermutation (eq_by_cmp (slice_cmp cmp) k) xs sorted p) ∙ h,
  )

  members_within : (fs gs : form.Forms) (s : List CodeToken) (p : IsCode cmp (form.set fs) s) (q : IsCode cmp (form.set gs) s)
      → (length p.parts ≡ length q.parts) × ((k : List CodeToken) → has_code k p.parts ≡ true → has_code k q.parts ≡ true)
  members_within fs gs s p q =
      let i : InOrder cmp Set p.parts s = p.joins in
      let j : InOrder cmp Set q.parts s = q.joins in
      shuffled_within p.parts q.parts i.sorted j.sorted i.shuffled j.shuffled
      (joined_alike cmp s (Set (length i.sorted)) (Set (length j.sorted)) i.sorted j.sorted i.joins j.joins refl refl
      (each_shuffled (IsApart cmp) p.parts i.sorted i.shuffled (all_apart cmp fs p.parts p.codes))
      (each_shuffled (IsSomeCode cmp) q.parts j.sorted j.shuffled (some_codes cmp gs q.parts q.codes)))

  pairs_within : (ps qs : form.Pairs) (s : List CodeToken) (p : IsCode cmp (form.map ps) s) (q : IsCode cmp (form.map qs) s)
      → (length p.parts ≡ length q.parts) × ((k : List CodeToken) → has_code k p.parts ≡ true → has_code k q.parts ≡ true)
  pairs_within ps qs s p q =
      let i : InOrder cmp Map p.parts s = p.joins in
      let j : InOrder cmp Map q.parts s = q.joins in
      shuffled_within p.parts q.parts i.sorted j.sorted i.shuffled j.shuffled
      (joined_alike cmp s (Map (length i.sorted)) (Map (length j.sorted)) i.sorted j.sorted i.joins j.joins refl refl
      (each_shuffled (IsApart cmp) p.parts i.sorted i.shuffled (all_pairs_apart cmp ps p.parts p.codes))
      (each_shuffled (IsSomeCode cmp) q.parts j.sorted j.shuffled (some_pair_codes cmp qs q.parts q.codes)))

  mutual
    unfolding truth_in number_in natural_in text_in

    pub alike_from : (f g : form.Form) (s : List CodeToken) → IsCode cmp f s → IsCode cmp g s → alike f g ≡ true
    alike_from form.nil form.nil s p q = refl
    alike_from (form.boolean a) (form.boolean b) s p q =
        subst (λ z. bool_eq a z ≡ true) (ap (λ z. truth_in (first_token z)) (sym p ∙ q)) (same_bool a)
    alike_from (form.integer a) (form.integer b) s p q =
        subst (λ z. int_eq a z ≡ true) (ap (λ z. number_in (first_token z)) (sym p ∙ q)) (same_int a)
    alike_from (form.string a) (form.string b) s p q =
        subst (λ z. bytes_eq a z ≡ true) (ap (λ z. text_in (first_token z)) (sym p ∙ q)) (same_bytes a)
    alike_from (form.symbol a) (form.symbol b) s p q =
        subst (λ z. bytes_eq a z ≡ true) (ap (λ z. text_in (first_token z)) (sym p ∙ q)) (same_bytes a)
    alike_from (form.keyword a) (form.keyword b) s p q =
        subst (λ z. bytes_eq a z ≡ true) (ap (λ z. text_in (first_token z)) (sym p ∙ q)) (same_bytes a)
    alike_from (form.list fs) (form.list gs) s p q = in_order_from fs gs p.parts p.codes (moved fs gs s p q)
    alike_from (form.list fs) (form.vector gs) s p q = in_order_from fs gs p.parts p.codes (moved fs gs s p q)
    alike_from (form.vector fs) (form.list gs) s p q = in_order_from fs gs p.parts p.codes (moved fs gs s p q)
    alike_from (form.vector fs) (form.vector gs) s p q = in_order_from fs gs p.parts p.codes (moved fs gs s p q)
    alike_from (form.map ps) (form.map qs) s p q =
        let w : (length p.parts ≡ length q.parts) × ((k : List CodeToken) → has_code k p.parts ≡ true → has_code k q.parts ≡ true) =
        pairs_within ps qs s p q in
        both_true (count_pairs ps == count_pairs qs) (pairs_among ps qs) (same_pair_count cmp ps qs p.parts q.parts p.codes q.codes w.0)
        (pairs_among_from ps qs p.parts q.parts p.codes q.codes w.1)
    alike_from (form.set fs) (form.set gs) s p q =
        let w : (length p.parts ≡ length q.parts) × ((k : List CodeToken) → has_code k p.parts ≡ true → has_code k q.parts ≡ true) =
        members_within fs gs s p q in
        both_true (count fs == count gs) (forms_among fs gs) (same_count cmp fs gs p.parts q.parts p.codes q.codes w.0)
        (forms_among_from fs gs p.parts q.parts p.codes q.codes w.1)
    alike_from (form.instant a) (form.instant b) s p q =
        subst (λ z. int_eq a z ≡ true) (ap (λ z. number_in (first_token z)) (sym p ∙ q)) (same_int a)
    alike_from (form.uuid a) (form.uuid b) s p q =
        subst (λ z. (a == z) ≡ true) (ap (λ z. natural_in (first_token z)) (sym p ∙ q)) (same_number a)
    alike_from f g s p q = absurd (numbers_apart (kind f) (kind g) refl (one_kind cmp f g s p q))

    in_order_from : (fs gs : form.Forms) (cs : List (List CodeToken)) → AreCodes cmp fs cs → AreCodes cmp gs cs
        → alike_in_order fs gs ≡ true
    in_order_from form.no_forms form.no_forms cs p q = refl
    in_order_from form.no_forms (form.form g gs) [] p q = absurd q
    in_order_from form.no_forms (form.form g gs) (c ∷ cs) p q = absurd p
    in_order_from (form.form f fs) form.no_forms [] p q = absurd p
    in_order_from (form.form f fs) form.no_forms (c ∷ cs) p q = absurd q
    in_order_from (form.form f fs) (form.form g gs) [] p q = absurd p
    in_order_from (form.form f fs) (form.form g gs) (c ∷ cs) p q =
        both_true (alike f g) (alike_in_order fs gs) (alike_from f g c p.0 q.0) (in_order_from fs gs cs p.1 q.1)

    forms_among_from : (fs gs : form.Forms) (xs ys : List (List CodeToken)) → AreCodes cmp fs xs → AreCodes cmp gs ys
        → ((k : List CodeToken) → has_code k xs ≡ true → has_code k ys ≡ true) → forms_among fs gs ≡ true
    forms_among_from form.no_forms gs xs ys p q w = refl
    forms_among_from (form.form f fs) gs [] ys p q w = absurd p
    forms_among_from (form.form f fs) gs (a ∷ xs) ys p q w =
        both_true (any (alike f) gs) (forms_among fs gs)
        (any_from (alike f) a (λ g k. alike_from f g a p.0 k) gs ys q (w a (has_itself (lists_total total) exact a xs)))
        (forms_among_from fs gs xs ys p.1 q (λ k h. w k (either_right (eq_by_cmp (slice_cmp cmp) k a) (has_code k xs) h)))

    pairs_among_from : (ps qs : form.Pairs) (xs ys : List (List CodeToken)) → ArePairCodes cmp ps xs → ArePairCodes cmp qs ys
        → ((k : List CodeToken) → has_code k xs ≡ true → has_code k ys ≡ true) → pairs_among ps qs ≡ true
    pairs_among_from form.no_pairs qs xs ys p q w = refl
    pairs_among_from (form.pair k v ps) qs [] ys p q w = absurd p
    pairs_among_from (form.pair k v ps) qs (a ∷ xs) ys p q w =
        let here : IsPairCode (IsCode cmp k) (IsCode cmp v) a = p.0 in
        let test : form.Form → form.Form → Bool = λ l u. alike k l && alike v u in
        both_true (any_pair test qs) (pairs_among ps qs)
        (any_pair_from test a (λ l u there.
        both_true (alike k l) (alike v u)
        (alike_from k l here.key here.is_key (subst (IsCode cmp l) (sym (pair_parts k v l u a a refl here there).0) there.is_key))
        (alike_from v u here.value here.is_value (subst (IsCode cmp u) (sym (pair_parts k v l u a a refl here there).1) there.is_value)))
        qs ys q (w a (has_itself (lists_total total) exact a xs)))
        (pairs_among_from ps qs xs ys p.1 q (λ m h. w m (either_right (eq_by_cmp (slice_cmp cmp) m a) (has_code m xs) h)))
