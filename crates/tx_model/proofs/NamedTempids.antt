-- The tempids that are told: in one order, and exactly those that have a name.
use Rattle.std.proofs.Common.{◌≡◌, ℕ, ◌+◌, Bool, true, false, cond, not, ◌&&◌, List, [], ◌∷◌, refl, ap, sym, ◌∙◌, subst, inl, inr, ◌⊎◌}
use Rattle.std.proofs.Common.{Option, Some, None}
use Rattle.std.specs.Prelude.{Contains, flat_map, ⊤}
use Rattle.std.specs.List.{cons_option}
use Rattle.std.specs.Ordering.{is_lt, ordering_reverse}
use Rattle.std.specs.declared.cmp.Ordering.{Ordering}
use Rattle.std.specs.declared.cmp.Ordering.TheVariants.{Less, Equal, Greater}
use Rattle.std.specs.Cmp.{tied_itself}
use Rattle.std.specs.Cmp.Lexicographic.{nat_list_cmp_total}
use Rattle.std.proofs.lemmas.Bool.{true≢false, and_parts, and_from, or_parts}
use Rattle.std.proofs.lemmas.Map.Lookups.{exact_bytes}
use Rattle.edn_model.specs.Form.{Form}
use Rattle.fb_values.specs.declared.facts.Entry.{Entry}
use Rattle.fb_values.specs.Orders.{text_cmp}
use Rattle.fb_model.specs.History.{users_issued}
use Rattle.tx_model.specs.Asks.{Name, number, ident, lookup, tempid, nameless, Ask, is_tempid, is_same_tempid, names_of}
use Rattle.tx_model.specs.Tempids.{Db, is_among, met_after, tempids_in, holders, number_next, number_from, with_text, with_texts}
use Rattle.tx_model.specs.Tempids.{put_by_text, by_text, rises_by_text, named_tempids}
use Rattle.tx_model.specs.Transaction.{joined, transaction}
use Rattle.tx_model.proofs.Lists.{first_of, later_of, which, not_in_none}
use Rattle.tx_model.proofs.SameHolders.{same_as_itself}

abbrev Pair : Type 0
Pair = List ℕ × ℕ

abbrev below : Pair → Pair → Bool
below x y = is_lt (text_cmp x.0 y.0)

-- ---- members of a list in order

put_has : (x : Pair) (ps : List Pair) → Contains (put_by_text x ps) x
put_has x [] = first_of x []
put_has x (p ∷ ps) = go (below p x) (put_has x ps)
  where
    go : (b : Bool) → Contains (put_by_text x ps) x → Contains (cond b (p ∷ put_by_text x ps) (x ∷ p ∷ ps)) x
    go true rest = later_of p x (put_by_text x ps) rest
    go false rest = first_of x (p ∷ ps)

put_keeps : (x : Pair) (ps : List Pair) (y : Pair) → Contains ps y → Contains (put_by_text x ps) y
put_keeps x [] y member = absurd (not_in_none y member)
put_keeps x (p ∷ ps) y member = go (below p x) (which p y ps member) (put_keeps x ps y)
  where
    go : (b : Bool) → (p ≡ y) ⊎ Contains ps y → (Contains ps y → Contains (put_by_text x ps) y)
        → Contains (cond b (p ∷ put_by_text x ps) (x ∷ p ∷ ps)) y
    go true (inl same) rest = subst (λ z. Contains (p ∷ put_by_text x ps) z) same (first_of p (put_by_text x ps))
    go true (inr later) rest = later_of p y (put_by_text x ps) (rest later)
    go false either rest = later_of x y (p ∷ ps) member

put_member : (x : Pair) (ps : List Pair) (y : Pair) → Contains (put_by_text x ps) y → (x ≡ y) ⊎ Contains ps y
put_member x [] y member = which x y [] member
put_member x (p ∷ ps) y member = go (below p x) (put_member x ps y) member
  where
    go : (b : Bool) → (Contains (put_by_text x ps) y → (x ≡ y) ⊎ Contains ps y) → Contains (cond b (p ∷ put_by_text x ps) (x ∷ p ∷ ps)) y
        → (x ≡ y) ⊎ Contains (p ∷ ps) y
    go false next is = which x y (p ∷ ps) is
    go true next is =
        elim (which p y (put_by_text x ps) is) [
          | inl same ↦ inr (subst (λ z. Contains (p ∷ ps) z) same (first_of p ps))
          | inr later ↦ elim (next later) [ inl same ↦ inl same | inr more ↦ inr (later_of p y ps more) ]
        ]

by_text_has : (ps : List Pair) (y : Pair) → Contains ps y → Contains (by_text ps) y
by_text_has [] y member = absurd (not_in_none y member)
by_text_has (p ∷ ps) y member =
    elim (which p y ps member) [
      | inl same ↦ subst (λ z. Contains (put_by_text p (by_text ps)) z) same (put_has p (by_text ps))
      | inr later ↦ put_keeps p (by_text ps) y (by_text_has ps y later)
    ]

by_text_member : (ps : List Pair) (y : Pair) → Contains (by_text ps) y → Contains ps y
by_text_member [] y member = absurd (not_in_none y member)
by_text_member (p ∷ ps) y member =
    elim (put_member p (by_text ps) y member) [
      | inl same ↦ subst (λ z. Contains (p ∷ ps) z) same (first_of p ps)
      | inr later ↦ later_of p y ps (by_text_member ps y later)
    ]

-- ---- those with a name

texts_member : (pairs : List (Name × ℕ)) (text : List ℕ) (e : ℕ) → Contains (with_texts pairs) (text, e) → Contains pairs (tempid text, e)
texts_member [] text e member = absurd (not_in_none (text, e) member)
texts_member (pair ∷ pairs) text e member = go pair.0 refl member (texts_member pairs text e)
  where
    behind : Contains pairs (tempid text, e) → Contains (pair ∷ pairs) (tempid text, e)
    behind later = later_of pair (tempid text, e) pairs later

    go : (name : Name) → pair.0 ≡ name → Contains (cons_option (with_text name pair.1) (with_texts pairs)) (text, e)
        → (Contains (with_texts pairs) (text, e) → Contains pairs (tempid text, e)) → Contains (pair ∷ pairs) (tempid text, e)
    go (tempid s) is here next =
        elim (which (s, pair.1) (text, e) (with_texts pairs) here) [
          | inl same ↦ subst (λ z. Contains (pair ∷ pairs) z) (named is same) (first_of pair pairs)
          | inr later ↦ behind (next later)
        ]
      where
        named : {s : List ℕ} → pair.0 ≡ tempid s → ◌≡◌ {A = Pair} (s, pair.1) (text, e) → ◌≡◌ {A = Name × ℕ} pair (tempid text, e)
        named {s} is same =
            let by_name : Name → Name × ℕ = λ name. (name, pair.1) in
            let by_pair : Pair → Name × ℕ = λ p. (tempid text, p.1) in
            ap by_name (is ∙ ap (λ (p : Pair). tempid p.0) same) ∙ ap by_pair same
    go (number z) is here next = behind (next here)
    go (ident k) is here next = behind (next here)
    go (lookup k f) is here next = behind (next here)
    go (nameless path) is here next = behind (next here)

texts_have : (pairs : List (Name × ℕ)) (text : List ℕ) (e : ℕ) → Contains pairs (tempid text, e) → Contains (with_texts pairs) (text, e)
texts_have [] text e member = absurd (not_in_none (tempid text, e) member)
texts_have (pair ∷ pairs) text e member =
    elim (which pair (tempid text, e) pairs member) [
      | inl same ↦
          subst (λ (p : Name × ℕ). Contains (cons_option (with_text p.0 p.1) (with_texts pairs)) (text, e)) (sym same)
          (first_of (text, e) (with_texts pairs))
      | inr later ↦ behind (with_text pair.0 pair.1) (texts_have pairs text e later)
    ]
  where
    behind : (o : Option Pair) → Contains (with_texts pairs) (text, e) → Contains (cons_option o (with_texts pairs)) (text, e)
    behind None later = later
    behind (Some p) later = later_of p (text, e) (with_texts pairs) later

pub named_member : (pairs : List (Name × ℕ)) (text : List ℕ) (e : ℕ) → Contains (named_tempids pairs) (text, e)
    → Contains pairs (tempid text, e)
named_member pairs text e member = texts_member pairs text e (by_text_member (with_texts pairs) (text, e) member)

pub named_has : (pairs : List (Name × ℕ)) (text : List ℕ) (e : ℕ) → Contains pairs (tempid text, e)
    → Contains (named_tempids pairs) (text, e)
named_has pairs text e member = by_text_has (with_texts pairs) (text, e) (texts_have pairs text e member)

-- ---- no name twice

NoneTwice : List Name → Type 0
NoneTwice [] = ⊤
NoneTwice (name ∷ names) = (Contains names name → ⊥) × NoneTwice names

met_unmet : (before names : List Name) (m : Name) → Contains (met_after before names) m → is_among before m ≡ false
met_unmet before [] m member = absurd (not_in_none m member)
met_unmet before (name ∷ names) m member =
    go (is_tempid name && not (is_among before name)) refl member (met_unmet (name ∷ before) names m) (met_unmet before names m)
  where
    unmet : is_tempid name && not (is_among before name) ≡ true → is_among before name ≡ false
    unmet is = negated (is_among before name) (and_parts (is_tempid name) (not (is_among before name)) is).1
      where
        negated : (b : Bool) → not b ≡ true → b ≡ false
        negated true e = sym e
        negated false e = refl

    go : (b : Bool) → (is_tempid name && not (is_among before name)) ≡ b
        → Contains (cond b (name ∷ met_after (name ∷ before) names) (met_after before names)) m
        → (Contains (met_after (name ∷ before) names) m → is_among (name ∷ before) m ≡ false)
        → (Contains (met_after before names) m → is_among before m ≡ false) → is_among before m ≡ false
    go false is here met skipped = skipped here
    go true is here met skipped =
        elim (which name m (met_after (name ∷ before) names) here) [
          | inl same ↦ subst (λ z. is_among before z ≡ false) same (unmet is)
          | inr later ↦ (or_parts (is_same_tempid m name) (is_among before m) (met later)).1
        ]

none_met_twice : (before names : List Name) → NoneTwice (met_after before names)
unfolding NoneTwice
none_met_twice before [] = tt
none_met_twice before (name ∷ names) =
    go (is_tempid name && not (is_among before name)) refl (none_met_twice (name ∷ before) names) (none_met_twice before names)
  where
    go : (b : Bool) → (is_tempid name && not (is_among before name)) ≡ b → NoneTwice (met_after (name ∷ before) names)
        → NoneTwice (met_after before names)
        → NoneTwice (cond b (name ∷ met_after (name ∷ before) names) (met_after before names))
    go false is met skipped = skipped
    go true is met skipped = (
      λ member. true≢false
          (sym (same_as_itself name (and_parts (is_tempid name) (not (is_among before name)) is).0)
          ∙ (or_parts (is_same_tempid name name) (is_among before name) (met_unmet (name ∷ before) names name member)).0),
      met,
    )

-- ---- a list of which no text stands twice is put in order

NoTextTwice : List Pair → Type 0
NoTextTwice [] = ⊤
NoTextTwice (p ∷ ps) = ((q : Pair) → Contains ps q → p.0 ≡ q.0 → ⊥) × NoTextTwice ps

numbered_name : (db : Db) (asks : List Ask) (names : List Name) (n : ℕ) (text : List ℕ) (e : ℕ)
    → Contains (with_texts (number_from db asks names n)) (text, e) → Contains names (tempid text)
numbered_name db asks [] n text e member = absurd (not_in_none (text, e) member)
numbered_name db asks (name ∷ names) n text e member = by_holder (holders db asks name) member (λ m. numbered_name db asks names m text e)
  where
    one : (given : ℕ) (rest : List (Name × ℕ)) → Contains (cons_option (with_text name given) (with_texts rest)) (text, e)
        → (Contains (with_texts rest) (text, e) → Contains names (tempid text)) → Contains (name ∷ names) (tempid text)
    one given rest here next = go name refl here
      where
        go : (x : Name) → name ≡ x → Contains (cons_option (with_text x given) (with_texts rest)) (text, e)
            → Contains (name ∷ names) (tempid text)
        go (tempid s) is here =
            elim (which (s, given) (text, e) (with_texts rest) here) [
              | inl same ↦ subst (λ z. Contains (name ∷ names) z) (is ∙ ap (λ (p : Pair). tempid p.0) same) (first_of name names)
              | inr later ↦ later_of name (tempid text) names (next later)
            ]
        go (number z) is here = later_of name (tempid text) names (next here)
        go (ident k) is here = later_of name (tempid text) names (next here)
        go (lookup k f) is here = later_of name (tempid text) names (next here)
        go (nameless path) is here = later_of name (tempid text) names (next here)

    by_holder : (held : List ℕ) → Contains (with_texts (number_next name n held (λ next. number_from db asks names next))) (text, e)
        → ((m : ℕ) → Contains (with_texts (number_from db asks names m)) (text, e) → Contains names (tempid text))
        → Contains (name ∷ names) (tempid text)
    by_holder [] here next = one _ (number_from db asks names (n + 1)) here (next (n + 1))
    by_holder (held ∷ more) here next = one held (number_from db asks names n) here (next n)

no_text_twice : (db : Db) (asks : List Ask) (names : List Name) (n : ℕ) → NoneTwice names
    → NoTextTwice (with_texts (number_from db asks names n))
unfolding NoneTwice NoTextTwice
no_text_twice db asks [] n apart = tt
no_text_twice db asks (name ∷ names) n apart = by_holder (holders db asks name) (λ m. no_text_twice db asks names m apart.1)
  where
    one : (given m : ℕ) → NoTextTwice (with_texts (number_from db asks names m))
        → NoTextTwice (cons_option (with_text name given) (with_texts (number_from db asks names m)))
    one given m rest = go name refl
      where
        go : (x : Name) → name ≡ x → NoTextTwice (cons_option (with_text x given) (with_texts (number_from db asks names m)))
        go (tempid s) is = (
          λ q member same.
              apart.0 (subst (λ z. Contains names z) (ap tempid (sym same) ∙ sym is) (numbered_name db asks names m q.0 q.1 member)),
          rest,
        )
        go (number z) is = rest
        go (ident k) is = rest
        go (lookup k f) is = rest
        go (nameless path) is = rest

    by_holder : (held : List ℕ) → ((m : ℕ) → NoTextTwice (with_texts (number_from db asks names m)))
        → NoTextTwice (with_texts (number_next name n held (λ next. number_from db asks names next)))
    by_holder [] rest = one _ (n + 1) (rest (n + 1))
    by_holder (held ∷ more) rest = one held n (rest n)

starts_above : Pair → List Pair → Bool
starts_above x [] = true
starts_above x (y ∷ ys) = below x y

rises-cons : (x : Pair) (ps : List Pair) → rises_by_text (x ∷ ps) ≡ (starts_above x ps && rises_by_text ps)
unfolding starts_above
rises-cons x [] = refl
rises-cons x (p ∷ ps) = refl

put-above : (x p : Pair) (ps : List Pair) → below x p ≡ true → starts_above x ps ≡ true → starts_above x (put_by_text p ps) ≡ true
unfolding starts_above
put-above x p [] lt above = lt
put-above x p (q ∷ ps) lt above = go (below q p)
  where
    go : (b : Bool) → starts_above x (cond b (q ∷ put_by_text p ps) (p ∷ q ∷ ps)) ≡ true
    go true = above
    go false = lt

other_way : (x y : Pair) → below x y ≡ false → (y.0 ≡ x.0 → ⊥) → below y x ≡ true
other_way x y is apart = go (text_cmp x.0 y.0) refl is
  where
    go : (r : Ordering) → text_cmp x.0 y.0 ≡ r → is_lt r ≡ false → below y x ≡ true
    go Less cmp e = absurd (true≢false e)
    go Equal cmp e = absurd (apart (sym (exact_bytes x.0 y.0 cmp)))
    go Greater cmp e = ap is_lt (nat_list_cmp_total.antisymm y.0 x.0 ∙ ap ordering_reverse cmp)

put-rises : (p : Pair) (ps : List Pair) → ((q : Pair) → Contains ps q → p.0 ≡ q.0 → ⊥) → rises_by_text ps ≡ true
    → rises_by_text (put_by_text p ps) ≡ true
put-rises p [] apart rising = refl
put-rises p (q ∷ ps) apart rising =
    let parts = and_parts (starts_above q ps) (rises_by_text ps) (sym (rises-cons q ps) ∙ rising) in
    go (below q p) refl parts.0 (put-rises p ps (λ r member. apart r (later_of q r ps member)) parts.1)
  where
    go : (b : Bool) → below q p ≡ b → starts_above q ps ≡ true → rises_by_text (put_by_text p ps) ≡ true
        → rises_by_text (cond b (q ∷ put_by_text p ps) (p ∷ q ∷ ps)) ≡ true
    go true is above rest = rises-cons q (put_by_text p ps) ∙ and_from _ _ (put-above q p ps is above) rest
    go false is above rest = and_from _ _ (other_way q p is (apart q (first_of q ps))) rising

by_text-rises : (ps : List Pair) → NoTextTwice ps → rises_by_text (by_text ps) ≡ true
unfolding NoTextTwice
by_text-rises [] apart = refl
by_text-rises (p ∷ ps) apart = put-rises p (by_text ps) (λ q member. apart.0 q (by_text_member ps q member)) (by_text-rises ps apart.1)

pub named-rise : (h : List Entry) (fs : List Form) → rises_by_text (named_tempids (transaction h fs).names) ≡ true
named-rise h fs =
    let tx = transaction h fs in
    let asks = joined tx.asks in
    by_text-rises (with_texts tx.names)
    (no_text_twice tx.db asks (tempids_in asks) (users_issued h) (none_met_twice [] (flat_map names_of asks)))

-- ---- there is one list

is_less : (r : Ordering) → is_lt r ≡ true → r ≡ Less
is_less Less e = refl
is_less Equal e = absurd (true≢false (sym e))
is_less Greater e = absurd (true≢false (sym e))

chain : (x y z : Pair) → below x y ≡ true → below y z ≡ true → below x z ≡ true
chain x y z p q = ap is_lt (nat_list_cmp_total.trans x.0 y.0 z.0 (is_less (text_cmp x.0 y.0) p) (is_less (text_cmp y.0 z.0) q))

not_itself : (x : Pair) → below x x ≡ true → ⊥
not_itself x lt = true≢false (sym lt ∙ ap is_lt (tied_itself nat_list_cmp_total x.0))

rest_rises : (x : Pair) (ps : List Pair) → rises_by_text (x ∷ ps) ≡ true → rises_by_text ps ≡ true
rest_rises x [] rising = refl
rest_rises x (p ∷ ps) rising = (and_parts _ _ rising).1

first_is_least : (x : Pair) (ps : List Pair) (y : Pair) → rises_by_text (x ∷ ps) ≡ true → Contains ps y → below x y ≡ true
first_is_least x [] y rising member = absurd (not_in_none y member)
first_is_least x (p ∷ ps) y rising member =
    let parts = and_parts (below x p) (rises_by_text (p ∷ ps)) rising in
    elim (which p y ps member) [
      | inl same ↦ subst (λ z. below x z ≡ true) same parts.0
      | inr later ↦ chain x p y parts.0 (first_is_least p ps y parts.1 later)
    ]

one_rising_list : (ps qs : List Pair) → rises_by_text ps ≡ true → rises_by_text qs ≡ true
    → ((x : Pair) → Contains ps x → Contains qs x) → ((x : Pair) → Contains qs x → Contains ps x) → ps ≡ qs
one_rising_list [] [] p q there back = refl
one_rising_list [] (y ∷ qs) p q there back = absurd (not_in_none y (back y (first_of y qs)))
one_rising_list (x ∷ ps) [] p q there back = absurd (not_in_none x (there x (first_of x ps)))
one_rising_list (x ∷ ps) (y ∷ qs) p q there back = cons x y first_same ps qs
    (one_rising_list ps qs (rest_rises x ps p) (rest_rises y qs q)
    (λ d member. elim (which y d qs (there d (later_of x d ps member))) [
      | inl same ↦ absurd (not_itself d (subst (λ z. below z d ≡ true) (first_same ∙ same) (first_is_least x ps d p member)))
      | inr later ↦ later
    ])
    (λ d member. elim (which x d ps (back d (later_of y d qs member))) [
      | inl same ↦ absurd (not_itself d (subst (λ z. below z d ≡ true) (sym first_same ∙ same) (first_is_least y qs d q member)))
      | inr later ↦ later
    ]))
  where
    first_same : x ≡ y
    first_same =
        elim (which y x qs (there x (first_of x ps))) [
          | inl same ↦ sym same
          | inr x_later ↦ elim (which x y ps (back y (first_of y qs))) [
            | inl same ↦ same
            | inr y_later ↦ absurd (not_itself x (chain x y x (first_is_least x ps y p y_later) (first_is_least y qs x q x_later)))
          ]
        ]

    cons : (a b : Pair) → a ≡ b → (xs ys : List Pair) → xs ≡ ys → (a ∷ xs) ≡ (b ∷ ys)
    cons a b first xs ys rest = cc

pub one-list : (h : List Entry) (fs : List Form) (list : List Pair) → rises_by_text list ≡ true
    → ((text : List ℕ) (e : ℕ) → Contains list (text, e) → Contains (transaction h fs).names (tempid text, e))
    → ((text : List ℕ) (e : ℕ) → Contains (transaction h fs).names (tempid text, e) → Contains list (text, e))
    → list ≡ named_tempids (transaction h fs).names
one-list h fs list rising there back =
    let pairs = (transaction h fs).names in
    one_rising_list list (named_tempids pairs) rising (named-rise h fs)
    (λ x member. named_has pairs x.0 x.1 (there x.0 x.1 member)) (λ x member. back x.0 x.1 (named_member pairs x.0 x.1 member))
