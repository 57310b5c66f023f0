-- A key among the entries of two sides and of the one between them.
use Rattle.std.proofs.Common.{◌≡◌, Bool, true, false, cond, List, [], ◌∷◌, ◌++◌, refl, sym, ap, ◌∙◌, Option, Some, None}
use Rattle.std.specs.Ordering.{ordering_reverse, match_ordering, is_eq, is_le}
use Rattle.std.specs.Option.{option_or, option_copied, unwrap_or}
use Rattle.std.specs.Borrow.{Bor}
use Rattle.std.specs.Cmp.{IsTotalOrder}
use Rattle.std.specs.declared.cmp.Ordering.{Ordering}
use Rattle.std.specs.declared.cmp.Ordering.TheVariants.{Less, Equal, Greater}
use Rattle.std.proofs.lemmas.Bool.{true≢false}
use Rattle.std.proofs.lemmas.Cmp.{alike_right}
use Rattle.shared_map.specs.Entries.{get, put, removed, first_from, IsBelowAll, IsRising}

module _ {K : Type 0} {cmp : K → K → Ordering} (o : IsTotalOrder cmp) where
  turned : (x y : K) → cmp x y ≡ Less → cmp y x ≡ Greater
  turned x y less = o.antisymm y x ∙ ap ordering_reverse less

  pub turned_back : (x y : K) → cmp x y ≡ Greater → cmp y x ≡ Less
  turned_back x y greater = o.antisymm y x ∙ ap ordering_reverse greater

module _ {K V : Type 0} {cmp : K → K → Ordering} (o : IsTotalOrder cmp) where
  -- each of the entries is below the key
  abbrev StandsBehind : K → List (K × V) → Type 0
  StandsBehind k [] = Unit {0}
  StandsBehind k (e ∷ es) = (cmp k e.0 ≡ Greater) × StandsBehind k es

  -- ---- rising parts

  before-left : (k : K) (l : List (K × V)) (ys : List (K × V)) → IsBelowAll cmp k (l ++ ys) → IsBelowAll cmp k l
  before-left k [] ys h = tt
  before-left k (e ∷ es) ys h = (h.0, before-left k es ys h.1)

  before-right : (k : K) (l : List (K × V)) (ys : List (K × V)) → IsBelowAll cmp k (l ++ ys) → IsBelowAll cmp k ys
  before-right k [] ys h = h
  before-right k (e ∷ es) ys h = before-right k es ys h.1

  pub rising-left : (l ys : List (K × V)) → IsRising cmp (l ++ ys) → IsRising cmp l
  rising-left [] ys h = tt
  rising-left (e ∷ es) ys h = (before-left e.0 es ys h.0, rising-left es ys h.1)

  rising-behind : (l ys : List (K × V)) → IsRising cmp (l ++ ys) → IsRising cmp ys
  rising-behind [] ys h = h
  rising-behind (e ∷ es) ys h = rising-behind es ys h.1

  pub rising-right : (l : List (K × V)) (x : K × V) (r : List (K × V)) → IsRising cmp (l ++ x ∷ r) → IsRising cmp r
  rising-right l x r h = (rising-behind l (x ∷ r) h).1

  -- what is below the item between is below a key that is not below it
  behind : (k : K) (x : K × V) (l r : List (K × V)) → ((y : K) → cmp y x.0 ≡ Less → cmp y k ≡ Less) → IsRising cmp (l ++ x ∷ r)
      → StandsBehind k l
  behind k x [] r lower h = tt
  behind k x (e ∷ es) r lower h = (turned o e.0 k (lower e.0 (before-right e.0 es (x ∷ r) h.0).0), behind k x es r lower h.1)

  behind-equal : (k : K) (x : K × V) (l r : List (K × V)) → cmp k x.0 ≡ Equal → IsRising cmp (l ++ x ∷ r) → StandsBehind k l
  behind-equal k x l r equal h = behind k x l r (λ y less. alike_right o k x.0 y equal ∙ less) h

  behind-greater : (k : K) (x : K × V) (l r : List (K × V)) → cmp k x.0 ≡ Greater → IsRising cmp (l ++ x ∷ r) → StandsBehind k l
  behind-greater k x l r greater h = behind k x l r (λ y less. o.trans y x.0 k less (turned_back o k x.0 greater)) h

  -- a key that is not above another stands before all that the other stands before
  pub before-all : (k j : K) → ((y : K) → cmp j y ≡ Less → cmp k y ≡ Less) → (r : List (K × V)) → IsBelowAll cmp j r
      → IsBelowAll cmp k r
  before-all k j lower [] h = tt
  before-all k j lower (e ∷ es) h = (lower e.0 h.0, before-all k j lower es h.1)

  before-less : (k : K) (x : K × V) (l r : List (K × V)) → cmp k x.0 ≡ Less → IsRising cmp (l ++ x ∷ r) → IsBelowAll cmp k r
  before-less k x l r less h = before-all k x.0 (λ y. o.trans k x.0 y less) r (rising-behind l (x ∷ r) h).0

  -- ---- the value at a key

  pub get-before : (k : K) (es : List (K × V)) → IsBelowAll cmp k es → get cmp es k ≡ None
  get-before k [] h = refl
  get-before k (e ∷ es) h = ap (λ c. cond (is_eq c) (Some e.1) (get cmp es k)) h.0 ∙ get-before k es h.1

  get-behind : (k : K) (l ys : List (K × V)) → StandsBehind k l → get cmp (l ++ ys) k ≡ get cmp ys k
  get-behind k [] ys h = refl
  get-behind k (e ∷ es) ys h = ap (λ c. cond (is_eq c) (Some e.1) (get cmp (es ++ ys) k)) h.0 ∙ get-behind k es ys h.1

  get-left : (k : K) (l ys : List (K × V)) → get cmp ys k ≡ None → get cmp (l ++ ys) k ≡ get cmp l k
  get-left k [] ys none = none
  get-left k (e ∷ es) ys none = ap (cond (is_eq (cmp k e.0)) (Some e.1)) (get-left k es ys none)

  pub get-less : (k : K) (l : List (K × V)) (x : K × V) (r : List (K × V)) → cmp k x.0 ≡ Less → IsRising cmp (l ++ x ∷ r)
      → get cmp (l ++ x ∷ r) k ≡ get cmp l k
  get-less k l x r less h =
      get-left k l (x ∷ r) (ap (λ c. cond (is_eq c) (Some x.1) (get cmp r k)) less ∙ get-before k r (before-less k x l r less h))

  pub get-equal : (k : K) (l : List (K × V)) (x : K × V) (r : List (K × V)) → cmp k x.0 ≡ Equal → IsRising cmp (l ++ x ∷ r)
      → get cmp (l ++ x ∷ r) k ≡ Some x.1
  get-equal k l x r equal h =
      get-behind k l (x ∷ r) (behind-equal k x l r equal h) ∙ ap (λ c. cond (is_eq c) (Some x.1) (get cmp r k)) equal

  pub get-greater : (k : K) (l : List (K × V)) (x : K × V) (r : List (K × V)) → cmp k x.0 ≡ Greater → IsRising cmp (l ++ x ∷ r)
      → get cmp (l ++ x ∷ r) k ≡ get cmp r k
  get-greater k l x r greater h =
      get-behind k l (x ∷ r) (behind-greater k x l r greater h) ∙ ap (λ c. cond (is_eq c) (Some x.1) (get cmp r k)) greater

  -- ---- the first entry at a key or behind it

  first-behind : (k : K) (l ys : List (K × V)) → StandsBehind k l → first_from cmp k (l ++ ys) ≡ first_from cmp k ys
  first-behind k [] ys h = refl
  first-behind k (e ∷ es) ys h = ap (λ c. cond (is_le c) (Some e) (first_from cmp k (es ++ ys))) h.0 ∙ first-behind k es ys h.1

  pub first-greater : (k : K) (l : List (K × V)) (x : K × V) (r : List (K × V)) → cmp k x.0 ≡ Greater → IsRising cmp (l ++ x ∷ r)
      → first_from cmp k (l ++ x ∷ r) ≡ first_from cmp k r
  first-greater k l x r greater h =
      first-behind k l (x ∷ r) (behind-greater k x l r greater h) ∙ ap (λ c. cond (is_le c) (Some x) (first_from cmp k r)) greater

  pub first-not_greater : (k : K) (l : List (K × V)) (x : K × V) (r : List (K × V)) → is_le (cmp k x.0) ≡ true
      → first_from cmp k (l ++ x ∷ r) ≡ option_or (first_from cmp k l) (Some x)
  first-not_greater k [] x r le = ap (λ b. cond b (Some x) (first_from cmp k r)) le
  first-not_greater k (e ∷ es) x r le = go (is_le (cmp k e.0)) (first-not_greater k es x r le)
    where
      go : (b : Bool) → first_from cmp k (es ++ x ∷ r) ≡ option_or (first_from cmp k es) (Some x)
          → cond b (Some e) (first_from cmp k (es ++ x ∷ r)) ≡ option_or (cond b (Some e) (first_from cmp k es)) (Some x)
      go true rest = refl
      go false rest = rest

  -- ---- an entry more

  put-behind : (n : K × V) (l ys : List (K × V)) → StandsBehind n.0 l → put cmp n (l ++ ys) ≡ l ++ put cmp n ys
  put-behind n [] ys h = refl
  put-behind n (e ∷ es) ys h =
      ap (λ c. match_ordering c (n ∷ e ∷ (es ++ ys)) (n ∷ (es ++ ys)) (e ∷ put cmp n (es ++ ys))) h.0
      ∙ ap (λ zs. e ∷ zs) (put-behind n es ys h.1)

  pub put-less : (n : K × V) (l : List (K × V)) (x : K × V) (r : List (K × V)) → cmp n.0 x.0 ≡ Less
      → put cmp n (l ++ x ∷ r) ≡ put cmp n l ++ x ∷ r
  put-less n [] x r less = ap (λ c. match_ordering c (n ∷ x ∷ r) (n ∷ r) (x ∷ put cmp n r)) less
  put-less n (e ∷ es) x r less = go (cmp n.0 e.0) (put-less n es x r less)
    where
      go : (c : Ordering) → put cmp n (es ++ x ∷ r) ≡ put cmp n es ++ x ∷ r
          → match_ordering c (n ∷ e ∷ (es ++ x ∷ r)) (n ∷ (es ++ x ∷ r)) (e ∷ put cmp n (es ++ x ∷ r))
          ≡ match_ordering c (n ∷ e ∷ es) (n ∷ es) (e ∷ put cmp n es) ++ x ∷ r
      go Less rest = refl
      go Equal rest = refl
      go Greater rest = ap (λ zs. e ∷ zs) rest

  pub put-equal : (n : K × V) (l : List (K × V)) (x : K × V) (r : List (K × V)) → cmp n.0 x.0 ≡ Equal → IsRising cmp (l ++ x ∷ r)
      → put cmp n (l ++ x ∷ r) ≡ l ++ n ∷ r
  put-equal n l x r equal h =
      put-behind n l (x ∷ r) (behind-equal n.0 x l r equal h) ∙ ap (λ c. l ++ match_ordering c (n ∷ x ∷ r) (n ∷ r) (x ∷ put cmp n r)) equal

  pub put-greater : (n : K × V) (l : List (K × V)) (x : K × V) (r : List (K × V)) → cmp n.0 x.0 ≡ Greater → IsRising cmp (l ++ x ∷ r)
      → put cmp n (l ++ x ∷ r) ≡ l ++ x ∷ put cmp n r
  put-greater n l x r greater h =
      put-behind n l (x ∷ r) (behind-greater n.0 x l r greater h)
      ∙ ap (λ c. l ++ match_ordering c (n ∷ x ∷ r) (n ∷ r) (x ∷ put cmp n r)) greater

  -- ---- an entry less

  removed-before : (k : K) (es : List (K × V)) → IsBelowAll cmp k es → removed cmp k es ≡ es
  removed-before k [] h = refl
  removed-before k (e ∷ es) h = ap (λ c. cond (is_eq c) es (e ∷ removed cmp k es)) h.0 ∙ ap (λ zs. e ∷ zs) (removed-before k es h.1)

  removed-behind : (k : K) (l ys : List (K × V)) → StandsBehind k l → removed cmp k (l ++ ys) ≡ l ++ removed cmp k ys
  removed-behind k [] ys h = refl
  removed-behind k (e ∷ es) ys h =
      ap (λ c. cond (is_eq c) (es ++ ys) (e ∷ removed cmp k (es ++ ys))) h.0 ∙ ap (λ zs. e ∷ zs) (removed-behind k es ys h.1)

  removed-left : (k : K) (l ys : List (K × V)) → removed cmp k ys ≡ ys → removed cmp k (l ++ ys) ≡ removed cmp k l ++ ys
  removed-left k [] ys same = same
  removed-left k (e ∷ es) ys same = go (is_eq (cmp k e.0)) (removed-left k es ys same)
    where
      go : (b : Bool) → removed cmp k (es ++ ys) ≡ removed cmp k es ++ ys
          → cond b (es ++ ys) (e ∷ removed cmp k (es ++ ys)) ≡ cond b es (e ∷ removed cmp k es) ++ ys
      go true rest = refl
      go false rest = ap (λ zs. e ∷ zs) rest

  pub removed-less : (k : K) (l : List (K × V)) (x : K × V) (r : List (K × V)) → cmp k x.0 ≡ Less → IsRising cmp (l ++ x ∷ r)
      → removed cmp k (l ++ x ∷ r) ≡ removed cmp k l ++ x ∷ r
  removed-less k l x r less h = removed-left k l (x ∷ r) (removed-before k (x ∷ r) (less, before-less k x l r less h))

  pub removed-equal : (k : K) (l : List (K × V)) (x : K × V) (r : List (K × V)) → cmp k x.0 ≡ Equal → IsRising cmp (l ++ x ∷ r)
      → removed cmp k (l ++ x ∷ r) ≡ l ++ r
  removed-equal k l x r equal h =
      removed-behind k l (x ∷ r) (behind-equal k x l r equal h) ∙ ap (λ c. l ++ cond (is_eq c) r (x ∷ removed cmp k r)) equal

  pub removed-greater : (k : K) (l : List (K × V)) (x : K × V) (r : List (K × V)) → cmp k x.0 ≡ Greater → IsRising cmp (l ++ x ∷ r)
      → removed cmp k (l ++ x ∷ r) ≡ l ++ x ∷ removed cmp k r
  removed-greater k l x r greater h =
      removed-behind k l (x ∷ r) (behind-greater k x l r greater h) ∙ ap (λ c. l ++ cond (is_eq c) r (x ∷ removed cmp k r)) greater

  -- ---- a fork made anew, of parts that are equal to what they are copies of

  pub with-less : (n : K × V) (d l : List (K × V)) (x : K × V) (r l' : List (K × V)) (x' : K × V) (r' : List (K × V))
      → d ≡ l ++ x ∷ r → cmp n.0 x.0 ≡ Less
      → l' ≡ put cmp n l → x' ≡ x → r' ≡ r → l' ++ x' ∷ r' ≡ put cmp n d
  with-less n d l x r l' x' r' is less left item right = rw (is, left, item, right) (sym (put-less n l x r less))

  pub with-equal : (n : K × V) (d l : List (K × V)) (x : K × V) (r l' : List (K × V)) (n' : K × V) (r' : List (K × V))
      → d ≡ l ++ x ∷ r → cmp n.0 x.0 ≡ Equal → IsRising cmp d
      → l' ≡ l → n' ≡ n → r' ≡ r → l' ++ n' ∷ r' ≡ put cmp n d
  with-equal n d l x r l' n' r' is equal rising left item right =
      rw (is, left, item, right) (sym (put-equal n l x r equal (rw is at rising)))

  pub with-greater : (n : K × V) (d l : List (K × V)) (x : K × V) (r l' : List (K × V)) (x' : K × V) (r' : List (K × V))
      → d ≡ l ++ x ∷ r → cmp n.0 x.0 ≡ Greater → IsRising cmp d
      → l' ≡ l → x' ≡ x → r' ≡ put cmp n r → l' ++ x' ∷ r' ≡ put cmp n d
  with-greater n d l x r l' x' r' is greater rising left item right =
      rw (is, left, item, right) (sym (put-greater n l x r greater (rw is at rising)))

  pub without-less : (k : K) (d l : List (K × V)) (x : K × V) (r l' : List (K × V)) (x' : K × V) (r' : List (K × V))
      → d ≡ l ++ x ∷ r → cmp k x.0 ≡ Less → IsRising cmp d
      → l' ≡ removed cmp k l → x' ≡ x → r' ≡ r → l' ++ x' ∷ r' ≡ removed cmp k d
  without-less k d l x r l' x' r' is less rising left item right =
      rw (is, left, item, right) (sym (removed-less k l x r less (rw is at rising)))

  pub without-equal : (k : K) (d l : List (K × V)) (x : K × V) (r : List (K × V)) → d ≡ l ++ x ∷ r → cmp k x.0 ≡ Equal → IsRising cmp d
      → l ++ r ≡ removed cmp k d
  without-equal k d l x r is equal rising = rw is (sym (removed-equal k l x r equal (rw is at rising)))

  pub without-greater : (k : K) (d l : List (K × V)) (x : K × V) (r l' : List (K × V)) (x' : K × V) (r' : List (K × V))
      → d ≡ l ++ x ∷ r → cmp k x.0 ≡ Greater → IsRising cmp d
      → l' ≡ l → x' ≡ x → r' ≡ removed cmp k r → l' ++ x' ∷ r' ≡ removed cmp k d
  without-greater k d l x r l' x' r' is greater rising left item right =
      rw (is, left, item, right) (sym (removed-greater k l x r greater (rw is at rising)))

pub le-not_greater : (o : Ordering) → (o ≡ Greater → ⊥) → is_le o ≡ true
le-not_greater Less not = refl
le-not_greater Equal not = refl
le-not_greater Greater not = absurd (not refl)

pub copied-or : {X : Type 0} (o : Option (Bor X)) (x : Bor X) → Some (unwrap_or o x).now ≡ option_or (option_copied o) (Some x.now)
copied-or None x = refl
copied-or (Some y) x = refl

pub is_equal : (o : Ordering) → is_eq o ≡ true → o ≡ Equal
is_equal Less is = absurd (true≢false (sym is))
is_equal Equal is = refl
is_equal Greater is = absurd (true≢false (sym is))
