-- Places by how far one has to go to reach them: two places that are reached alike are one.
use Rattle.std.proofs.Common.{◌≡◌, ℕ, suc, ◌+◌, ◌<◌, min, Bool, true, false, cond, ◌&&◌, ◌||◌, leb, List, [], ◌∷◌, map, length, get_or}
use Rattle.std.proofs.Common.{refl, ap, sym, ◌∙◌, arith, add-zero, Option, Some, None}
use Rattle.std.specs.Prelude.{Contains}
use Rattle.std.specs.List.{list_any}
use Rattle.std.proofs.lemmas.Bool.{true≢false, leb-true, le-leb, lt-leb}
use Rattle.std.proofs.lemmas.Bool.Decides.{nat_tests}
use Rattle.tx_model.specs.Step.{first_yes, tests_from}
use Rattle.tx_asks.specs.declared.triples.Triple.{Triple}
use Rattle.tx_rules.specs.Places.{earlier, first_where}
use Rattle.tx_rules.proofs.Members.{first_of, later_of}

-- the place is n or before it
abbrev pub reaches : ℕ → Option ℕ → Bool
reaches n None = false
reaches n (Some m) = leb m n

or_false : (b : Bool) → b ≡ (b || false)
or_false false = refl
or_false true = refl

min_reaches : (n l m : ℕ) → leb (min l m) n ≡ (leb l n || leb m n)
min_reaches n l m = grind (arith, nat_tests)

pub reaches-earlier : (n : ℕ) (x y : Option ℕ) → reaches n (earlier x y) ≡ (reaches n x || reaches n y)
reaches-earlier n None y = refl
reaches-earlier n (Some m) None = or_false (leb m n)
reaches-earlier n (Some l) (Some m) = min_reaches n l m

itself : (n : ℕ) → leb n n ≡ true
itself n = le-leb n n (omega arith)

pub same_places : (x y : Option ℕ) → ((n : ℕ) → reaches n x ≡ reaches n y) → x ≡ y
same_places None None same = refl
same_places None (Some m) same = absurd (true≢false (sym (same m ∙ itself m)))
same_places (Some l) None same = absurd (true≢false (sym (itself l) ∙ same l))
same_places (Some l) (Some m) same =
    let l_upto = leb-true l m (same m ∙ itself m) in
    let m_upto = leb-true m l (sym (same l) ∙ itself l) in
    ap Some (omega (arith, l_upto, m_upto))

-- ---- the first yes

-- a yes at n or before it, where the first one has the number m
abbrev pub yes_upto : ℕ → ℕ → List Bool → Bool
yes_upto n m [] = false
yes_upto n m (b ∷ bs) = (leb m n && b) || yes_upto n (m + 1) bs

none_above : (n m : ℕ) (bs : List Bool) → n < m → yes_upto n m bs ≡ false
none_above n m [] above = refl
none_above n m (b ∷ bs) above = rw (lt-leb m n above) (none_above n (m + 1) bs (omega (arith, above)))

pub reaches-first_yes : (n m : ℕ) (bs : List Bool) → reaches n (first_yes m bs) ≡ yes_upto n m bs
reaches-first_yes n m [] = refl
reaches-first_yes n m (true ∷ bs) = go (leb m n) refl
  where
    go : (b : Bool) → leb m n ≡ b → b ≡ ((b && true) || yes_upto n (m + 1) bs)
    go true is = refl
    go false is = sym (none_above n (m + 1) bs (grind (arith, nat_tests)))
reaches-first_yes n m (false ∷ bs) = go (leb m n) (reaches-first_yes n (m + 1) bs)
  where
    go : (b : Bool) → reaches n (first_yes (m + 1) bs) ≡ yes_upto n (m + 1) bs
        → reaches n (first_yes (m + 1) bs) ≡ ((b && false) || yes_upto n (m + 1) bs)
    go true rest = rest
    go false rest = rest

or_swapped : (c p q x y : Bool) → ((c && (p || q)) || (x || y)) ≡ (((c && p) || x) || ((c && q) || y))
or_swapped false p q x y = refl
or_swapped true true q x y = refl
or_swapped true false true true y = refl
or_swapped true false true false y = refl
or_swapped true false false x y = refl

module _ {A : Type 0} where
  -- of two tests the earlier place
  pub first_yes-or : (p q : ℕ → Bool) (m : ℕ) (xs : List A)
      → first_yes m (tests_from (λ k. p k || q k) m xs) ≡ earlier (first_yes m (tests_from p m xs)) (first_yes m (tests_from q m xs))
  first_yes-or p q m xs = same_places _ _ (λ n.
      reaches-first_yes n m (tests_from (λ k. p k || q k) m xs) ∙ upto n m xs
      ∙ ap (λ b. b || yes_upto n m (tests_from q m xs)) (sym (reaches-first_yes n m (tests_from p m xs)))
      ∙ ap (λ b. reaches n (first_yes m (tests_from p m xs)) || b) (sym (reaches-first_yes n m (tests_from q m xs)))
      ∙ sym (reaches-earlier n (first_yes m (tests_from p m xs)) (first_yes m (tests_from q m xs))))
    where
      upto : (n m : ℕ) (xs : List A)
          → yes_upto n m (tests_from (λ k. p k || q k) m xs) ≡ (yes_upto n m (tests_from p m xs) || yes_upto n m (tests_from q m xs))
      upto n m [] = refl
      upto n m (x ∷ xs) =
          ap (λ b. (leb m n && (p m || q m)) || b) (upto n (m + 1) xs)
          ∙ or_swapped (leb m n) (p m) (q m) (yes_upto n (m + 1) (tests_from p (m + 1) xs)) (yes_upto n (m + 1) (tests_from q (m + 1) xs))

  module _ {B : Type 0} where
    -- tests of the members of another list as long
    pub tests-map : (p : ℕ → Bool) (g : B → Bool) (d : B) (m : ℕ) (xs : List A) (ys : List B) → length xs ≡ length ys
        → ((k : ℕ) → k < length ys → p (m + k) ≡ g (get_or ys k d)) → tests_from p m xs ≡ map g ys
    tests-map p g d m [] [] long same = refl
    tests-map p g d m [] (y ∷ ys) long same = absurd (omega (arith, long))
    tests-map p g d m (x ∷ xs) [] long same = absurd (omega (arith, long))
    tests-map p g d m (x ∷ xs) (y ∷ ys) long same =
        let rest : tests_from p (m + 1) xs ≡ map g ys =
        tests-map p g d (m + 1) xs ys (omega (arith, long)) (λ k within. ap p (shifted k) ∙ same (suc k) (omega (arith, within))) in
        let first : p m ≡ g y = ap p (sym (add-zero m)) ∙ same 0 (omega arith) in
        rw (first, rest) refl
      where
        shifted : (k : ℕ) → (m + 1) + k ≡ m + suc k
        shifted k = omega arith

-- ---- the first place of the triples that pass

any_none : (ts : List Triple) (p : Triple → Bool) → list_any (λ t. p t && false) ts ≡ false
any_none [] p = refl
any_none (t ∷ ts) p = go (p t) (any_none ts p)
  where
    go : (b : Bool) → list_any (λ t. p t && false) ts ≡ false → ((b && false) || list_any (λ t. p t && false) ts) ≡ false
    go true rest = rest
    go false rest = rest

pub any-or : (p q : Triple → Bool) (ts : List Triple) → list_any (λ t. p t || q t) ts ≡ (list_any p ts || list_any q ts)
any-or p q [] = refl
any-or p q (t ∷ ts) = ap (λ b. (p t || q t) || b) (any-or p q ts) ∙ mixed (p t) (q t) (list_any p ts) (list_any q ts)
  where
    mixed : (a b x y : Bool) → ((a || b) || (x || y)) ≡ ((a || x) || (b || y))
    mixed true b x y = refl
    mixed false true true y = refl
    mixed false true false y = refl
    mixed false false x y = refl

reaches-cond : (n : ℕ) (b : Bool) (place : Option ℕ) → reaches n (cond b place None) ≡ (b && reaches n place)
reaches-cond n true place = refl
reaches-cond n false place = refl

pub reaches-first_where : (n : ℕ) (p : Triple → Bool) (place : Triple → Option ℕ) (ts : List Triple)
    → reaches n (first_where p place ts) ≡ list_any (λ t. p t && reaches n (place t)) ts
reaches-first_where n p place [] = refl
reaches-first_where n p place (t ∷ ts) =
    reaches-earlier n (cond (p t) (place t) None) (first_where p place ts)
    ∙ ap (λ b. b || reaches n (first_where p place ts)) (reaches-cond n (p t) (place t))
    ∙ ap (λ b. (p t && reaches n (place t)) || b) (reaches-first_where n p place ts)

-- two such places together
pub first_where-join : (p q r : Triple → Bool) (f g h : Triple → Option ℕ) (ts : List Triple)
    → ((t : Triple) → Contains ts t → earlier (cond (p t) (f t) None) (cond (q t) (g t) None) ≡ cond (r t) (h t) None)
    → earlier (first_where p f ts) (first_where q g ts) ≡ first_where r h ts
first_where-join p q r f g h ts same = same_places _ _ (λ n. reaches-earlier n (first_where p f ts) (first_where q g ts)
    ∙ ap (λ b. b || reaches n (first_where q g ts)) (reaches-first_where n p f ts)
    ∙ ap (λ b. list_any (λ t. p t && reaches n (f t)) ts || b) (reaches-first_where n q g ts)
    ∙ members n ts same ∙ sym (reaches-first_where n r h ts))
  where
    one : (n : ℕ) (t : Triple) → earlier (cond (p t) (f t) None) (cond (q t) (g t) None) ≡ cond (r t) (h t) None
        → ((p t && reaches n (f t)) || (q t && reaches n (g t))) ≡ (r t && reaches n (h t))
    one n t is =
        ap (λ b. b || (q t && reaches n (g t))) (sym (reaches-cond n (p t) (f t)))
        ∙ ap (λ b. reaches n (cond (p t) (f t) None) || b) (sym (reaches-cond n (q t) (g t)))
        ∙ sym (reaches-earlier n (cond (p t) (f t) None) (cond (q t) (g t) None)) ∙ ap (reaches n) is ∙ reaches-cond n (r t) (h t)

    mixed : (a b x y z w : Bool) → (a || b) ≡ z → (x || y) ≡ w → ((a || x) || (b || y)) ≡ (z || w)
    mixed true b x y z w first rest = ap (λ c. c || w) first
    mixed false true x y z w first rest = ap (λ c. x || (c || y)) first ∙ absorbed x y z first
      where
        absorbed : (x y z : Bool) → true ≡ z → (x || (z || y)) ≡ (z || w)
        absorbed true y true is = refl
        absorbed false y true is = refl
        absorbed x y false is = absurd (true≢false is)
    mixed false false x y z w first rest = rest ∙ ap (λ c. c || w) first

    members : (n : ℕ) (ts : List Triple)
        → ((t : Triple) → Contains ts t → earlier (cond (p t) (f t) None) (cond (q t) (g t) None) ≡ cond (r t) (h t) None)
        → (list_any (λ t. p t && reaches n (f t)) ts || list_any (λ t. q t && reaches n (g t)) ts)
        ≡ list_any (λ t. r t && reaches n (h t)) ts
    members n [] same = refl
    members n (t ∷ ts) same =
        mixed (p t && reaches n (f t)) (q t && reaches n (g t)) (list_any (λ t. p t && reaches n (f t)) ts)
        (list_any (λ t. q t && reaches n (g t)) ts) _ _
        (one n t (same t (first_of t ts))) (members n ts (λ x member. same x (later_of t x ts member)))

pub first_where-members : (p q : Triple → Bool) (f g : Triple → Option ℕ) (ts : List Triple)
    → ((t : Triple) → Contains ts t → cond (p t) (f t) None ≡ cond (q t) (g t) None) → first_where p f ts ≡ first_where q g ts
first_where-members p q f g [] same = refl
first_where-members p q f g (t ∷ ts) same =
    rw (same t (first_of t ts), first_where-members p q f g ts (λ x member. same x (later_of t x ts member))) refl

-- ---- where each list of datoms answers as triples do

module _ {X : Type 0} (p : X → Bool) (q : Triple → Bool) (asks : Triple → X → Bool) (ts : List Triple) where
  distributed : (c : Bool) (a b : Triple → Bool) (ts : List Triple)
      → ((c && list_any (λ t. q t && a t) ts) || list_any (λ t. q t && b t) ts) ≡ list_any (λ t. q t && ((c && a t) || b t)) ts
  distributed c a b [] = nothing c
    where
      nothing : (c : Bool) → ((c && false) || false) ≡ false
      nothing true = refl
      nothing false = refl
  distributed c a b (t ∷ ts) =
      mixed c (q t) (a t) (b t) (list_any (λ t. q t && a t) ts) (list_any (λ t. q t && b t) ts)
      ∙ ap (λ r. (q t && ((c && a t) || b t)) || r) (distributed c a b ts)
    where
      mixed : (c q a b x y : Bool) → ((c && ((q && a) || x)) || ((q && b) || y)) ≡ ((q && ((c && a) || b)) || ((c && x) || y))
      mixed false q a b x y = refl
      mixed true false a b x y = refl
      mixed true true true b x y = refl
      mixed true true false true true y = refl
      mixed true true false true false y = refl
      mixed true true false false x y = refl

  pub yes_upto-triples : (n m : ℕ) (ls : List X) → ((l : X) → Contains ls l → p l ≡ list_any (λ t. q t && asks t l) ts)
      → yes_upto n m (map p ls) ≡ list_any (λ t. q t && yes_upto n m (map (asks t) ls)) ts
  yes_upto-triples n m [] agrees = sym (any_none ts q)
  yes_upto-triples n m (l ∷ ls) agrees =
      ap (λ b. (leb m n && b) || yes_upto n (m + 1) (map p ls)) (agrees l (first_of l ls))
      ∙ ap (λ b. (leb m n && list_any (λ t. q t && asks t l) ts) || b)
      (yes_upto-triples n (m + 1) ls (λ x member. agrees x (later_of l x ls member)))
      ∙ distributed (leb m n) (λ t. asks t l) (λ t. yes_upto n (m + 1) (map (asks t) ls)) ts

  pub first_yes-triples : (ls : List X) → ((l : X) → Contains ls l → p l ≡ list_any (λ t. q t && asks t l) ts)
      → first_yes 0 (map p ls) ≡ first_where q (λ t. first_yes 0 (map (asks t) ls)) ts
  first_yes-triples ls agrees = same_places _ _ (λ n.
      reaches-first_yes n 0 (map p ls) ∙ yes_upto-triples n 0 ls agrees
      ∙ reached n ts
      ∙ sym (reaches-first_where n q (λ t. first_yes 0 (map (asks t) ls)) ts))
    where
      reached : (n : ℕ) (ts : List Triple)
          → list_any (λ t. q t && yes_upto n 0 (map (asks t) ls)) ts ≡ list_any (λ t. q t && reaches n (first_yes 0 (map (asks t) ls))) ts
      reached n [] = refl
      reached n (t ∷ ts) = rw (reaches-first_yes n 0 (map (asks t) ls), reached n ts) refl
