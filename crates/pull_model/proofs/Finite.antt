-- A tree is finite: no entity is met twice on a path, and a pattern inside another begins a path of its own.
use Rattle.std.proofs.Common.{◌≡◌, ℕ, zero, suc, ◌+◌, ◌-◌, ◌*◌, max, ◌<◌, ◌≤◌, Bool, true, false, cond, not, ◌||◌, List, [], ◌∷◌, length}
use Rattle.std.proofs.Common.{nat_eq, nat_le, refl, ap, sym, subst, arith, inl, inr, suc-add, mul-le-mul_left, mul-suc}
use Rattle.std.proofs.lemmas.Bool.{true≢false, and_from, or_cases, eqb-true, eq-eqb}
use Rattle.pull_model.specs.Patterns.{Pattern, no_items, item, wildcard, own, attribute, usual, under, times, unlimited, everything}
use Rattle.pull_model.specs.Patterns.{one_less}
use Rattle.pull_model.specs.Found.{Db}
use Rattle.pull_model.specs.Made.{Made, Inside, enclosed}
use Rattle.pull_model.specs.Tree.{tree, inside, is_on}
use Rattle.pull_model.specs.Measures.{is_path, nesting, entities_of, most_levels}
use Rattle.pull_model.proofs.Agreement.{SameInside, Agree, same_inside, same_equal}

-- ---- agreement as equality

equal_of : (x y : Inside) → SameInside x.depth x y → y ≡ x
equal_of x y (inl low) = low.1
equal_of x y (inr high) = absurd (omega (arith, high.0))

-- the trees that are asked for are the same
pub record Equal (trees others : Pattern → List ℕ → ℕ → Made) (db : Db) (pattern : Pattern) (path : List ℕ) : Type 0 where
  pub part : (n : ℕ) → is_on path n ≡ false → is_on (entities_of db.seen) n ≡ true → others everything path n ≡ trees everything path n
  pub less : (place n : ℕ) → is_on path n ≡ false → is_on (entities_of db.seen) n ≡ true
      → others (one_less place pattern) path n ≡ trees (one_less place pattern) path n
  pub again : (n : ℕ) → is_on path n ≡ false → is_on (entities_of db.seen) n ≡ true → others pattern path n ≡ trees pattern path n
  pub inner : (below : Pattern) (n : ℕ) → nesting below < nesting pattern → others below [] n ≡ trees below [] n

agrees : (room : ℕ) (trees others : Pattern → List ℕ → ℕ → Made) (db : Db) (pattern : Pattern) (path : List ℕ)
    → Equal trees others db pattern path → Agree room trees others db pattern path
agrees room trees others db pattern path equal =
    record {
      part = λ n off on. same_equal room _ _ (equal.part n off on);
      less = λ place n off on. same_equal room _ _ (equal.less place n off on);
      again = λ n off on. same_equal room _ _ (equal.again n off on);
      inner = λ below n low. same_equal room _ _ (equal.inner below n low);
    }

equal_inside : (trees others : Pattern → List ℕ → ℕ → Made) (db : Db) (pattern : Pattern) (above : List ℕ) (e : ℕ)
    → Equal trees others db pattern (e ∷ above)
    → inside others db pattern above e ≡ inside trees db pattern above e
equal_inside trees others db pattern above e equal =
    equal_of (inside trees db pattern above e) (inside others db pattern above e)
    (same_inside (inside trees db pattern above e).depth trees others db pattern above e
    (agrees (inside trees db pattern above e).depth trees others db pattern (e ∷ above) equal))

-- ---- paths

longer : (path : List ℕ) (n : ℕ) → is_on path n ≡ false → is_path path ≡ true → is_path (n ∷ path) ≡ true
longer path n off is = and_from (not (is_on path n)) (is_path path) (ap not off) is

pub paths_alone : (trees others : Pattern → List ℕ → ℕ → Made) (db : Db) (pattern : Pattern) (above : List ℕ) (e : ℕ)
    → ((inner : Pattern) (path : List ℕ) (n : ℕ) → is_path (n ∷ path) ≡ true → others inner path n ≡ trees inner path n)
    → is_path (e ∷ above) ≡ true
    → inside others db pattern above e ≡ inside trees db pattern above e
paths_alone trees others db pattern above e same is =
    equal_inside trees others db pattern above e
    (record {
      part = λ n off on. same everything (e ∷ above) n (longer (e ∷ above) n off is);
      less = λ place n off on. same (one_less place pattern) (e ∷ above) n (longer (e ∷ above) n off is);
      again = λ n off on. same pattern (e ∷ above) n (longer (e ∷ above) n off is);
      inner = λ below n low. same below [] n refl;
    })

-- ---- entities that are not yet on the path

abbrev left : List ℕ → List ℕ → ℕ
left [] path = 0
left (n ∷ ns) path = cond (is_on path n) (left ns path) (suc (left ns path))

left-length : (ns path : List ℕ) → left ns path ≤ length ns
left-length [] path = omega arith
left-length (n ∷ ns) path =
    elim (is_on path n) as (λ b. cond b (left ns path) (suc (left ns path)) ≤ suc (length ns)) [
      | true ↦ omega (arith, left-length ns path)
      | false ↦ omega (arith, left-length ns path)
    ]

left-longer : (ns path : List ℕ) (m : ℕ) → left ns (m ∷ path) ≤ left ns path
left-longer [] path m = omega arith
left-longer (n ∷ ns) path m =
    elim (nat_eq n m) as (λ c.
    cond (c || is_on path n) (left ns (m ∷ path)) (suc (left ns (m ∷ path))) ≤ cond (is_on path n) (left ns path) (suc (left ns path))) [
      | true ↦ elim (is_on path n) as (λ b. left ns (m ∷ path) ≤ cond b (left ns path) (suc (left ns path))) [
        | true ↦ left-longer ns path m
        | false ↦ omega (arith, left-longer ns path m)
      ]
      | false ↦
          elim (is_on path n) as (λ b. cond b (left ns (m ∷ path)) (suc (left ns (m ∷ path)))
          ≤ cond b (left ns path) (suc (left ns path))) [ true ↦ left-longer ns path m | false ↦ omega (arith, left-longer ns path m) ]
    ]

one_fewer_here : (ns path : List ℕ) (m n : ℕ) → nat_eq m n ≡ true → is_on path m ≡ false → left (n ∷ ns) (m ∷ path) < left (n ∷ ns) path
one_fewer_here ns path m n same off =
    subst (λ k. left (k ∷ ns) (m ∷ path) < left (k ∷ ns) path) (eqb-true m n same)
    (at (nat_eq m m) (is_on path m) (eq-eqb m m refl) off)
  where
    at : (c b : Bool) → c ≡ true → b ≡ false
        → cond (c || b) (left ns (m ∷ path)) (suc (left ns (m ∷ path))) < cond b (left ns path) (suc (left ns path))
    at true false is isnt = omega (arith, left-longer ns path m)
    at true true is isnt = absurd (true≢false isnt)
    at false b is isnt = absurd (true≢false (sym is))

one_fewer : (ns path : List ℕ) (m : ℕ) → is_on ns m ≡ true → is_on path m ≡ false → left ns (m ∷ path) < left ns path
one_fewer [] path m on off = absurd (true≢false (sym on))
one_fewer (n ∷ ns) path m on off =
    elim (or_cases (nat_eq m n) (is_on ns m) on) [
      | inl now ↦ one_fewer_here ns path m n now off
      | inr later ↦ further (nat_eq n m) (is_on path n) (one_fewer ns path m later off)
    ]
  where
    further : (c b : Bool) → left ns (m ∷ path) < left ns path
        → cond (c || b) (left ns (m ∷ path)) (suc (left ns (m ∷ path))) < cond b (left ns path) (suc (left ns path))
    further true true low = low
    further true false low = omega (arith, low)
    further false true low = low
    further false false low = omega (arith, low)

-- ---- enough room

lessened-nesting : (place : ℕ) (pattern : Pattern) → nesting (one_less place pattern) ≤ nesting pattern
lessened-nesting place no_items = omega arith
lessened-nesting zero (item wildcard rest) = omega arith
lessened-nesting zero (item (own options) rest) = omega arith
lessened-nesting zero (item (attribute name options usual) rest) = omega arith
lessened-nesting zero (item (attribute name options (under inner)) rest) = omega arith
lessened-nesting zero (item (attribute name options unlimited) rest) = omega arith
lessened-nesting zero (item (attribute name options (times k)) rest) =
    elim (nat_le k 1) as (λ b. nesting (cond b rest (item (attribute name options (times (k - 1))) rest)) ≤ max 0 (nesting rest)) [
      | true ↦ omega arith
      | false ↦ omega arith
    ]
lessened-nesting (suc place) (item i rest) = omega (arith, lessened-nesting place rest)

abbrev width : Db → ℕ
width db = length (entities_of db.seen) + 2

abbrev room_for : Db → Pattern → List ℕ → ℕ
room_for db pattern path = suc (left (entities_of db.seen) path) + width db * nesting pattern

pub enough : (room more : ℕ) (db : Db) (pattern : Pattern) (above : List ℕ) (e : ℕ) → room_for db pattern (e ∷ above) ≤ room
    → tree (room + more) db pattern above e ≡ tree room db pattern above e
enough zero more db pattern above e low = absurd (omega (arith, low))
enough (suc room) more db pattern above e low =
    subst (λ k. tree k db pattern above e ≡ tree (suc room) db pattern above e) (sym (suc-add room more))
    (ap enclosed (equal_inside (tree room db) (tree (room + more) db) db pattern above e
    (record {
      part = λ n off on. enough room more db everything (e ∷ above) n (fits everything n (omega arith) on off);
      less =
          λ place n off on. enough room more db (one_less place pattern) (e ∷ above) n
          (fits (one_less place pattern) n (lessened-nesting place pattern) on off);
      again = λ n off on. enough room more db pattern (e ∷ above) n (fits pattern n (omega arith) on off);
      inner = λ below n less. enough room more db below [] n (fits_below below n less);
    })))
  where
    fits : (inner : Pattern) (n : ℕ) → nesting inner ≤ nesting pattern → is_on (entities_of db.seen) n ≡ true → is_on (e ∷ above) n ≡ false
        → room_for db inner (n ∷ e ∷ above) ≤ room
    fits inner n less on off = omega (arith, low, one_fewer (entities_of db.seen) (e ∷ above) n on off, mul-le-mul_left (width db) less)

    fits_below : (below : Pattern) (n : ℕ) → nesting below < nesting pattern → room_for db below (n ∷ []) ≤ room
    fits_below below n less =
        omega (arith, low, left-length (entities_of db.seen) (n ∷ []), mul-le-mul_left (width db) less, mul-suc (width db) (nesting below))

pub levels_are_enough : (db : Db) (pattern : Pattern) (e more : ℕ)
    → tree (most_levels db pattern + more) db pattern [] e ≡ tree (most_levels db pattern) db pattern [] e
levels_are_enough db pattern e more = enough (most_levels db pattern) more db pattern [] e fits
  where
    fits : room_for db pattern (e ∷ []) ≤ most_levels db pattern
    fits = omega (arith, left-length (entities_of db.seen) (e ∷ []), mul-suc (width db) (nesting pattern))
