-- Two ways to make the trees inside a tree: where they agree on those that are asked for, what is made of them agrees.
-- Agreement is down to a depth: what is made is the same, or is deeper than that both ways.
use Rattle.std.proofs.Common.{◌≡◌, ℕ, suc, ◌+◌, ◌<◌, ◌≤◌, Bool, true, false, List, [], ◌∷◌, ◌++◌, map, filter, filter_map, fold, nat_eq}
use Rattle.std.proofs.Common.{cond, not, refl, ap, ap₂, sym, subst, arith, inl, inr, ◌⊎◌, Option, Some, None}
use Rattle.edn_model.specs.Form.{Form}
use Rattle.fb_numbers.specs.Numbers.{type_ref}
use Rattle.fb_model.specs.Facts.{values_of}
use Rattle.fb_model.specs.Schema.{Attribute, entity_in}
use Rattle.pull_model.specs.Patterns.{Options, Pattern, no_items, item, Item, wildcard, own, attribute, Below, usual, under, times}
use Rattle.pull_model.specs.Patterns.{unlimited, everything, one_less, no_options, is_reversed}
use Rattle.pull_model.specs.Found.{Db, absent, values, entities, found_forward, found_backward, referring, meant, names_of_entity}
use Rattle.pull_model.specs.Made.{Made, nothing, stub, limited, depth_made, gathered, or_default, Inside, no_pairs_yet, with_pair, enclosed}
use Rattle.pull_model.specs.Tree.{items_from, has_item_for, is_on, unless_met, pull_below, limit_for, value_of, made_of, key_of_item}
use Rattle.pull_model.specs.Tree.{has_key, unless_there, with_item, inside}
use Rattle.pull_model.specs.Measures.{nesting, nesting_of, nesting_below, entities_of}
use Rattle.pull_model.proofs.Lists.{le_or_lt, AreOn, on-limited}
use Rattle.pull_model.proofs.Entities.{forward_on, backward_on}

-- ---- agreement

abbrev pub Same : ℕ → Made → Made → Type 0
Same room x y = ((x.depth ≤ room) × (y ≡ x)) ⊎ ((room < x.depth) × (room < y.depth))

abbrev SameList : ℕ → List Made → List Made → Type 0
SameList room xs ys = ((depth_made xs ≤ room) × (ys ≡ xs)) ⊎ ((room < depth_made xs) × (room < depth_made ys))

abbrev pub SameInside : ℕ → Inside → Inside → Type 0
SameInside room x y = ((x.depth ≤ room) × (y ≡ x)) ⊎ ((room < x.depth) × (room < y.depth))

pub same_itself : (room : ℕ) (x : Made) → Same room x x
same_itself room x = elim (le_or_lt x.depth room) [ inl low ↦ inl (low, refl) | inr high ↦ inr (high, high) ]

pub same_equal : (room : ℕ) (x y : Made) → y ≡ x → Same room x y
same_equal room x y is = subst (λ z. Same room x z) (sym is) (same_itself room x)

same_list : (room : ℕ) (x y : Made) (xs ys : List Made) → Same room x y → SameList room xs ys → SameList room (x ∷ xs) (y ∷ ys)
same_list room x y xs ys (inl low) (inl lows) = inl (omega (arith, low.0, lows.0), ap₂ (λ z zs. z ∷ zs) low.1 lows.1)
same_list room x y xs ys (inl low) (inr highs) = inr (omega (arith, highs.0), omega (arith, highs.1))
same_list room x y xs ys (inr high) rest = inr (omega (arith, high.0), omega (arith, high.1))

same_gathered : (room : ℕ) (several : Bool) (xs ys : List Made) → SameList room xs ys
    → Same room (gathered several xs) (gathered several ys)
same_gathered room several xs ys (inl low) = inl (low.0, ap (gathered several) low.1)
same_gathered room several xs ys (inr high) = inr high

same_or_default : (room : ℕ) (default : Option Form) (x y : Made) → Same room x y → Same room (or_default default x) (or_default default y)
same_or_default room default x y (inl low) = inl (low.0, ap (or_default default) low.1)
same_or_default room default x y (inr high) = inr high

pub same_enclosed : (room : ℕ) (x y : Inside) → SameInside room x y → Same (suc room) (enclosed x) (enclosed y)
same_enclosed room x y (inl low) = inl (omega (arith, low.0), ap enclosed low.1)
same_enclosed room x y (inr high) = inr (omega (arith, high.0), omega (arith, high.1))

same_pair : (room : ℕ) (x y : Inside) (key : Form) (m n : Made) → SameInside room x y → Same room m n
    → SameInside room (with_pair x key m) (with_pair y key n)
same_pair room x y key m n (inl low) (inl made) = inl (omega (arith, low.0, made.0), ap₂ (λ z k. with_pair z key k) low.1 made.1)
same_pair room x y key m n (inl low) (inr made) = inr (omega (arith, made.0), omega (arith, made.1))
same_pair room x y key m n (inr high) made = inr (omega (arith, high.0), omega (arith, high.1))

-- ---- items that stand in a pattern

abbrev Fit : ℕ → List (ℕ × Item) → Type 0
Fit bound [] = Unit {0}
Fit bound (p ∷ ps) = (nesting_of p.1 ≤ bound) × Fit bound ps

fit-append : (bound : ℕ) (ps qs : List (ℕ × Item)) → Fit bound ps → Fit bound qs → Fit bound (ps ++ qs)
fit-append bound [] qs fit more = more
fit-append bound (p ∷ ps) qs fit more = (fit.0, fit-append bound ps qs fit.1 more)

fit_names : (bound place : ℕ) (names : List (List ℕ))
    → Fit bound (map (λ i. (place, i)) (map (λ name. attribute name no_options usual) names))
fit_names bound place [] = tt
fit_names bound place (name ∷ names) = (omega arith, fit_names bound place names)

fit_items : (db : Db) (e : ℕ) (pattern : Pattern) (place : ℕ) (rest : Pattern) (bound : ℕ) → nesting rest ≤ bound
    → Fit bound (items_from db e pattern place rest)
fit_items db e pattern place no_items bound low = tt
fit_items db e pattern place (item wildcard rest) bound low = (
  omega arith,
  fit-append bound _ _ (fit_names bound place (filter (λ name. not (has_item_for name pattern)) (names_of_entity db e)))
      (fit_items db e pattern (place + 1) rest bound (omega (arith, low))),
)
fit_items db e pattern place (item (own options) rest) bound low =
    (omega arith, fit_items db e pattern (place + 1) rest bound (omega (arith, low)))
fit_items db e pattern place (item (attribute name options below) rest) bound low =
    (omega (arith, low), fit_items db e pattern (place + 1) rest bound (omega (arith, low)))

-- ---- two ways that agree on what is asked for

-- the trees inside that of the last entity of the path, under the pattern
pub record Agree (room : ℕ) (trees others : Pattern → List ℕ → ℕ → Made) (db : Db) (pattern : Pattern) (path : List ℕ) : Type 0 where
  pub part : (n : ℕ) → is_on path n ≡ false → is_on (entities_of db.seen) n ≡ true
      → Same room (trees everything path n) (others everything path n)
  pub less : (place n : ℕ) → is_on path n ≡ false → is_on (entities_of db.seen) n ≡ true
      → Same room (trees (one_less place pattern) path n) (others (one_less place pattern) path n)
  pub again : (n : ℕ) → is_on path n ≡ false → is_on (entities_of db.seen) n ≡ true
      → Same room (trees pattern path n) (others pattern path n)
  pub inner : (below : Pattern) (n : ℕ) → nesting below < nesting pattern → Same room (trees below [] n) (others below [] n)

module _ (room : ℕ) (trees others : Pattern → List ℕ → ℕ → Made) (db : Db) (pattern : Pattern) (above : List ℕ) (e : ℕ)
    (agree : Agree room trees others db pattern (e ∷ above)) where
  met : (below : Pattern) (n : ℕ) → (is_on (e ∷ above) n ≡ false → Same room (trees below (e ∷ above) n) (others below (e ∷ above) n))
      → Same room (unless_met (is_on (e ∷ above) n) trees below (e ∷ above) n) (unless_met (is_on (e ∷ above) n) others below (e ∷ above) n)
  met below n same = go (is_on (e ∷ above) n) refl
    where
      go : (b : Bool) → is_on (e ∷ above) n ≡ b
          → Same room (unless_met b trees below (e ∷ above) n) (unless_met b others below (e ∷ above) n)
      go true on = same_itself room (stub n)
      go false off = same off

  same_told : (place : ℕ) (parts : Bool) (below : Below) (n : ℕ)
      → nesting_below below ≤ nesting pattern → is_on (entities_of db.seen) n ≡ true
      → Same room (pull_below trees pattern place (e ∷ above) parts below n) (pull_below others pattern place (e ∷ above) parts below n)
  same_told place true usual n low on = met everything n (λ off. agree.part n off on)
  same_told place false usual n low on = same_itself room (stub n)
  same_told place parts (under inner) n low on = agree.inner inner n (omega (arith, low))
  same_told place parts (times k) n low on = met (one_less place pattern) n (λ off. agree.less place n off on)
  same_told place parts unlimited n low on = met pattern n (λ off. agree.again n off on)

  same_entities : (place : ℕ) (parts : Bool) (below : Below) (ns : List ℕ)
      → nesting_below below ≤ nesting pattern → AreOn (entities_of db.seen) ns
      → SameList room (map (pull_below trees pattern place (e ∷ above) parts below) ns)
      (map (pull_below others pattern place (e ∷ above) parts below) ns)
  same_entities place parts below [] low on = inl (omega arith, refl)
  same_entities place parts below (n ∷ ns) low on =
      same_list room _ _ _ _ (same_told place parts below n low on.0) (same_entities place parts below ns low on.1)

  same_ref : (place : ℕ) (options : Options) (below : Below) (several parts : Bool) (ns : List ℕ)
      → nesting_below below ≤ nesting pattern → AreOn (entities_of db.seen) ns
      → Same room (value_of trees pattern place (e ∷ above) options below (entities several parts ns))
      (value_of others pattern place (e ∷ above) options below (entities several parts ns))
  same_ref place options below several parts ns low on =
      same_gathered room several _ _ (same_entities place parts below (limited (limit_for several options) ns) low
      (on-limited (entities_of db.seen) ns (limit_for several options) on))

  same_forward : (place : ℕ) (options : Options) (below : Below) (meaning : Option Attribute) → nesting_below below ≤ nesting pattern
      → Same room (value_of trees pattern place (e ∷ above) options below (found_forward db e meaning))
      (value_of others pattern place (e ∷ above) options below (found_forward db e meaning))
  same_forward place options below None low = same_itself room nothing
  same_forward place options below (Some a) low =
      elim (nat_eq a.kind type_ref) as (λ b. Same room (value_of trees pattern place (e ∷ above) options below
      (cond b (entities a.many a.component (filter_map entity_in (values_of db.seen e a.id))) (values a.many (values_of db.seen e a.id))))
      (value_of others pattern place (e ∷ above) options below (cond b
      (entities a.many a.component (filter_map entity_in (values_of db.seen e a.id))) (values a.many (values_of db.seen e a.id))))) [
        | true ↦ same_ref place options below a.many a.component _ low (forward_on db.seen e a.id)
        | false ↦ same_itself room _
      ]

  same_backward : (place : ℕ) (options : Options) (below : Below) (meaning : Option Attribute) → nesting_below below ≤ nesting pattern
      → Same room (value_of trees pattern place (e ∷ above) options below (found_backward db e meaning))
      (value_of others pattern place (e ∷ above) options below (found_backward db e meaning))
  same_backward place options below None low = same_itself room nothing
  same_backward place options below (Some a) low =
      elim (nat_eq a.kind type_ref) as (λ b. Same room (value_of trees pattern place (e ∷ above) options below
      (cond b (entities (not a.component) false (referring db.seen e a.id)) absent)) (value_of others pattern place
      (e ∷ above) options below (cond b (entities (not a.component) false (referring db.seen e a.id)) absent))) [
        | true ↦ same_ref place options below _ false _ low (backward_on db.seen e a.id)
        | false ↦ same_itself room nothing
      ]

  same_found : (place : ℕ) (options : Options) (below : Below) (reversed : Bool) (meaning : Option Attribute)
      → nesting_below below ≤ nesting pattern
      → Same room
      (value_of trees pattern place (e ∷ above) options below (cond reversed (found_backward db e meaning) (found_forward db e meaning)))
      (value_of others pattern place (e ∷ above) options below (cond reversed (found_backward db e meaning) (found_forward db e meaning)))
  same_found place options below true meaning low = same_backward place options below meaning low
  same_found place options below false meaning low = same_forward place options below meaning low

  same_made : (place : ℕ) (i : Item)
      → nesting_of i ≤ nesting pattern → Same room (made_of trees db pattern above e place i) (made_of others db pattern above e place i)
  same_made place wildcard low = same_itself room nothing
  same_made place (own options) low = same_itself room _
  same_made place (attribute name options below) low =
      same_or_default room options.default _ _ (same_found place options below (is_reversed name) (meant db name) low)

  same_item : (x y : Inside) (p : ℕ × Item) → SameInside room x y → nesting_of p.1 ≤ nesting pattern
      → SameInside room (with_item (made_of trees db pattern above e) x p) (with_item (made_of others db pattern above e) y p)
  same_item x y p (inl low) fit =
      subst (λ z. SameInside room (with_item (made_of trees db pattern above e) x p) (with_item (made_of others db pattern above e) z p))
      (sym low.1) (go (has_key x.pairs (key_of_item p.1)))
    where
      go : (b : Bool)
          → SameInside room (unless_there b (made_of trees db pattern above e) x p.0 p.1)
          (unless_there b (made_of others db pattern above e) x p.0 p.1)
      go true = inl (low.0, refl)
      go false = same_pair room x x (key_of_item p.1) _ _ (inl (low.0, refl)) (same_made p.0 p.1 fit)
  same_item x y p (inr high) fit =
      inr (deep _ x high.0 (has_key x.pairs (key_of_item p.1)), deep _ y high.1 (has_key y.pairs (key_of_item p.1)))
    where
      deep : (made : ℕ → Item → Made) (z : Inside) → room < z.depth → (b : Bool) → room < (unless_there b made z p.0 p.1).depth
      deep made z high true = high
      deep made z high false = omega (arith, high)

  same_fold : (ps : List (ℕ × Item)) (x y : Inside) → SameInside room x y → Fit (nesting pattern) ps
      → SameInside room (fold (with_item (made_of trees db pattern above e)) x ps)
      (fold (with_item (made_of others db pattern above e)) y ps)
  same_fold [] x y same fit = same
  same_fold (p ∷ ps) x y same fit = same_fold ps _ _ (same_item x y p same fit.0) fit.1

  pub same_inside : SameInside room (inside trees db pattern above e) (inside others db pattern above e)
  same_inside =
      same_fold (items_from db e pattern 0 pattern) no_pairs_yet no_pairs_yet (inl (omega arith, refl))
      (fit_items db e pattern 0 pattern (nesting pattern) (omega arith))
