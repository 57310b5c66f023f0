-- A closed set is the least set that has the entity and that no link leaves.
use Rattle.std.proofs.Common.{◌≡◌, ℕ, ◌+◌, ◌≤◌, Bool, true, false, cond, not, ◌&&◌, ◌||◌, List, [], ◌∷◌, length, refl, ap, sym, ◌∙◌, subst}
use Rattle.std.proofs.Common.{arith}
use Rattle.std.specs.Prelude.{nat_eq}
use Rattle.std.specs.List.{list_any}
use Rattle.std.proofs.lemmas.Bool.{true≢false, and_parts, and_from, or_left, or_right, eqb-true, eq-eqb}
use Rattle.fb_values.specs.declared.facts.Datom.{Datom}
use Rattle.tx_model.specs.Changes.{is_in, added_parts, closed_under, closed_set, component_links}
use Rattle.tx_sweep.specs.Sweep.{keeps}

-- ---- one pass

pub is_in-first : (x : ℕ) (set : List ℕ) → is_in (x ∷ set) x ≡ true
is_in-first x set = or_left (nat_eq x x) (is_in set x) (eq-eqb x x refl)

added_stay : (links : List (ℕ × ℕ)) (set : List ℕ) (x : ℕ) → is_in set x ≡ true → is_in (added_parts links set) x ≡ true
added_stay [] set x inside = inside
added_stay (link ∷ links) set x inside =
    go (is_in set link.0 && not (is_in set link.1)) (added_stay links (link.1 ∷ set) x (or_right (nat_eq x link.1) (is_in set x) inside))
    (added_stay links set x inside)
  where
    go : (b : Bool) → is_in (added_parts links (link.1 ∷ set)) x ≡ true → is_in (added_parts links set) x ≡ true
        → is_in (cond b (added_parts links (link.1 ∷ set)) (added_parts links set)) x ≡ true
    go true more same = more
    go false more same = same

-- a pass over a closed set adds nothing
added_none : (links : List (ℕ × ℕ)) (set : List ℕ) → keeps (is_in set) links ≡ true → added_parts links set ≡ set
added_none [] set closed = refl
added_none (link ∷ links) set closed =
    let parts = and_parts (not (is_in set link.0) || is_in set link.1) (keeps (is_in set) links) closed in
    go (is_in set link.0) (is_in set link.1) parts.0 (added_none links set parts.1)
  where
    go : (a b : Bool) → (not a || b) ≡ true → added_parts links set ≡ set
        → cond (a && not b) (added_parts links (link.1 ∷ set)) (added_parts links set) ≡ set
    go true true stays rest = rest
    go true false stays rest = absurd (true≢false (sym stays))
    go false true stays rest = rest
    go false false stays rest = rest

-- the link leads to what the second test has and the first has not
abbrev gains : (ℕ → Bool) → (ℕ → Bool) → List (ℕ × ℕ) → Bool
gains has more links = list_any (λ (link : ℕ × ℕ). not (has link.1) && more link.1) links

-- a pass over another set adds something
added_some : (links : List (ℕ × ℕ)) (set : List ℕ) → keeps (is_in set) links ≡ false
    → gains (is_in set) (is_in (added_parts links set)) links ≡ true
added_some [] set open_ = absurd (true≢false open_)
added_some (link ∷ links) set open_ =
    go (is_in set link.0) (is_in set link.1) refl open_ (added_stay links (link.1 ∷ set) link.1 (is_in-first link.1 set))
    (added_some links set)
  where
    go : (a b : Bool) → is_in set link.1 ≡ b → ((not a || b) && keeps (is_in set) links) ≡ false
        → is_in (added_parts links (link.1 ∷ set)) link.1 ≡ true
        → (keeps (is_in set) links ≡ false → gains (is_in set) (is_in (added_parts links set)) links ≡ true)
        → gains (is_in set) (is_in (cond (a && not b) (added_parts links (link.1 ∷ set)) (added_parts links set))) (link ∷ links) ≡ true
    go true false is still new next = or_left _ _ (and_from _ _ (ap not is) new)
    go true true is still new next = or_right _ _ (next still)
    go false true is still new next = or_right _ _ (next still)
    go false false is still new next = or_right _ _ (next still)

-- ---- the passes are enough

-- how many links lead to what does not pass
abbrev out : (ℕ → Bool) → List (ℕ × ℕ) → ℕ
out has [] = 0
out has (link ∷ links) = cond (has link.1) (out has links) (out has links + 1)

out-le : (has : ℕ → Bool) (links : List (ℕ × ℕ)) → out has links ≤ length links
out-le has [] = omega arith
out-le has (link ∷ links) = go (has link.1) (out-le has links)
  where
    go : (b : Bool) → out has links ≤ length links → cond b (out has links) (out has links + 1) ≤ length (link ∷ links)
    go true rest = omega arith
    go false rest = omega arith

out-grows : (has more : ℕ → Bool) → ((x : ℕ) → has x ≡ true → more x ≡ true) → (links : List (ℕ × ℕ)) → out more links ≤ out has links
out-grows has more grows [] = omega arith
out-grows has more grows (link ∷ links) = go (has link.1) refl (more link.1) refl (out-grows has more grows links)
  where
    go : (a : Bool) → has link.1 ≡ a → (b : Bool) → more link.1 ≡ b → out more links ≤ out has links
        → cond b (out more links) (out more links + 1) ≤ cond a (out has links) (out has links + 1)
    go true is true also rest = rest
    go true is false also rest = absurd (true≢false (sym (grows link.1 is) ∙ also))
    go false is true also rest = omega arith
    go false is false also rest = omega arith

out-gains : (has more : ℕ → Bool) → ((x : ℕ) → has x ≡ true → more x ≡ true) → (links : List (ℕ × ℕ)) → gains has more links ≡ true
    → out more links + 1 ≤ out has links
out-gains has more grows [] some = absurd (true≢false (sym some))
out-gains has more grows (link ∷ links) some =
    go (has link.1) refl (more link.1) refl some (out-grows has more grows links) (out-gains has more grows links)
  where
    go : (a : Bool) → has link.1 ≡ a → (b : Bool) → more link.1 ≡ b → ((not a && b) || gains has more links) ≡ true
        → out more links ≤ out has links → (gains has more links ≡ true → out more links + 1 ≤ out has links)
        → cond b (out more links) (out more links + 1) + 1 ≤ cond a (out has links) (out has links + 1)
    go true is true also some rest next = next some
    go true is false also some rest next = absurd (true≢false (sym (grows link.1 is) ∙ also))
    go false is true also some rest next = omega arith
    go false is false also some rest next = let fewer : out more links + 1 ≤ out has links = next some in omega arith

none_out : (has : ℕ → Bool) (links : List (ℕ × ℕ)) → out has links ≤ 0 → keeps has links ≡ true
none_out has [] few = refl
none_out has (link ∷ links) few = go (has link.1) refl few (none_out has links)
  where
    go : (b : Bool) → has link.1 ≡ b → cond b (out has links) (out has links + 1) ≤ 0 → (out has links ≤ 0 → keeps has links ≡ true)
        → keeps has (link ∷ links) ≡ true
    go true is few next = and_from _ _ (or_right (not (has link.0)) (has link.1) is) (next few)
    go false is few next = absurd (omega (arith, few))

closed_same : (passes links : List (ℕ × ℕ)) (set : List ℕ) → keeps (is_in set) links ≡ true → closed_under passes links set ≡ set
closed_same [] links set closed = refl
closed_same (p ∷ passes) links set closed =
    ap (closed_under passes links) (added_none links set closed) ∙ closed_same passes links set closed

closed_enough : (passes links : List (ℕ × ℕ)) (set : List ℕ) → out (is_in set) links ≤ length passes
    → keeps (is_in (closed_under passes links set)) links ≡ true
closed_enough [] links set few = none_out (is_in set) links few
closed_enough (p ∷ passes) links set few = go (keeps (is_in set) links) refl (closed_enough passes links (added_parts links set))
  where
    go : (b : Bool) → keeps (is_in set) links ≡ b
        → (out (is_in (added_parts links set)) links ≤ length passes
        → keeps (is_in (closed_under passes links (added_parts links set))) links ≡ true)
        → keeps (is_in (closed_under passes links (added_parts links set))) links ≡ true
    go true is next =
        subst (λ s. keeps (is_in s) links ≡ true)
        (sym (ap (closed_under passes links) (added_none links set is) ∙ closed_same passes links set is)) is
    go false is next =
        let fewer : out (is_in (added_parts links set)) links + 1 ≤ out (is_in set) links =
        out-gains (is_in set) (is_in (added_parts links set)) (λ x. added_stay links set x) links (added_some links set is) in
        next (omega (arith, few))

-- ---- what the closed set is

closed_stay : (passes links : List (ℕ × ℕ)) (set : List ℕ) (x : ℕ) → is_in set x ≡ true → is_in (closed_under passes links set) x ≡ true
closed_stay [] links set x inside = inside
closed_stay (p ∷ passes) links set x inside = closed_stay passes links (added_parts links set) x (added_stay links set x inside)

pub closed_set-itself : (facts : List Datom) (e : ℕ) → is_in (closed_set facts e) e ≡ true
closed_set-itself facts e = closed_stay (component_links facts) (component_links facts) (e ∷ []) e (is_in-first e [])

pub closed_set-closed : (facts : List Datom) (e : ℕ) → keeps (is_in (closed_set facts e)) (component_links facts) ≡ true
closed_set-closed facts e =
    closed_enough (component_links facts) (component_links facts) (e ∷ []) (out-le (is_in (e ∷ [])) (component_links facts))

-- ---- it is the least one

added_within : (passes : ℕ → Bool) (links : List (ℕ × ℕ)) (set : List ℕ) → keeps passes links ≡ true
    → ((x : ℕ) → is_in set x ≡ true → passes x ≡ true)
    → (x : ℕ) → is_in (added_parts links set) x ≡ true → passes x ≡ true
added_within passes [] set kept within x inside = within x inside
added_within passes (link ∷ links) set kept within x inside =
    let parts = and_parts (not (passes link.0) || passes link.1) (keeps passes links) kept in
    go (is_in set link.0) refl (is_in set link.1) parts.0 inside (λ s inner. added_within passes links s parts.1 inner x)
  where
    through : (p q : Bool) → (not p || q) ≡ true → p ≡ true → q ≡ true
    through true true link_kept is = refl
    through true false link_kept is = absurd (true≢false (sym link_kept))
    through false q link_kept is = absurd (true≢false (sym is))

    one : passes link.1 ≡ true → (y : ℕ) → (b : Bool) → nat_eq y link.1 ≡ b → (b || is_in set y) ≡ true → passes y ≡ true
    one new y true same inner = subst (λ z. passes z ≡ true) (sym (eqb-true y link.1 same)) new
    one new y false same inner = within y inner

    go : (a : Bool) → is_in set link.0 ≡ a → (b : Bool) → (not (passes link.0) || passes link.1) ≡ true
        → is_in (cond (a && not b) (added_parts links (link.1 ∷ set)) (added_parts links set)) x ≡ true
        → ((s : List ℕ) → ((y : ℕ) → is_in s y ≡ true → passes y ≡ true) → is_in (added_parts links s) x ≡ true → passes x ≡ true)
        → passes x ≡ true
    go true is false link_kept inner next =
        next (link.1 ∷ set)
        (λ y has. one (through (passes link.0) (passes link.1) link_kept (within link.0 is)) y (nat_eq y link.1) refl has) inner
    go true is true link_kept inner next = next set within inner
    go false is true link_kept inner next = next set within inner
    go false is false link_kept inner next = next set within inner

closed_within : (passes : ℕ → Bool) (rounds links : List (ℕ × ℕ)) (set : List ℕ) → keeps passes links ≡ true
    → ((x : ℕ) → is_in set x ≡ true → passes x ≡ true)
    → (x : ℕ) → is_in (closed_under rounds links set) x ≡ true → passes x ≡ true
closed_within passes [] links set kept within x inside = within x inside
closed_within passes (r ∷ rounds) links set kept within x inside =
    closed_within passes rounds links (added_parts links set) kept (added_within passes links set kept within) x inside

-- what has the entity, and no link leaves, has the closed set
pub closed_set-least : (facts : List Datom) (e : ℕ) (passes : ℕ → Bool) → keeps passes (component_links facts) ≡ true → passes e ≡ true
    → (x : ℕ) → is_in (closed_set facts e) x ≡ true → passes x ≡ true
closed_set-least facts e passes kept first =
    closed_within passes (component_links facts) (component_links facts) (e ∷ []) kept (λ x inside. one x (nat_eq x e) refl inside)
  where
    one : (x : ℕ) (b : Bool) → nat_eq x e ≡ b → (b || false) ≡ true → passes x ≡ true
    one x true same inside = subst (λ z. passes z ≡ true) (sym (eqb-true x e same)) first
    one x false same inside = absurd (true≢false (sym inside))
