-- What a history with one more entry says, and what it leaves as it was.
use Rattle.std.proofs.Common.{◌≡◌, ℕ, ◌+◌, ◌<◌, ◌≤◌, ℤ, pos, ◌+ℤ◌, Bool, true, false, cond, ◌||◌, List, [], ◌∷◌, ◌++◌, length, max, refl}
use Rattle.std.proofs.Common.{ap, ◌∙◌, arith, eqb}
use Rattle.std.proofs.lemmas.Bool.{true≢false}
use Rattle.std.specs.Prelude.{int_lt, int_le}
use Rattle.std.specs.List.{list_any}
use Rattle.std.specs.Int.{int_max, int_min}
use Rattle.std.proofs.lemmas.List.{take-append-le}
use Rattle.std.proofs.lemmas.Grind.{flat_map-append}
use Rattle.std.proofs.lemmas.List.Sums.{fold-append}
use Rattle.std.proofs.lemmas.Int.{ints}
use Rattle.std.proofs.lemmas.Bool.Decides.{nat_tests}
use Rattle.fb_values.specs.declared.facts.Datom.{Datom}
use Rattle.fb_values.specs.declared.facts.Entry.{Entry}
use Rattle.fb_values.specs.declared.facts.Value.{Value}
use Rattle.fb_numbers.specs.Numbers.{user_entity, least_instant, greatest_instant}
use Rattle.fb_model.specs.History.{basis, upto, last_instant, into_range, next_instant, said, users_in, users_issued}
use Rattle.fb_model.specs.Facts.{is_of, holds_after, holds}

-- ---- one more entry

pub basis-push : (h : List Entry) (entry : Entry) → basis (h ++ entry ∷ []) ≡ entry.t
basis-push h entry = fold-append (λ _ (entry : Entry). entry.t) 0 h (entry ∷ [])

pub last_instant-push : (h : List Entry) (entry : Entry) → last_instant (h ++ entry ∷ []) ≡ entry.instant
last_instant-push h entry = fold-append (λ _ (entry : Entry). entry.instant) (pos 0) h (entry ∷ [])

pub said-append : (h more : List Entry) → said (h ++ more) ≡ said h ++ said more
said-append h more = flat_map-append (λ (entry : Entry). entry.datoms) h more

append-nil : (ds : List Datom) → ds ++ [] ≡ ds
append-nil [] = refl
append-nil (d ∷ ds) = ap (λ rest. d ∷ rest) (append-nil ds)

pub said-push : (h : List Entry) (entry : Entry) → said (h ++ entry ∷ []) ≡ said h ++ entry.datoms
said-push h entry = said-append h (entry ∷ []) ∙ ap (λ ds. said h ++ ds) (append-nil entry.datoms)

-- the entries up to one that the shorter history has
pub upto-append : (h more : List Entry) (t : ℕ) → t < length h → upto (h ++ more) t ≡ upto h t
upto-append h more t within = take-append-le (t + 1) h more (omega arith)

-- ---- user numbers

pub users_in-append : (ds more : List Datom) → users_in (ds ++ more) ≡ max (users_in ds) (users_in more)
users_in-append [] more = omega arith
users_in-append (d ∷ ds) more = omega (arith, users_in-append ds more)

pub users_issued-push : (h : List Entry) (entry : Entry) → users_issued (h ++ entry ∷ []) ≡ max (users_issued h) (users_in entry.datoms)
users_issued-push h entry = ap users_in (said-push h entry) ∙ users_in-append (said h) entry.datoms

pub users_issued_grows : (h : List Entry) (entry : Entry) → users_issued h ≤ users_issued (h ++ entry ∷ [])
users_issued_grows h entry = omega (arith, users_issued-push h entry)

-- no datom has an entity above the greatest user number in use
pub unused_in : (ds : List Datom) (n : ℕ) → users_in ds < n → list_any (λ d. eqb d.e (user_entity n)) ds ≡ false
unused_in [] n above = refl
unused_in (d ∷ ds) n above =
    let later : list_any (λ d. eqb d.e (user_entity n)) ds ≡ false = unused_in ds n (omega arith) in
    grind (arith, nat_tests, later)

pub unused : (h : List Entry) (n : ℕ) → users_issued h < n → list_any (λ d. eqb d.e (user_entity n)) (said h) ≡ false
unused h n above = unused_in (said h) n above

-- ---- what holds

pub holds_after-append : (before : Bool) (ds more : List Datom) (e a : ℕ) (v : Value)
    → holds_after before (ds ++ more) e a v ≡ holds_after (holds_after before ds e a v) more e a v
holds_after-append before [] more e a v = refl
holds_after-append before (d ∷ ds) more e a v = holds_after-append (cond (is_of e a v d) d.added before) ds more e a v

pub holds-push : (h : List Entry) (entry : Entry) (e a : ℕ) (v : Value)
    → holds (h ++ entry ∷ []) e a v ≡ holds_after (holds h e a v) entry.datoms e a v
holds-push h entry e a v =
    ap (λ ds. holds_after false ds e a v) (said-push h entry) ∙ holds_after-append false (said h) entry.datoms e a v

both_false : (a b : Bool) → (a || b) ≡ false → (a ≡ false) × (b ≡ false)
both_false false false e = (refl, refl)
both_false false true e = absurd (true≢false e)
both_false true b e = absurd (true≢false e)

-- a triple whose entity no datom has stays as it was
pub holds_after-unused : (before : Bool) (ds : List Datom) (e a : ℕ) (v : Value) → list_any (λ d. eqb d.e e) ds ≡ false
    → holds_after before ds e a v ≡ before
holds_after-unused before [] e a v none = refl
holds_after-unused before (d ∷ ds) e a v none =
    let apart : (eqb d.e e ≡ false) × (list_any (λ d. eqb d.e e) ds ≡ false) = both_false _ _ none in
    rw apart.0 (holds_after-unused before ds e a v apart.1)

-- a new user entity has no facts
pub holds-unused : (h : List Entry) (n a : ℕ) (v : Value) → users_issued h < n → holds h (user_entity n) a v ≡ false
holds-unused h n a v above = holds_after-unused false (said h) (user_entity n) a v (unused h n above)

-- ---- the next instant

is_later : (x last : ℤ) → int_lt last (int_max x (last +ℤ pos 1)) ≡ true
is_later x last = grind (arith, ints)

kept_above : (low x y : ℤ) → int_le low x ≡ true → int_le low (int_max x y) ≡ true
kept_above low x y above = grind (arith, ints)

clamped : (low high x : ℤ) → int_le low high ≡ true → int_le low (int_min (int_max x low) high) ≡ true
clamped low high x ordered = grind (arith, ints)

pub next_instant-later : (h : List Entry) (reading : ℤ) → int_lt (last_instant h) (next_instant h reading) ≡ true
next_instant-later h reading = is_later (into_range reading) (last_instant h)

pub next_instant-at_least : (h : List Entry) (reading : ℤ) → int_le least_instant (next_instant h reading) ≡ true
next_instant-at_least h reading =
    kept_above least_instant (into_range reading) (last_instant h +ℤ pos 1) (clamped least_instant greatest_instant reading refl)
