-- How many user entities a lawful history has.
use Rattle.std.proofs.Common.{◌≡◌, ℕ, suc, ◌+◌, ◌*◌, ◌^◌, ◌<◌, ◌≤◌, Bool, true, false, cond, ◌&&◌, ◌||◌, List, [], ◌∷◌, ◌++◌, length, arith}
use Rattle.std.proofs.Common.{eqb, leb, ltb}
use Rattle.std.specs.List.{list_all}
use Rattle.std.proofs.lemmas.Bool.{and_parts, eqb-true, leb-true}
use Rattle.std.proofs.lemmas.Bool.Decides.{nat_tests}
use Rattle.fb_values.specs.declared.facts.Datom.{Datom}
use Rattle.fb_values.specs.declared.facts.Entry.{Entry}
use Rattle.fb_numbers.specs.Numbers.{transaction_of, user_entity, user_number, is_builtin, greatest_t, most_datoms, is_reference}
use Rattle.fb_model.specs.History.{basis, users_in, users_issued}
use Rattle.fb_model.specs.Laws.{is_asserted, users_behind, users_after, is_known, is_known_value}
use Rattle.fb_model.specs.Lawful.{IsLawful, IsLawfulAfter}
use Rattle.fb_model.proofs.Invariants.{of_lawful}
use Rattle.fb_model.proofs.OneMoreEntry.{basis-push, users_issued-push}

-- each new user entity is that of a datom
behind_at_most : (more ds : List Datom) (n : ℕ) → users_behind more ds n ≤ n + length more
behind_at_most [] ds n = omega arith
behind_at_most (_ ∷ more) ds n = go (is_asserted ds (user_entity (n + 1))) (behind_at_most more ds (n + 1))
  where
    go : (b : Bool) → users_behind more ds (n + 1) ≤ n + 1 + length more → cond b (users_behind more ds (n + 1)) n ≤ n + suc (length more)
    go true below = omega (arith, below)
    go false below = omega arith

builtin_small : (e : ℕ) → is_builtin e ≡ true → e < 100
builtin_small e builtin = grind (arith, nat_tests)

-- a known number is at most that of the last user entity
known_number : (b t u n e : ℕ) → t ≤ greatest_t → b ≤ t → u ≤ n
    → (is_builtin e || (leb (transaction_of 0) e && leb e (transaction_of b)) || (leb (user_entity 1) e && leb e (user_entity u))
    || eqb e (transaction_of t) || (leb (user_entity 1) e && leb e (user_entity n))) ≡ true
    → user_number e ≤ n
known_number b t u n e small next fewer known = grind (arith, nat_tests, builtin_small)

users_at_most : (ds : List Datom) (test : Datom → Bool) (n : ℕ)
    → ((d : Datom) → test d ≡ true → user_number d.e ≤ n) → list_all test ds ≡ true → users_in ds ≤ n
users_at_most [] test n each all = omega arith
users_at_most (d ∷ ds) test n each all =
    let parts = and_parts (test d) (list_all test ds) all in
    let here = each d parts.0 in
    let rest = users_at_most ds test n each parts.1 in
    omega (arith, here, rest)

behind_at_least : (more ds : List Datom) (n : ℕ) → n ≤ users_behind more ds n
behind_at_least [] ds n = omega arith
behind_at_least (_ ∷ more) ds n = go (is_asserted ds (user_entity (n + 1))) (behind_at_least more ds (n + 1))
  where
    go : (b : Bool) → n + 1 ≤ users_behind more ds (n + 1) → n ≤ cond b (users_behind more ds (n + 1)) n
    go true above = omega (arith, above)
    go false above = omega arith

few_more : (h : List Entry) (entry : Entry) → IsLawfulAfter h entry → users_issued (h ++ entry ∷ []) ≤ users_issued h + most_datoms
few_more h entry next =
    let t_is = eqb-true entry.t (basis h + 1) (and_parts _ _ next.next_t).0 in
    let small = leb-true entry.t greatest_t (and_parts _ _ next.next_t).1 in
    let few = leb-true (length entry.datoms) most_datoms (and_parts _ _ next.datoms_in_order).1 in
    let new : users_in entry.datoms ≤ users_after h entry =
    users_at_most entry.datoms (λ d. is_known h entry d.e && is_known_value h entry d.v) (users_after h entry)
    (λ d known. known_number (basis h) entry.t (users_issued h) (users_after h entry) d.e small (omega (arith, t_is))
    (behind_at_least entry.datoms entry.datoms (users_issued h)) (and_parts _ _ known).0)
    next.known_numbers in
    omega (arith, new, few, behind_at_most entry.datoms entry.datoms (users_issued h), users_issued-push h entry)

pub few_users : (h : List Entry) → IsLawful h → users_issued h ≤ most_datoms * basis h
few_users =
    of_lawful (λ h. users_issued h ≤ most_datoms * basis h) (omega arith)
    (λ h entry lawful before next.
    let t_is = eqb-true entry.t (basis h + 1) (and_parts _ _ next.next_t).0 in
    omega (arith, few_more h entry next, before, t_is, basis-push h entry))

pub basis_small : (h : List Entry) → IsLawful h → basis h ≤ greatest_t
basis_small =
    of_lawful (λ h. basis h ≤ greatest_t) (omega arith)
    (λ h entry lawful before next.
    let small = leb-true entry.t greatest_t (and_parts _ _ next.next_t).1 in
    omega (arith, small, basis-push h entry))

pub users_fit : (h : List Entry) → IsLawful h → users_issued h < 2 ^ 47
users_fit h lawful = omega (arith, few_users h lawful, basis_small h lawful)

-- ---- numbers of entities are in the range of references

number_small : (b t u v n : ℕ) → b ≤ greatest_t → t ≤ greatest_t → u < 2 ^ 47 → v ≤ u + most_datoms
    → (is_builtin n || (leb (transaction_of 0) n && leb n (transaction_of b)) || (leb (user_entity 1) n && leb n (user_entity u))
    || eqb n (transaction_of t) || (leb (user_entity 1) n && leb n (user_entity v))) ≡ true
    → ltb n (2 ^ 64) ≡ true
number_small b t u v n basis_is t_is users more known = grind (arith, nat_tests, builtin_small)

pub known_small : (h : List Entry) (entry : Entry) (n : ℕ) → IsLawful h → entry.t ≤ greatest_t → length entry.datoms ≤ most_datoms
    → is_known h entry n ≡ true → is_reference n ≡ true
known_small h entry n lawful t_is few known =
    number_small (basis h) entry.t (users_issued h) (users_after h entry) n (basis_small h lawful) t_is (users_fit h lawful)
    (omega (arith, few, behind_at_most entry.datoms entry.datoms (users_issued h))) known
