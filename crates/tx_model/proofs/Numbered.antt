-- The numbers, attributes and values of what a transaction records, where it breaks no rule.
use Rattle.std.proofs.Common.{◌≡◌, ℕ, ◌+◌, Bool, true, false, cond, List, [], ◌∷◌, refl, ap, sym, ◌∙◌, subst, inl, inr, ◌⊎◌, Option, Some}
use Rattle.std.proofs.Common.{None}
use Rattle.std.specs.Prelude.{Contains, flat_map, is_none}
use Rattle.std.specs.List.{list_any}
use Rattle.std.specs.Cmp.Lexicographic.{bytes_decides}
use Rattle.std.proofs.lemmas.Bool.{true≢false, or_cases}
use Rattle.fb_numbers.specs.Numbers.{user_entity}
use Rattle.fb_model.specs.History.{users_issued}
use Rattle.tx_model.specs.Asks.{Name, number, ident, lookup, tempid, nameless, Ask, is_tempid, is_same_tempid, names_of}
use Rattle.tx_model.specs.Tempids.{Db, met_after, is_among, tempids_in, number_next, number_from, assigned, assigned_to, holders}
use Rattle.tx_model.proofs.Lists.{first_of, later_of, which, not_in_none}
use Rattle.tx_model.proofs.Assigned.{is_same_tempid-true}

-- ---- lists and options

some_is : {A : Type 0} (x y : A) → Some x ≡ Some y → x ≡ y
some_is x y same = cc

pub record PassesSome {A : Type 0} (q : A → Bool) (xs : List A) : Type 0 where
  pub element : A
  pub among : Contains xs element
  pub passes : q element ≡ true

pub some_passes : {A : Type 0} (q : A → Bool) (xs : List A) → list_any q xs ≡ true → PassesSome q xs
some_passes q [] some = absurd (true≢false (sym some))
some_passes q (x ∷ xs) some =
    let next : list_any q xs ≡ true → PassesSome q (x ∷ xs) =
    λ more. let rest = some_passes q xs more in
    record { element = rest.element; among = later_of x rest.element xs rest.among; passes = rest.passes } in
    elim (or_cases (q x) (list_any q xs) some) [
      | inl here ↦ record { element = x; among = first_of x xs; passes = here }
      | inr more ↦ next more
    ]

pub record IsThere {A : Type 0} (o : Option A) : Type 0 where
  pub value : A
  pub is : o ≡ Some value

pub there_is : {A : Type 0} (o : Option A) → is_none o ≡ false → IsThere o
there_is None not_none = absurd (true≢false not_none)
there_is (Some x) not_none = record { value = x; is = refl }

-- ---- each tempid that is met has an entity

data IsMetBefore (before names : List Name) (name : Name) : Type 0 where
  was_before : is_among before name ≡ true → IsMetBefore before names name
  is_met : (other : Name) → Contains (met_after before names) other → is_same_tempid other name ≡ true → IsMetBefore before names name

same_sym : (a b : Name) → is_same_tempid a b ≡ true → is_same_tempid b a ≡ true
same_sym a b same =
    subst (λ x. is_same_tempid b x ≡ true) (sym (is_same_tempid-true a b same))
    (subst (λ x. is_same_tempid x b ≡ true) (is_same_tempid-true a b same) same)

itself : (name : Name) → is_tempid name ≡ true → is_same_tempid name name ≡ true
itself (tempid s) is = (bytes_decides s s).1 refl
itself (nameless path) is = (bytes_decides path path).1 refl
itself (number z) is = absurd (true≢false (sym is))
itself (ident k) is = absurd (true≢false (sym is))
itself (lookup k v) is = absurd (true≢false (sym is))

met : (before names : List Name) (name : Name) → is_tempid name ≡ true → Contains names name → IsMetBefore before names name
met before [] name is member = absurd (not_in_none name member)
met before (first ∷ names) name is member =
    go (is_tempid first) (is_among before first) refl refl (which first name names member) (met (first ∷ before) names name is)
    (met before names name is)
  where
    keep_new : IsMetBefore (first ∷ before) names name → (is_same_tempid name first ≡ true → IsMetBefore before (first ∷ names) name)
        → Contains (met_after before (first ∷ names)) first ⊎ Unit {0}
        → ((other : Name) → Contains (met_after (first ∷ before) names) other → Contains (met_after before (first ∷ names)) other)
        → IsMetBefore before (first ∷ names) name
    keep_new (was_before among) now unused widen =
        elim (or_cases (is_same_tempid name first) (is_among before name) among) [ inl same ↦ now same | inr earlier ↦ was_before earlier ]
    keep_new (is_met other has same) now unused widen = is_met other (widen other has) same

    go : (t b : Bool) → is_tempid first ≡ t → is_among before first ≡ b → (first ≡ name) ⊎ Contains names name
        → (Contains names name → IsMetBefore (first ∷ before) names name) → (Contains names name → IsMetBefore before names name)
        → IsMetBefore before (first ∷ names) name
    go true false t_is b_is which_one more same =
        pick which_one
      where
        here_met : met_after before (first ∷ names) ≡ first ∷ met_after (first ∷ before) names
        here_met = rw (t_is, b_is) refl

        now : is_same_tempid first name ≡ true → IsMetBefore before (first ∷ names) name
        now alike = is_met first (subst (λ l. Contains l first) (sym here_met) (first_of first (met_after (first ∷ before) names))) alike

        pick : (first ≡ name) ⊎ Contains names name → IsMetBefore before (first ∷ names) name
        pick (inl is_first) = now (subst (λ n. is_same_tempid first n ≡ true) is_first (itself first t_is))
        pick (inr later) = keep_new (more later) (λ alike. now (same_sym name first alike)) (inr tt)
            (λ other has. subst (λ l. Contains l other) (sym here_met) (later_of first other (met_after (first ∷ before) names) has))
    go true true t_is b_is which_one more same = pick which_one
      where
        here_met : met_after before (first ∷ names) ≡ met_after before names
        here_met = rw (t_is, b_is) refl

        pick : (first ≡ name) ⊎ Contains names name → IsMetBefore before (first ∷ names) name
        pick (inl is_first) = was_before (subst (λ n. is_among before n ≡ true) is_first b_is)
        pick (inr later) = widen (same later)
          where
            widen : IsMetBefore before names name → IsMetBefore before (first ∷ names) name
            widen (was_before among) = was_before among
            widen (is_met other has alike) = is_met other (subst (λ l. Contains l other) (sym here_met) has) alike
    go false b t_is b_is which_one more same = pick which_one
      where
        here_met : met_after before (first ∷ names) ≡ met_after before names
        here_met = rw t_is refl

        pick : (first ≡ name) ⊎ Contains names name → IsMetBefore before (first ∷ names) name
        pick (inl is_first) = absurd (true≢false (sym is ∙ ap is_tempid (sym is_first) ∙ t_is))
        pick (inr later) = widen (same later)
          where
            widen : IsMetBefore before names name → IsMetBefore before (first ∷ names) name
            widen (was_before among) = was_before among
            widen (is_met other has alike) = is_met other (subst (λ l. Contains l other) (sym here_met) has) alike

number_some : (db : Db) (asks : List Ask) (names : List Name) (n : ℕ) (other name : Name) → Contains names other
    → is_same_tempid other name ≡ true → IsThere (assigned_to (number_from db asks names n) name)
number_some db asks [] n other name member same = absurd (not_in_none other member)
number_some db asks (first ∷ names) n other name member same =
    go (holders db asks first) (is_same_tempid first name) refl (which first other names member)
    (λ later. number_some db asks names (n + 1) other name later same) (λ later. number_some db asks names n other name later same)
  where
    pick : (b : Bool) (e : ℕ) (rest : Option ℕ) → is_same_tempid first name ≡ b → (first ≡ other) ⊎ Contains names other
        → (Contains names other → IsThere rest) → IsThere (cond b (Some e) rest)
    pick true e rest is which_one next = record { value = e; is = refl }
    pick false e rest is (inr later) next = next later
    pick false e rest is (inl is_other) next = absurd (true≢false (sym same ∙ ap (λ x. is_same_tempid x name) (sym is_other) ∙ is))

    go : (hs : List ℕ) (b : Bool) → is_same_tempid first name ≡ b → (first ≡ other) ⊎ Contains names other
        → (Contains names other → IsThere (assigned_to (number_from db asks names (n + 1)) name))
        → (Contains names other → IsThere (assigned_to (number_from db asks names n) name))
        → IsThere (assigned_to (number_next first n hs (λ next. number_from db asks names next)) name)
    go [] b is which_one next also = pick (is_same_tempid first name) (user_entity (n + 1)) _ refl which_one next
    go (e ∷ es) b is which_one next also = pick (is_same_tempid first name) e _ refl which_one also

pub assigned_some : (db : Db) (asks : List Ask) (name : Name) → is_tempid name ≡ true → Contains (flat_map names_of asks) name
    → IsThere (assigned_to (assigned db asks) name)
assigned_some db asks name is member = go (met [] (flat_map names_of asks) name is member)
  where
    go : IsMetBefore [] (flat_map names_of asks) name → IsThere (assigned_to (assigned db asks) name)
    go (was_before among) = absurd (true≢false (sym among))
    go (is_met other has same) = number_some db asks (tempids_in asks) (users_issued db.history) other name has same
