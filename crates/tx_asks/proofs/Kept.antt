-- Asks that ask for nothing, left out.
use Rattle.std.proofs.Common.{◌≡◌, refl, sym, ap, ◌∙◌, ℕ, ◌+◌, Bool, true, false, cond, List, [], ◌∷◌, ◌++◌, map, filter, filter_map}
use Rattle.std.proofs.Common.{flat_map}
use Rattle.std.proofs.lemmas.Bool.{true≢false}
use Rattle.std.specs.Prelude.{Option, None}
use Rattle.std.proofs.lemmas.List.Elements.{filter-append}
use Rattle.std.specs.List.{cons_option}
use Rattle.tx_model.specs.Asks as asks
use Rattle.tx_model.specs.Asks.{Name, Ask, names_of}
use Rattle.tx_model.specs.Tempids.{Db, tempids_in, met_after, holders, identified, assigned, number_from, number_next}
use Rattle.tx_model.specs.Transaction.{joined}
use Rattle.fb_model.specs.History.{users_issued}
use Rattle.fb_numbers.specs.Numbers.{user_entity}
use Rattle.tx_asks.specs.Asks.{matters}

pub no_names : (ask : Ask) → matters ask ≡ false → names_of ask ≡ []
no_names (asks.mentions k) same = refl
no_names asks.lacks_id same = refl
no_names (asks.adds name k part) same = absurd (true≢false same)
no_names (asks.retracts name k part) same = absurd (true≢false same)
no_names (asks.retracts_all name k) same = absurd (true≢false same)
no_names (asks.compares name k old new) same = absurd (true≢false same)
no_names (asks.retracts_entity name) same = absurd (true≢false same)
no_names (asks.meets name) same = absurd (true≢false same)

identifies_none : (db : Db) (name : Name) (ask : Ask) → matters ask ≡ false → identified db name ask ≡ None
identifies_none db name (asks.mentions k) same = refl
identifies_none db name asks.lacks_id same = refl
identifies_none db name (asks.adds other k part) same = absurd (true≢false same)
identifies_none db name (asks.retracts other k part) same = absurd (true≢false same)
identifies_none db name (asks.retracts_all other k) same = absurd (true≢false same)
identifies_none db name (asks.compares other k old new) same = absurd (true≢false same)
identifies_none db name (asks.retracts_entity other) same = absurd (true≢false same)
identifies_none db name (asks.meets other) same = absurd (true≢false same)

-- what gives nothing can be left out
at_head : {A B : Type 0} (f : A → List B) (test : A → Bool) (x : A) (xs : List A) (b : Bool) → (b ≡ false → f x ≡ [])
    → flat_map f (filter test xs) ≡ flat_map f xs
    → flat_map f (cond b (x ∷ filter test xs) (filter test xs)) ≡ f x ++ flat_map f xs
at_head f test x xs true none same = ap (λ r. f x ++ r) same
at_head f test x xs false none same = same ∙ ap (λ r. r ++ flat_map f xs) (sym (none refl))

left_out : {A B : Type 0} (f : A → List B) (test : A → Bool)
    → ((x : A) → test x ≡ false → f x ≡ []) → (xs : List A) → flat_map f (filter test xs) ≡ flat_map f xs
left_out f test none [] = refl
left_out f test none (x ∷ xs) = at_head f test x xs (test x) (none x) (left_out f test none xs)

filter_map_of : {A B : Type 0} (f : A → Option B) (x : A) (xs ys : List A) → filter_map f xs ≡ filter_map f ys
    → filter_map f (x ∷ xs) ≡ filter_map f (x ∷ ys)
filter_map_of f x xs ys same = ap (cons_option (f x)) same

head_none : {A B : Type 0} (f : A → Option B) (x : A) (xs : List A) → f x ≡ None → filter_map f (x ∷ xs) ≡ filter_map f xs
head_none f x xs none = ap (λ o. cons_option o (filter_map f xs)) none

with_head : {A B : Type 0} (f : A → Option B) (test : A → Bool) (x : A) (xs : List A) (b : Bool) → (b ≡ false → f x ≡ None)
    → filter_map f (filter test xs) ≡ filter_map f xs
    → filter_map f (cond b (x ∷ filter test xs) (filter test xs)) ≡ filter_map f (x ∷ xs)
with_head f test x xs true none same = filter_map_of f x (filter test xs) xs same
with_head f test x xs false none same = same ∙ sym (head_none f x xs (none refl))

passed_over : {A B : Type 0} (f : A → Option B) (test : A → Bool)
    → ((x : A) → test x ≡ false → f x ≡ None) → (xs : List A) → filter_map f (filter test xs) ≡ filter_map f xs
passed_over f test none [] = refl
passed_over f test none (x ∷ xs) = with_head f test x xs (test x) (none x) (passed_over f test none xs)

pub same_tempids : (list : List Ask) → tempids_in (filter matters list) ≡ tempids_in list
same_tempids list = ap (met_after []) (left_out names_of matters no_names list)

pub same_holders : (db : Db) (list : List Ask) (name : Name) → holders db (filter matters list) name ≡ holders db list name
same_holders db list name = passed_over (identified db name) matters (identifies_none db name) list

next_same : (name : Name) (n : ℕ) (es others : List ℕ) (rest more : ℕ → List (Name × ℕ)) → es ≡ others → ((n : ℕ) → rest n ≡ more n)
    → number_next name n es rest ≡ number_next name n others more
next_same name n [] others rest more same are =
    ap (λ r. (name, user_entity (n + 1)) ∷ r) (are (n + 1)) ∙ ap (λ l. number_next name n l more) same
next_same name n (e ∷ es) others rest more same are = ap (λ r. (name, e) ∷ r) (are n) ∙ ap (λ l. number_next name n l more) same

numbers_same : (db : Db) (list : List Ask) (names : List Name) (n : ℕ)
    → number_from db (filter matters list) names n ≡ number_from db list names n
numbers_same db list [] n = refl
numbers_same db list (name ∷ names) n =
    next_same name n (holders db (filter matters list) name) (holders db list name) _ _ (same_holders db list name)
    (λ next. numbers_same db list names next)

pub same_assigned : (db : Db) (list : List Ask) → assigned db (filter matters list) ≡ assigned db list
same_assigned db list =
    ap (λ names. number_from db (filter matters list) names (users_issued db.history)) (same_tempids list)
    ∙ numbers_same db list (tempids_in list) (users_issued db.history)

pub same_joined : (lists : List (List Ask)) → joined (map (filter matters) lists) ≡ filter matters (joined lists)
same_joined [] = refl
same_joined (list ∷ lists) = ap (λ r. filter matters list ++ r) (same_joined lists) ∙ sym (filter-append matters list (joined lists))
