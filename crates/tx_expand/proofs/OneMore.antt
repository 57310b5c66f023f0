-- One form more of a transaction.
use Rattle.std.proofs.Common.{◌≡◌, ℕ, ◌+◌, Bool, true, false, List, [], ◌∷◌, ◌++◌, map, cond, refl, ap, ◌∙◌}
use Rattle.std.specs.Prelude.{Option, Some, None, is_none}
use Rattle.std.proofs.lemmas.Bool.{false≢true}
use Rattle.fb_values.specs.declared.facts.Datom.{Datom}
use Rattle.tx_model.specs.Asks.{Ask}
use Rattle.tx_expand.specs.declared.firsts.Firsts.{Firsts}
use Rattle.tx_expand.specs.Faults.{form_faults}
use Rattle.tx_expand.specs.Rules.{first_unknown, firsts_from, earlier, earlier_ones, place_if, firsts_of}

pub no_some : {A B : Type 0} {x : A} → Some x ≡ None → B
no_some {B = B} same = absurd (false≢true (ap (λ o. is_none o) same))

pub known_behind : (facts : List Datom) (n : ℕ) (asks : List Ask) (more : List (List Ask)) → (form_faults facts asks).unknown ≡ false
    → first_unknown facts n (asks ∷ more) ≡ first_unknown facts (n + 1) more
known_behind facts n asks more known = ap (λ b. cond b (Some n) (first_unknown facts (n + 1) more)) known

pub unknown_here : (facts : List Datom) (n : ℕ) (asks : List Ask) (more : List (List Ask)) → (form_faults facts asks).unknown ≡ true
    → first_unknown facts n (asks ∷ more) ≡ Some n
unknown_here facts n asks more known = ap (λ b. cond b (Some n) (first_unknown facts (n + 1) more)) known

one_earlier : (first : Option ℕ) (b : Bool) (n : ℕ) (rest : Option ℕ)
    → earlier (earlier first (place_if b n)) rest ≡ earlier first (cond b (Some n) rest)
one_earlier None true n rest = refl
one_earlier None false n rest = refl
one_earlier (Some m) b n rest = refl

all_four : {a b c d : Option ℕ} (w x y z : Option ℕ) → a ≡ w → b ≡ x → c ≡ y → d ≡ z
    → ◌≡◌ {A = Firsts} (record { protected = a; wrong = b; not_unique = c; lacking = d })
    (record { protected = w; wrong = x; not_unique = y; lacking = z })
all_four {a} {b} {c} {d} w x y z p q r s =
    ap (λ i. record { protected = i; wrong = b; not_unique = c; lacking = d }) p
    ∙ ap (λ i. record { protected = w; wrong = i; not_unique = c; lacking = d }) q
    ∙ ap (λ i. record { protected = w; wrong = x; not_unique = i; lacking = d }) r
    ∙ ap (λ i. record { protected = w; wrong = x; not_unique = y; lacking = i }) s

pub firsts_behind : (facts : List Datom) (firsts : Firsts) (n : ℕ) (asks : List Ask) (more : List (List Ask))
    → earlier_ones (earlier_ones firsts (firsts_of (form_faults facts asks) n)) (firsts_from facts (n + 1) more)
    ≡ earlier_ones firsts (firsts_from facts n (asks ∷ more))
firsts_behind facts firsts n asks more =
    let found = form_faults facts asks in
    let rest = firsts_from facts (n + 1) more in
    all_four (earlier firsts.protected (cond found.protected (Some n) rest.protected))
    (earlier firsts.wrong (cond found.wrong (Some n) rest.wrong))
    (earlier firsts.not_unique (cond found.not_unique (Some n) rest.not_unique))
    (earlier firsts.lacking (cond found.lacking (Some n) rest.lacking))
    (one_earlier firsts.protected found.protected n rest.protected) (one_earlier firsts.wrong found.wrong n rest.wrong)
    (one_earlier firsts.not_unique found.not_unique n rest.not_unique) (one_earlier firsts.lacking found.lacking n rest.lacking)

pub map_then : {A B : Type 0} (f : A → B) (xs : List A) (x : A) (ys : List B) → map f (xs ++ x ∷ []) ++ ys ≡ map f xs ++ (f x ∷ ys)
map_then f [] x ys = refl
map_then f (z ∷ xs) x ys = ap (λ rest. f z ∷ rest) (map_then f xs x ys)

earlier_none : (first : Option ℕ) → earlier first None ≡ first
earlier_none None = refl
earlier_none (Some n) = refl

pub firsts_at_end : (facts : List Datom) (firsts : Firsts) (n : ℕ) → earlier_ones firsts (firsts_from facts n []) ≡ firsts
firsts_at_end facts firsts n =
    all_four firsts.protected firsts.wrong firsts.not_unique firsts.lacking
    (earlier_none firsts.protected) (earlier_none firsts.wrong) (earlier_none firsts.not_unique) (earlier_none firsts.lacking)

pub append_none : {A : Type 0} (xs : List A) → xs ++ [] ≡ xs
append_none [] = refl
append_none (x ∷ xs) = ap (λ rest. x ∷ rest) (append_none xs)
