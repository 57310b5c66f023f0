-- The t of a transaction's entity.
use Rattle.std.proofs.Common.{◌≡◌, ℕ, ◌-◌, ◌<◌, ◌≤◌, Bool, true, false, ◌&&◌, cond, refl, sym, ◌∙◌, arith, leb, Option, Some, None, IfSome}
use Rattle.std.proofs.lemmas.Bool.{true≢false, and_parts, and_from, le-leb, leb-true}
use Rattle.fb_numbers.specs.Numbers.{transaction_of, greatest_t}
use Rattle.read_model.specs.Points.{t_of}

abbrev is_transaction : ℕ → Bool
is_transaction n = leb (transaction_of 0) n && leb n (transaction_of greatest_t)

none_there : (n : ℕ) (r : Option ℕ) → IfSome r (λ t. n ≡ transaction_of t) → IfSome r (λ t. t ≤ greatest_t) → is_transaction n ≡ false
    → r ≡ None
none_there n None found bound other = refl
none_there n (Some t) found bound other =
    let low : leb (transaction_of 0) n ≡ true = le-leb (transaction_of 0) n (omega (arith, found)) in
    let high : leb n (transaction_of greatest_t) ≡ true = le-leb n (transaction_of greatest_t) (omega (arith, found, bound)) in
    absurd (true≢false (sym (and_from (leb (transaction_of 0) n) (leb n (transaction_of greatest_t)) low high) ∙ other))

pub t_of_entity : (n : ℕ) (r : Option ℕ) → 2147483647 < n → IfSome r (λ t. n ≡ transaction_of t) → IfSome r (λ t. t ≤ greatest_t)
    → ((t : ℕ) → t ≤ greatest_t → n ≡ transaction_of t → r ≡ Some t) → r ≡ t_of n
t_of_entity n r late found bound every = rw no_t (go (is_transaction n) refl)
  where
    no_t : leb n greatest_t ≡ false
    no_t = grind arith

    go : (b : Bool) → is_transaction n ≡ b → r ≡ cond b (Some (n - transaction_of 0)) None
    go true both =
        let parts = and_parts (leb (transaction_of 0) n) (leb n (transaction_of greatest_t)) both in
        let low = leb-true (transaction_of 0) n parts.0 in
        let high = leb-true n (transaction_of greatest_t) parts.1 in
        every (n - transaction_of 0) (omega (arith, low, high)) (omega (arith, low, high))
    go false other = none_there n r found bound other
