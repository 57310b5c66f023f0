-- The bytes of what is recorded.
use Rattle.std.proofs.Common.{◌≡◌, ℕ, ℤ, ◌+◌, ◌<◌, ◌≤◌, Bool, true, false, cond, List, [], ◌∷◌, length, refl, ap, sym, ◌∙◌, subst, arith}
use Rattle.std.proofs.Common.{ltb}
use Rattle.std.specs.Prelude.{sum_by}
use Rattle.std.specs.Ordering.{is_lt}
use Rattle.std.proofs.lemmas.List.Sums.{sum_by-cons}
use Rattle.std.proofs.lemmas.Bool.{or_parts, or_from, or_left, or_right}
use Rattle.std.proofs.lemmas.Bool.Decides.{nat_tests}
use Rattle.edn_model.specs.Form.{Form}
use Rattle.fb_values.specs.declared.facts.Datom.{Datom}
use Rattle.fb_values.specs.declared.facts.Entry.{Entry}
use Rattle.fb_values.specs.declared.facts.Value.TheVariants.{Instant}
use Rattle.fb_values.specs.declared.indexes.Order.{Order}
use Rattle.fb_values.specs.declared.indexes.Order.TheVariants.{Eavt}
use Rattle.fb_values.specs.Orders.{key_cmp}
use Rattle.fb_numbers.specs.Numbers.{transaction_of, tx_instant, most_datoms}
use Rattle.fb_model.specs.Rising.{put_in_order, in_order}
use Rattle.fb_model.specs.History.{basis, next_instant}
use Rattle.tx_model.specs.Size.{value_size, entry_size, most_bytes}
use Rattle.tx_model.specs.Transaction.{Transaction, transaction, recorded}
use Rattle.tx_model.specs.ChangeRules.{breaks_too_large}
use Rattle.tx_model.specs.Step.{Guard, step, accepted}
use Rattle.tx_model.proofs.Refused.{none_broken}
use Rattle.tx_model.proofs.Steps.{accepted_at}

abbrev bytes : Datom → ℕ
bytes d = 17 + value_size d.v

-- one datom after another
abbrev total : List Datom → ℕ
total [] = 0
total (d ∷ ds) = bytes d + total ds

total_is : (ds : List Datom) → total ds ≡ sum_by bytes ds
total_is [] = refl
total_is (d ∷ ds) = ap (λ n. bytes d + n) (total_is ds) ∙ sym (sum_by-cons bytes d ds)

put_size : (order : Order) (d : Datom) (ds : List Datom) → total (put_in_order order d ds) ≤ bytes d + total ds
put_size order d [] = omega arith
put_size order d (first ∷ rest) = go (is_lt (key_cmp order d first)) (is_lt (key_cmp order first d)) (put_size order d rest)
  where
    go : (b c : Bool) → total (put_in_order order d rest) ≤ bytes d + total rest
        → total (cond b (d ∷ first ∷ rest) (cond c (first ∷ put_in_order order d rest) (first ∷ rest)))
        ≤ bytes d + (bytes first + total rest)
    go true c later = let same : bytes d + (bytes first + total rest) ≤ bytes d + (bytes first + total rest) = omega arith in same
    go false true later =
        let more : bytes first + total (put_in_order order d rest) ≤ bytes d + (bytes first + total rest) = omega (arith, later) in more
    go false false later = let fewer : bytes first + total rest ≤ bytes d + (bytes first + total rest) = omega arith in fewer

in_order_size : (order : Order) (ds : List Datom) → total (in_order order ds) ≤ total ds
in_order_size order [] = omega arith
in_order_size order (d ∷ ds) =
    let whole : total (put_in_order order d (in_order order ds)) ≤ bytes d + total ds =
    omega (arith, put_size order d (in_order order ds), in_order_size order ds) in
    whole

recorded_size : (tx : Transaction) (instant : ℤ) → entry_size (recorded tx instant) ≤ entry_size tx.changes + 26
recorded_size tx instant =
    let own : Datom = record {
      e = transaction_of (basis tx.db.history + 1);
      a = tx_instant;
      v = Instant instant;
      t = basis tx.db.history + 1;
      added = true;
    } in
    let small : total (recorded tx instant) ≤ 26 + total tx.changes = in_order_size Eavt (own ∷ tx.changes) in
    omega (arith, small, total_is (recorded tx instant), total_is tx.changes)

not_above : (m n : ℕ) → ltb m n ≡ false → n ≤ m
not_above m n is = grind (arith, nat_tests)

above : (m n : ℕ) → m < n → ltb m n ≡ true
above m n is = grind (arith, nat_tests)

within : (m n : ℕ) → n ≤ m → ltb m n ≡ false
within m n is = grind (arith, nat_tests)

pub accepted_size : (h : List Entry) (asked : Form) (guard : Guard) (reading : ℤ) (entry : Entry) (tempids : List (List ℕ × ℕ))
    → step h asked reading guard ≡ accepted entry tempids → entry_size entry.datoms ≤ most_bytes
accepted_size h asked guard reading entry tempids is =
    let comes = accepted_at h asked guard reading entry tempids is in
    let none = none_broken h comes.forms comes.is_not_refused in
    let tx = transaction h comes.forms in
    let small : entry_size tx.changes + 26 ≤ most_bytes =
    not_above most_bytes (entry_size tx.changes + 26) (or_parts _ _ none.too_large).1 in
    let whole : entry_size (recorded tx (next_instant h reading)) ≤ most_bytes =
    omega (arith, small, recorded_size tx (next_instant h reading)) in
    subst (λ (e : Entry). entry_size e.datoms ≤ most_bytes) (sym comes.entry_is) whole

pub fits : (tx : Transaction) → length tx.changes + 1 ≤ most_datoms → entry_size tx.changes + 26 ≤ most_bytes → breaks_too_large tx ≡ false
fits tx few short = or_from _ _ (within most_datoms (length tx.changes + 1) few) (within most_bytes (entry_size tx.changes + 26) short)

pub too_many : (tx : Transaction) → most_datoms < length tx.changes + 1 → breaks_too_large tx ≡ true
too_many tx many = or_left _ _ (above most_datoms (length tx.changes + 1) many)

pub too_long : (tx : Transaction) → most_bytes < entry_size tx.changes + 26 → breaks_too_large tx ≡ true
too_long tx long = or_right _ _ (above most_bytes (entry_size tx.changes + 26) long)
