-- Parts and prefixes that agree with how what they stand for compares.
use Rattle.std.proofs.Common.{◌≡◌, ℕ, ◌+◌, ◌-◌, ◌*◌, ◌<◌, ◌≤◌, ◌⊎◌, inl, inr, Bool, true, false, cond, refl, ap, arith}
use Rattle.std.proofs.lemmas.Bool.Decides.{nat_tests}
use Rattle.std.specs.Ordering.{nat_cmp, ordering_then}
use Rattle.std.specs.declared.cmp.Ordering.{Ordering}
use Rattle.std.specs.declared.cmp.Ordering.TheVariants.{Less, Equal}
use Rattle.fb_prefix.specs.declared.parts.Part.{Part}
use Rattle.fb_prefix.specs.declared.prefixes.Prefix.{Prefix}
use Rattle.fb_prefix.specs.Prefixes.{is_lesser, pair, put}

pub nat_less : (m n : ℕ) → m < n → nat_cmp m n ≡ Less
nat_less m n less = grind (arith, nat_tests)

pub nat_equal : (m n : ℕ) → m ≡ n → nat_cmp m n ≡ Equal
nat_equal m n same = grind (arith, nat_tests)

pub more_times : (a b p : ℕ) → a < b → a * p + p ≤ b * p
more_times a b p less =
    let e : b ≡ a + 1 + (b - (a + 1)) = omega arith in
    let q : (a + 1 + (b - (a + 1))) * p ≡ a * p + p + (b - (a + 1)) * p = omega arith in
    rw e (omega (arith, q))

-- p and q are the parts of two things that compare as o
pub record Agree (p q : Part) (o : Ordering) : Type 0 where
  pub rises : p.n < q.n → o ≡ Less
  pub exact : p.n ≡ q.n → q.is_whole ≡ true → (o ≡ Equal) × (p.is_whole ≡ true)

-- how two prefixes compare, by words
pub record AgreeByWords (p q : Prefix) (o : Ordering) : Type 0 where
  pub high : p.high < q.high → o ≡ Less
  pub low : p.high ≡ q.high → p.low < q.low → o ≡ Less

pub lesser_agrees : (p q : Prefix) (o : Ordering) → AgreeByWords p q o → is_lesser p q ≡ true → o ≡ Less
lesser_agrees p q o agree lesser = grind (arith, nat_tests, agree.high, agree.low)

pub less_then : (o rest : Ordering) → o ≡ Less → ordering_then o rest ≡ Less
less_then o rest less = rw less refl

pub equal_then : (o rest : Ordering) → o ≡ Equal → rest ≡ Less → ordering_then o rest ≡ Less
equal_then o rest equal less = rw equal less

pub behind_less : (b c : Bool) (m n : ℕ) → cond b m 0 < cond c n 0 → (c ≡ true) × (b ≡ true → m < n)
behind_less b false m n less = absurd (omega arith)
behind_less true true m n less = (refl, λ is. less)
behind_less false true m n less = (refl, λ is. absurd (cc))

pub pair_agrees : (p q p' q' : Part) (o o' rest : Ordering) → Agree p q o → Agree p' q' o'
    → AgreeByWords (pair p p') (pair q q') (ordering_then o (ordering_then o' rest))
pair_agrees p q p' q' o o' rest agree agree' =
    record {
      high = λ less. less_then o _ (agree.rises less);
      low = λ same less.
          let told = behind_less p.is_whole q.is_whole p'.n q'.n less in
          let exact = agree.exact same told.0 in
          equal_then o _ exact.0 (less_then o' rest (agree'.rises (told.1 exact.1)));
    }

-- a number in two parts, of which the second is below p
pub first_part : (a b x y p : ℕ) → x < p → y < p → a * p + x < b * p + y → (a < b) ⊎ ((a ≡ b) × (x < y))
first_part a b x y p xp yp less = grind (arith, more_times a b p, more_times b a p)

pub same_parts : (a b x y p : ℕ) → x < p → y < p → a * p + x ≡ b * p + y → (a ≡ b) × (x ≡ y)
same_parts a b x y p xp yp same = grind (arith, more_times a b p, more_times b a p)

not_whole : {A : Type 0} (m n : ℕ) (o : Ordering) → Agree (record { n = m; is_whole = false }) (record { n = n; is_whole = true }) o → m ≡ n → A
not_whole m n o agree same = absurd (cc (agree.exact same refl).1)

put_agrees_at : (room m n : ℕ) (b c : Bool) (r s : Prefix) (o o' : Ordering) → r.high < room → s.high < room
    → Agree (record { n = m; is_whole = b }) (record { n = n; is_whole = c }) o → AgreeByWords r s o'
    → AgreeByWords (put room (record { n = m; is_whole = b }) r) (put room (record { n = n; is_whole = c }) s) (ordering_then o o')
put_agrees_at room m n true true r s o o' rb sb agree rest =
    record {
      high = λ less.
          elim (first_part m n r.high s.high room rb sb less) [
            | inl before ↦ less_then o o' (agree.rises before)
            | inr same ↦ equal_then o o' (agree.exact same.0 refl).0 (rest.high same.1)
          ];
      low = λ same less.
          let parts = same_parts m n r.high s.high room rb sb same in
          equal_then o o' (agree.exact parts.0 refl).0 (rest.low parts.1 less);
    }
put_agrees_at room m n true false r s o o' rb sb agree rest =
    record {
      high = λ less.
          elim (first_part m n r.high 0 room rb (omega arith) (omega arith)) [
            | inl before ↦ less_then o o' (agree.rises before)
            | inr same ↦ absurd (omega (arith, same.1))
          ];
      low = λ same less. absurd (omega arith);
    }
put_agrees_at room m n false true r s o o' rb sb agree rest =
    record {
      high = λ less.
          elim (first_part m n 0 s.high room (omega arith) sb (omega arith)) [
            | inl before ↦ less_then o o' (agree.rises before)
            | inr same ↦ not_whole m n o agree same.0
          ];
      low = λ same less. not_whole m n o agree (same_parts m n 0 s.high room (omega arith) sb (omega arith)).0;
    }
put_agrees_at room m n false false r s o o' rb sb agree rest =
    record {
      high = λ less.
          elim (first_part m n 0 0 room (omega arith) (omega arith) (omega arith)) [
            | inl before ↦ less_then o o' (agree.rises before)
            | inr same ↦ absurd (omega (arith, same.1))
          ];
      low = λ same less. absurd (omega arith);
    }

pub put_agrees : (room : ℕ) (p q : Part) (r s : Prefix) (o o' : Ordering) → r.high < room → s.high < room
    → Agree p q o → AgreeByWords r s o' → AgreeByWords (put room p r) (put room q s) (ordering_then o o')
put_agrees room p q r s o o' rb sb agree rest = put_agrees_at room p.n q.n p.is_whole q.is_whole r s o o' rb sb agree rest

-- ---- equal prefixes

both_then : (b c : Bool) (m n : ℕ) → b ≡ true → c ≡ true → cond b m 0 ≡ cond c n 0 → m ≡ n
both_then true true m n is is' same = same
both_then true false m n is is' same = absurd (cc)
both_then false c m n is is' same = absurd (cc)

pub pair_same : (p q p' q' : Part) (o : Ordering) → Agree p q o → q.is_whole ≡ true → (pair p p').high ≡ (pair q q').high
    → (pair p p').low ≡ (pair q q').low → (o ≡ Equal) × (p'.n ≡ q'.n)
pair_same p q p' q' o agree whole high low =
    let told = agree.exact high whole in
    (told.0, both_then p.is_whole q.is_whole p'.n q'.n told.1 whole low)

put_same_at : (room m n : ℕ) (b c : Bool) (r s : Prefix) (o : Ordering) → r.high < room → s.high < room
    → Agree (record { n = m; is_whole = b }) (record { n = n; is_whole = c }) o → c ≡ true
    → (put room (record { n = m; is_whole = b }) r).high ≡ (put room (record { n = n; is_whole = c }) s).high
    → (put room (record { n = m; is_whole = b }) r).low ≡ (put room (record { n = n; is_whole = c }) s).low
    → (o ≡ Equal) × (r.high ≡ s.high) × (r.low ≡ s.low)
put_same_at room m n true true r s o rb sb agree whole high low =
    let parts = same_parts m n r.high s.high room rb sb high in
    ((agree.exact parts.0 refl).0, parts.1, low)
put_same_at room m n false true r s o rb sb agree whole high low =
    not_whole m n o agree (same_parts m n 0 s.high room (omega arith) sb (omega arith)).0
put_same_at room m n b false r s o rb sb agree whole high low = absurd (cc)

pub put_same : (room : ℕ) (p q : Part) (r s : Prefix) (o : Ordering) → r.high < room → s.high < room → Agree p q o → q.is_whole ≡ true
    → put room p r ≡ put room q s → (o ≡ Equal) × (r.high ≡ s.high) × (r.low ≡ s.low)
put_same room p q r s o rb sb agree whole same =
    put_same_at room p.n q.n p.is_whole q.is_whole r s o rb sb agree whole (ap (λ (w : Prefix). w.high) same) (ap (λ (w : Prefix). w.low) same)
