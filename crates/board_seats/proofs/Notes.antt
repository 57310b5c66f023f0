-- New seats with their numbers, and the notes of the seats that are joined one after another.
use Rattle.std.proofs.Common.{◌≡◌, ◌⊎◌, inl, inr, ℕ, zero, suc, ◌+◌, List, [], ◌∷◌, ◌++◌, length, refl, sym, ap, subst, ◌∙◌, arith}
use mathlib.Core.Option.{some, some-injective, some-ne-none}
use lib.ListN.{get_elem?}
use Rattle.atomic_table.specs.Seated.{TableId}
use Rattle.atomic_table.proofs.Lists.{at_longer, at_last, at_snoc}
use Rattle.board_rule.specs.declared.seat.BoardSeat.{BoardSeat}
use Rattle.board_rule.specs.declared.view.Code.{Code}
use Rattle.board_rule.specs.declared.view.View.{View}
use Rattle.board_rule.specs.Views.{longer, note_of, both, starting, IsIdle}
use Rattle.board_rule.specs.Calls.{view_of, board_of}
use Rattle.board_seats.specs.Seating.{AreNew, AreIdle, AreNoted, IsNoted, HasSeen}

module _ {A : Type 0} where
  at_middle : (l m : List A) (a : A) (n : ℕ) → length l ≡ n → get_elem? (l ++ a ∷ m) n ≡ some a
  at_middle [] m a zero e = refl
  at_middle [] m a (suc n) e = absurd (omega arith)
  at_middle (x ∷ l) m a zero e = absurd (omega arith)
  at_middle (x ∷ l) m a (suc n) e = at_middle l m a n (omega arith)

  one_more : (P : Type 0) (a b : A) (j n : ℕ) → P ⊎ ((a ≡ b) × (j ≡ n)) → P ⊎ ((a ≡ b) × (suc j ≡ suc n))
  one_more P a b j n (inl h) = inl h
  one_more P a b j n (inr h) = inr (h.0, ap suc h.1)

  at_new : (l : List A) (a b : A) (j n : ℕ) → length l ≡ n → get_elem? (l ++ a ∷ []) j ≡ some b
      → (get_elem? l j ≡ some b) ⊎ ((a ≡ b) × (j ≡ n))
  at_new [] a b zero zero len e = inr (some-injective a b e, refl)
  at_new [] a b zero (suc n) len e = absurd (omega arith)
  at_new [] a b (suc j) n len e = absurd (some-ne-none b (sym e))
  at_new (x ∷ l) a b zero n len e = inl e
  at_new (x ∷ l) a b (suc j) zero len e = absurd (omega arith)
  at_new (x ∷ l) a b (suc j) (suc n) len e = one_more (get_elem? l j ≡ some b) a b j n (at_new l a b j n (omega arith) e)

  none_in : (l : List A) (k : ℕ) (a : A) → length l ≡ 0 → get_elem? l k ≡ some a → ⊥
  none_in [] k a e at = some-ne-none a (sym at)
  none_in (x ∷ l) k a e at = absurd (omega arith)

module _ (table : TableId) where
  abbrev IsNew : ℕ → List Code → ℕ → BoardSeat → Type 0
  IsNew start seen k s = (board_of s ≡ table) × (view_of s ≡ record (starting start seen 0) { number = k })

  new_here : (start : ℕ) (seen : List Code) (xs : List BoardSeat) (x s : BoardSeat) (k n : ℕ) → AreNew table start seen xs
      → IsNew start seen n x
      → (get_elem? xs k ≡ some s) ⊎ ((x ≡ s) × (k ≡ n)) → IsNew start seen k s
  new_here start seen xs x s k n all new (inl there) = all k s there
  new_here start seen xs x s k n all new (inr here) =
      subst (λ (z : BoardSeat). IsNew start seen k z) here.0 (subst (λ (j : ℕ). IsNew start seen j x) (sym here.1) new)

  -- one more new seat
  pub new_more : (start : ℕ) (seen : List Code) (xs : List BoardSeat) (x : BoardSeat) (n : ℕ) → length xs ≡ n → AreNew table start seen xs
      → IsNew start seen n x
      → AreNew table start seen (xs ++ x ∷ [])
  new_more start seen xs x n len all new k s at = new_here start seen xs x s k n all new (at_new xs x s k n len at)

  pub last_idle : (seats rest : List BoardSeat) (x : BoardSeat) → seats ≡ rest ++ x ∷ [] → AreIdle table seats
      → (board_of x ≡ table) × IsIdle (view_of x) × ((view_of x).seats ≡ 1)
  last_idle seats rest x e all =
      all (length rest) x (subst (λ (z : List BoardSeat). get_elem? z (length rest) ≡ some x) (sym e) (at_last rest x (length rest) refl))

  pub others_idle : (seats rest : List BoardSeat) (x : BoardSeat) → seats ≡ rest ++ x ∷ [] → AreIdle table seats → AreIdle table rest
  others_idle seats rest x e all k s at =
      all k s (subst (λ (z : List BoardSeat). get_elem? z k ≡ some s) (sym e) (at_longer rest (x ∷ []) k s at))

module _ (w u w' : View Code) (joins : w' ≡ both w u) where
  -- a view that differs from v in what joins change does so after one more
  pub joined_once : (v : View Code) → w ≡ record v { seats = w.seats; seen = w.seen; joined = w.joined }
      → w' ≡ record v { seats = w'.seats; seen = w'.seen; joined = w'.joined }
  joined_once v e =
      let s = ap (λ (z : View Code). z.seats) joins in
      let l = ap (λ (z : View Code). z.seen) joins in
      let j = ap (λ (z : View Code). z.joined) joins in
      joins
      ∙ (ap (λ (z : View Code).
      record z { seats = w.seats + u.seats; seen = longer w.seen u.seen; joined = w.joined ++ note_of w u ∷ u.joined }) e
      ∙ (λ i. record v { seats = sym s i; seen = sym l i; joined = sym j i }))

  still_noted : (x : View Code) → IsNoted x w → IsNoted x w'
  still_noted x h =
      (h.0, h.1, ap (λ (z : View Code). get_elem? z.joined h.0) joins ∙ at_longer w.joined (note_of w u ∷ u.joined) h.0 h.1 h.2, h.3)

  note_here : get_elem? w'.joined (length w.joined) ≡ some (note_of w u)
  note_here =
      ap (λ (z : View Code). get_elem? z.joined (length w.joined)) joins ∙ at_middle w.joined u.joined (note_of w u) (length w.joined) refl

  now_noted : IsNoted u w'
  now_noted = (
    length w.joined,
    note_of w u,
    note_here,
    record { number = refl; seen = refl; commits = refl; stop = refl },
  )

  -- the note has what the first seat had seen
  pub still_seen : (l : List Code) → HasSeen l w → HasSeen l w'
  still_seen l (inl seen) = inr (length w.joined, note_of w u, note_here, seen)
  still_seen l (inr h) =
      inr (h.0, h.1, ap (λ (z : View Code). get_elem? z.joined h.0) joins ∙ at_longer w.joined (note_of w u ∷ u.joined) h.0 h.1 h.2, h.3)

-- each of the seats is still to be joined, or is noted
abbrev pub AreTaken : List BoardSeat → List BoardSeat → View Code → Type 0
AreTaken all rest w = (k : ℕ) (s : BoardSeat) → get_elem? all k ≡ some s → (get_elem? rest k ≡ some s) ⊎ IsNoted (view_of s) w

module _ (rest : List BoardSeat) (x : BoardSeat) (w w' : View Code) (joins : w' ≡ both w (view_of x)) where
  last_taken : (k : ℕ) (s : BoardSeat) → (get_elem? rest k ≡ some s) ⊎ (x ≡ s) → (get_elem? rest k ≡ some s) ⊎ IsNoted (view_of s) w'
  last_taken k s (inl there) = inl there
  last_taken k s (inr same) = inr (subst (λ (z : BoardSeat). IsNoted (view_of z) w') same (now_noted w (view_of x) w' joins))

  one_taken : (seats : List BoardSeat) → seats ≡ rest ++ x ∷ [] → (k : ℕ) (s : BoardSeat)
      → (get_elem? seats k ≡ some s) ⊎ IsNoted (view_of s) w
      → (get_elem? rest k ≡ some s) ⊎ IsNoted (view_of s) w'
  one_taken seats e k s (inl there) = last_taken k s (at_snoc rest x s k (subst (λ (z : List BoardSeat). get_elem? z k ≡ some s) e there))
  one_taken seats e k s (inr noted) = inr (still_noted w (view_of x) w' joins (view_of s) noted)

  pub taken_on : (all seats : List BoardSeat) → seats ≡ rest ++ x ∷ [] → AreTaken all seats w → AreTaken all rest w'
  taken_on all seats e h k s at = one_taken seats e k s (h k s at)

settled : (rest : List BoardSeat) (w : View Code) (k : ℕ) (s : BoardSeat) → length rest ≡ 0
    → (get_elem? rest k ≡ some s) ⊎ IsNoted (view_of s) w → IsNoted (view_of s) w
settled rest w k s none (inl there) = absurd (none_in rest k s none there)
settled rest w k s none (inr noted) = noted

pub all_taken : (all rest : List BoardSeat) (w : View Code) → length rest ≡ 0 → AreTaken all rest w → AreNoted all w
all_taken all rest w none h k s at = settled rest w k s none (h k s at)
