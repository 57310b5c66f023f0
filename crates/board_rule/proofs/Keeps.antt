-- What a step of one seat leaves as it was.
use Rattle.std.proofs.Common.{◌≡◌, ◌≢◌, ◌⊎◌, inl, inr, ⊎_elim, ℕ, zero, suc, ◌+◌, ◌-◌, ◌<◌, ◌≤◌, Bool, true, false, List, [], ◌∷◌, ◌++◌}
use Rattle.std.proofs.Common.{length, set, cond, eqb, ltb, sym, refl, ap, ◌∙◌, subst, arith, eq-eqb, ne_eqb, lt-ltb, le-ltb, length-append}
use Rattle.std.proofs.Common.{Option, Some}
use Rattle.std.proofs.lemmas.List.{append_assoc, append-nil}
use mathlib.Core.Logic.{dite}
use mathlib.Core.Option.{some, some-injective, some-ne-none}
use native.Mathlib.Decide.{ℕ_discrete, dec_le}
use lib.ListN.{get_elem?}
use prog.Atomic.{either}
use borrow.Author.Tests.{ltb-true}
use Rattle.atomic_table.proofs.Lists.{at_set, set_else, at_snoc}
use Rattle.board_rule.specs.declared.view.Marks.{Marks}
use Rattle.board_rule.specs.declared.view.At.{At}
use Rattle.board_rule.specs.declared.view.Joined.{Joined}
use Rattle.board_rule.specs.declared.view.Grab.{Grab}
use Rattle.board_rule.specs.declared.view.Grab.TheVariants.{Free, Grabbed, Found, Writing}
use Rattle.board_rule.specs.declared.view.View.{View}
use Rattle.board_rule.specs.Views.{StartsWith, longer, commits_of, AllBelow, HasTurn, session_of}
use Rattle.board_rule.specs.Board.{total, one_if, has_number, seats_of, draws_left, numbered, Apart, CountsOk, Claims, TurnOk, Owned}
use Rattle.board_rule.proofs.Sums.{total-set, term_le, terms_le, numbered_own, note_numbered}

abbrev pick : {A : Type 0} {P : Type 0} → Dec P → A → A → A
pick (yes _) a b = a
pick (no _) a b = b

pub put : {A : Type 0} → (ℕ → A) → ℕ → A → ℕ → A
put f i a j = pick (ℕ_discrete j i) a (f j)

pub put_here : {A : Type 0} (f : ℕ → A) (i : ℕ) (a : A) (j : ℕ) → j ≡ i → put f i a j ≡ a
unfolding put
put_here {A} f i a j is = go (ℕ_discrete j i)
  where
    go : (d : Dec (j ≡ i)) → pick d a (f j) ≡ a
    go (yes e) = refl
    go (no n) = absurd (n is)

pub put_else : {A : Type 0} (f : ℕ → A) (i : ℕ) (a : A) (j : ℕ) → j ≢ i → put f i a j ≡ f j
unfolding put
put_else f i a j other = go (ℕ_discrete j i)
  where
    go : (d : Dec (j ≡ i)) → pick d a (f j) ≡ f j
    go (yes e) = absurd (other e)
    go (no _) = refl

module _ {A : Type 0} where
  pub set_at : (l : List A) (i : ℕ) (v w : A) → get_elem? l i ≡ some v → get_elem? (set l i w) i ≡ some w
  set_at [] i v w e = absurd (some-ne-none v (sym e))
  set_at (x ∷ xs) zero v w e = refl
  set_at (x ∷ xs) (suc i) v w e = set_at xs i v w e

  -- the same index has the same element
  pub same_at : (l : List A) (i j : ℕ) (v u : A) → i ≡ j → get_elem? l i ≡ some v → get_elem? l j ≡ some u → v ≡ u
  same_at l i j v u e a b = some-injective v u (sym a ∙ (ap (get_elem? l) e ∙ b))

  pub set_inside : (l : List A) (i : ℕ) (a : A) → i < length l → get_elem? (set l i a) i ≡ some a
  set_inside [] i a h = absurd (omega arith)
  set_inside (x ∷ xs) zero a h = refl
  set_inside (x ∷ xs) (suc i) a h = set_inside xs i a (omega arith)

  pub at_longer : (l m : List A) (i : ℕ) (a : A) → get_elem? l i ≡ some a → get_elem? (l ++ m) i ≡ some a
  at_longer [] m i a e = absurd (some-ne-none a (sym e))
  at_longer (x ∷ xs) m zero a e = e
  at_longer (x ∷ xs) m (suc i) a e = at_longer xs m i a e

  pub at_append : (l m : List A) (i : ℕ) (a : A) → get_elem? (l ++ m) i ≡ some a
      → (get_elem? l i ≡ some a) ⊎ ((k : ℕ) × (get_elem? m k ≡ some a))
  at_append [] m i a e = inr (i, e)
  at_append (x ∷ xs) m zero a e = inl e
  at_append (x ∷ xs) m (suc i) a e = at_append xs m i a e

  pub starts_whole : (l : List A) → StartsWith l l
  starts_whole l = ([], sym (append-nil l))

  pub starts_more : (l m first : List A) → StartsWith l first → StartsWith (l ++ m) first
  starts_more l m first h = (h.0 ++ m, ap (λ (x : List A). x ++ m) h.1 ∙ append_assoc first h.0 m)

  pub starts_shorter : (l first : List A) → StartsWith l first → length first ≤ length l
  starts_shorter l first h = omega (arith, ap (length {A = A}) h.1, length-append first h.0)

  -- of two beginnings of one list, that which is not shorter begins with the other
  pub starts_both : (l a b : List A) → StartsWith l a → StartsWith l b → length a ≤ length b → StartsWith b a
  starts_both l [] b ha hb le = (b, refl)
  starts_both l (x ∷ a) [] ha hb le = absurd (omega arith)
  starts_both [] (x ∷ a) (y ∷ b) ha hb le = absurd (omega (arith, starts_shorter [] (x ∷ a) ha))
  starts_both (z ∷ l) (x ∷ a) (y ∷ b) ha hb le =
      let px : z ≡ x = cc (ha.1) in
      let py : z ≡ y = cc (hb.1) in
      let ra : l ≡ a ++ ha.0 = cc (ha.1) in
      let rb : l ≡ b ++ hb.0 = cc (hb.1) in
      let t = starts_both l a b (ha.0, ra) (hb.0, rb) (omega arith) in
      (t.0, λ i. (sym py ∙ px) i ∷ t.1 i)

  pub longer_begins : (l a b : List A) → StartsWith l a → StartsWith l b → StartsWith l (longer a b)
  longer_begins l a b ha hb = go (ltb (length a) (length b))
    where
      go : (t : Bool) → StartsWith l (cond t b a)
      go true = hb
      go false = ha

  pub longer_left : (l a b : List A) → StartsWith l a → StartsWith l b → StartsWith (longer a b) a
  longer_left l a b ha hb = dite (dec_le (length b) (length a))
      (λ le. subst (λ (t : Bool). StartsWith (cond t b a) a) (sym (le-ltb (length a) (length b) le)) (starts_whole a))
      (λ no. subst (λ (t : Bool). StartsWith (cond t b a) a) (sym (lt-ltb (length a) (length b) (omega arith)))
      (starts_both l a b ha hb (omega arith)))

  pub longer_right : (l a b : List A) → StartsWith l a → StartsWith l b → StartsWith (longer a b) b
  longer_right l a b ha hb = dite (dec_le (length b) (length a))
      (λ le. subst (λ (t : Bool). StartsWith (cond t b a) b) (sym (le-ltb (length a) (length b) le)) (starts_both l b a hb ha le))
      (λ no. subst (λ (t : Bool). StartsWith (cond t b a) b) (sym (lt-ltb (length a) (length b) (omega arith))) (starts_whole b))

  pub longer_recent : (a b : List A) (ts : List ℕ) → AllBelow (length a) ts → AllBelow (length (longer a b)) ts
  longer_recent a b ts all i t e = let lt = all i t e in let le = not_shorter (ltb (length a) (length b)) refl in omega arith
    where
      not_shorter : (c : Bool) → ltb (length a) (length b) ≡ c → length a ≤ length (cond c b a)
      not_shorter true e = let lt : length a < length b = ltb-true _ _ e in omega arith
      not_shorter false e = omega arith

  pub set_long : (l : List A) (i : ℕ) (a : A) → length (set l i a) ≡ length l
  set_long [] i a = refl
  set_long (x ∷ xs) zero a = refl
  set_long (x ∷ xs) (suc i) a = ap suc (set_long xs i a)

pub exchanged : (n old new : ℕ) (F : ℕ → Type 0) → (n ≡ old → F new) → (n ≢ old → F n) → F (either (eqb n old) new n)
exchanged n old new F hit miss =
    dite (ℕ_discrete n old) (λ e. subst (λ b. F (either b new n)) (sym (eq-eqb n old e)) (hit e))
    (λ ne. subst (λ b. F (either b new n)) (sym (ne_eqb n old ne)) (miss ne))

-- one more entry, by another, or one's own
pub commits_other : (z t : ℕ) (who : List ℕ) (a : ℕ) → a ≢ z → commits_of z t (who ++ a ∷ []) ≡ commits_of z t who
commits_other z t [] a ne = ap (λ b. cond b (t ∷ []) []) (ne_eqb a z ne)
commits_other z t (x ∷ who) a ne = ap (λ m. cond (eqb x z) (t ∷ m) m) (commits_other z (t + 1) who a ne)

pub commits_own : (z t : ℕ) (who : List ℕ) → commits_of z t (who ++ z ∷ []) ≡ commits_of z t who ++ (t + length who) ∷ []
commits_own z t [] = let e : t ≡ t + 0 = omega arith in ap (λ b. cond b (t ∷ []) []) (eq-eqb z z refl) ∙ ap (λ (k : ℕ). k ∷ []) e
commits_own z t (x ∷ who) =
    let e : t + 1 + length who ≡ t + suc (length who) = omega arith in
    let rest = commits_own z (t + 1) who ∙ ap (λ (k : ℕ). commits_of z (t + 1) who ++ k ∷ []) e in
    ap (λ m. cond (eqb x z) (t ∷ m) m) rest ∙ spread (eqb x z) t (commits_of z (t + 1) who) (t + suc (length who))
  where
    spread : (b : Bool) (t : ℕ) (m : List ℕ) (k : ℕ) → cond b (t ∷ m ++ k ∷ []) (m ++ k ∷ []) ≡ cond b (t ∷ m) m ++ k ∷ []
    spread true t m k = refl
    spread false t m k = refl

pub below_snoc : (n m t : ℕ) (ts : List ℕ) → AllBelow n ts → n ≤ m → t < m → AllBelow m (ts ++ t ∷ [])
below_snoc n m t ts all le lt k u at =
    ⊎_elim (λ (e : get_elem? ts k ≡ some u). let a = all k u e in omega arith) (λ (e : t ≡ u). omega arith) (at_snoc ts t u k at)

module _ {E : Type 0} where
  pub seats_stay : (K : ℕ → View E → Type 0) (vs : List (View E)) (id : ℕ) (w : View E) → K id w
      → ((j : ℕ) (u : View E) → j ≢ id → get_elem? vs j ≡ some u → K j u)
      → (j : ℕ) (u : View E) → get_elem? (set vs id w) j ≡ some u → K j u
  seats_stay K vs id w mine others j u e =
      ⊎_elim (λ (t : (j ≡ id) × (w ≡ u)). subst (λ (x : ℕ × View E). K x.0 x.1) (λ i. (sym t.0 i, t.1 i)) mine)
      (λ (t : (j ≢ id) × (get_elem? vs j ≡ some u)). others j u t.0 t.1) (at_set vs id j w u e)

  pub apart_set : (vs : List (View E)) (id : ℕ) (v w : View E) → Apart vs → get_elem? vs id ≡ some v
      → ((t j : ℕ) (u : View E) → w.ticket ≡ Some t → j ≢ id → get_elem? vs j ≡ some u → u.ticket ≢ Some t) → Apart (set vs id w)
  apart_set vs id v w apart at new i j t a b ne ea eb has also =
      ⊎_elim
      (λ (p : (i ≡ id) × (w ≡ a)). ⊎_elim (λ (q : (j ≡ id) × (w ≡ b)). ne (p.0 ∙ sym q.0)) (λ (q : (j ≢ id) × (get_elem? vs j ≡ some b)).
      new t j b (ap (λ (z : View E). z.ticket) p.1 ∙ has) q.0 q.1 also) (at_set vs id j w b eb))
      (λ (p : (i ≢ id) × (get_elem? vs i ≡ some a)).
      ⊎_elim (λ (q : (j ≡ id) × (w ≡ b)). new t i a (ap (λ (z : View E). z.ticket) q.1 ∙ also) p.0 p.1 has)
      (λ (q : (j ≢ id) × (get_elem? vs j ≡ some b)). apart i j t a b ne p.1 q.1 has also) (at_set vs id j w b eb)) (at_set vs id i w a ea)

  -- the seat counts as it did, and has no other ticket
  pub record Alike (v w : View E) : Type 0 where
    pub seats : w.seats ≡ v.seats
    pub number : w.number ≡ v.number
    pub joined : w.joined ≡ v.joined
    pub draws : w.draws ≡ v.draws
    pub ticket : (t : ℕ) → w.ticket ≡ Some t → v.ticket ≡ Some t

  pub counts_kept : (drawn given : ℕ) (vs : List (View E)) (id : ℕ) (v w : View E) → get_elem? vs id ≡ some v → Alike v w
      → CountsOk drawn given vs → CountsOk drawn given (set vs id w)
  counts_kept drawn given vs id v w at a c =
      let left : draws_left w ≡ draws_left v = λ i. cond (eqb (a.seats i) 0) 0 (4294967296 - a.draws i) in
      let nums : (z : ℕ) → numbered z w ≡ numbered z v =
      λ z i. cond (eqb (a.seats i) 0) 0 (one_if (eqb (a.number i) z)) + total (has_number z) (a.joined i) in
      let seats = a.seats in let s = total-set seats_of vs id v w at in let d = total-set draws_left vs id v w at in
      let same : total seats_of (set vs id w) ≡ total seats_of vs = omega arith in
      let same_left : total draws_left (set vs id w) ≡ total draws_left vs = omega arith in
      let room = c.room in let made = c.made in
      let same_num : (z : ℕ) → total (numbered z) (set vs id w) ≡ total (numbered z) vs =
      λ z. let p = total-set (numbered z) vs id v w at in let q = nums z in omega arith in
      record {
        room = omega arith;
        made = omega arith;
        few = c.few;
        once = λ z. let p = same_num z in let q = c.once z in omega arith;
        fresh = λ z h ne. same_num z ∙ c.fresh z h ne;
        tickets = apart_set vs id v w c.tickets at (λ t j u has ne e. c.tickets id j t v u (λ e'. ne (sym e')) at e (a.ticket t has));
      }

  pub owned_kept : (vs : List (View E)) (id : ℕ) (v w : View E) (o k : ℕ) (g : Grab E) → get_elem? vs id ≡ some v → w.grab ≡ v.grab
      → w.number ≡ v.number → Owned vs o k g → Owned (set vs id w) o k g
  owned_kept vs id v w o k g at same num h ne = let t = h ne in dite (ℕ_discrete o id)
      (λ e. let is : v ≡ t.0 = same_at vs id o v t.0 (sym e) at t.1 in (
        w,
        ap (get_elem? (set vs id w)) e ∙ set_at vs id v w at,
        same ∙ (ap (λ (z : View E). z.grab) is ∙ t.2),
        ap (λ (z : ℕ). session_of z g) (num ∙ ap (λ (z : View E). z.number) is) ∙ t.3,
      ))
      (λ other. (t.0, set_else vs id o w other ∙ t.1, t.2, t.3))

  -- another seat's mail word changes hands, or is let go
  pub owned_else : (vs : List (View E)) (id : ℕ) (v w : View E) (o k : ℕ) (g : Grab E) → get_elem? vs id ≡ some v → (g ≢ Free → o ≢ id)
      → Owned vs o k g → Owned (set vs id w) o k g
  owned_else vs id v w o k g at apart h ne = let t = h ne in (t.0, set_else vs id o w (apart ne) ∙ t.1, t.2, t.3)

  pub turns_kept : (given turn : ℕ) (core : At) (shown : Marks) (next : Option Marks) (vs : List (View E)) (id : ℕ) (v w : View E)
      → get_elem? vs id ≡ some v → (HasTurn v → HasTurn w) → TurnOk given turn core shown next vs
      → TurnOk given turn core shown next (set vs id w)
  turns_kept given turn core shown next vs id v w at keeps t = record {
    idle = t.idle;
    busy = λ i is. busy_kept vs id v w i at keeps (t.busy i is);
    unstopped = t.unstopped;
  }
    where
      busy_kept : (vs : List (View E)) (id : ℕ) (v w : View E) (i : ℕ) → get_elem? vs id ≡ some v → (HasTurn v → HasTurn w)
          → (u : View E) × (get_elem? vs i ≡ some u) × HasTurn u
          → (u : View E) × (get_elem? (set vs id w) i ≡ some u) × HasTurn u
      busy_kept vs id v w i at keeps b = dite (ℕ_discrete i id)
          (λ e.
          (w, ap (get_elem? (set vs id w)) e ∙ set_at vs id v w at, keeps (subst HasTurn (sym (same_at vs id i v b.0 (sym e) at b.1)) b.2)))
          (λ ne. (b.0, set_else vs id i w ne ∙ b.1, b.2))

  pub total_same : (g : View E → ℕ) (vs : List (View E)) (id : ℕ) (v w : View E) → get_elem? vs id ≡ some v → g w ≡ g v
      → total g (set vs id w) ≡ total g vs
  total_same g vs id v w at e = omega (arith, total-set g vs id v w at)

  -- a seat that weighs in for a number leaves no room for another of it
  pub alone : (drawn given : ℕ) (vs : List (View E)) (i j z : ℕ) (v u : View E) → CountsOk drawn given vs → j ≢ i → get_elem? vs i ≡ some v
      → get_elem? vs j ≡ some u → 1 ≤ numbered z v → 1 ≤ numbered z u → ⊥
  alone drawn given vs i j z v u c ne a b p q = let t = terms_le (numbered z) vs i j v u ne a b in let o = c.once z in omega arith

  pub own_number : (v : View E) → 0 < v.seats → 1 ≤ numbered v.number v
  own_number v live = let t = numbered_own v live in let m : ℕ = total (has_number v.number) v.joined in omega arith

  -- no note of a seat, its own or another's, has the number of a seat that is there
  pub unnoted : (drawn given : ℕ) (vs : List (View E)) (i j k : ℕ) (v u : View E) (p : Joined E) → CountsOk drawn given vs
      → get_elem? vs i ≡ some v → get_elem? vs j ≡ some u → 0 < v.seats → get_elem? u.joined k ≡ some p → p.number ≢ v.number
  unnoted drawn given vs i j k v u p c a b live at e = dite (ℕ_discrete j i)
      (λ same. let is : v ≡ u = same_at vs i j v u (sym same) a b in
      let at' : get_elem? v.joined k ≡ some p = ap (λ (z : View E). get_elem? z.joined k) is ∙ at in
      let m = Rattle.board_rule.proofs.Sums.note_counts v k p at' in
      let m' : 1 ≤ total (has_number v.number) v.joined = subst (λ (z : ℕ). 1 ≤ total (has_number z) v.joined) e m in
      let own = numbered_own v live in let all = term_le (numbered v.number) vs i v a in let o = c.once v.number in absurd (omega arith))
      (λ ne.
      alone drawn given vs i j v.number v u c ne a b (own_number v live) (subst (λ (z : ℕ). 1 ≤ numbered z u) e (note_numbered u k p at)))

  -- and no other seat that is there has its number
  pub unlike : (drawn given : ℕ) (vs : List (View E)) (i j : ℕ) (v u : View E) → CountsOk drawn given vs → j ≢ i → get_elem? vs i ≡ some v
      → get_elem? vs j ≡ some u → 0 < v.seats → 0 < u.seats → v.number ≢ u.number
  unlike drawn given vs i j v u c ne a b live live' e =
      alone drawn given vs i j v.number v u c ne a b (own_number v live) (subst (λ (z : ℕ). 1 ≤ numbered z u) (sym e) (own_number u live'))

-- a claim of a seat that does not write stays, whoever has the turn
module _ {E : Type 0} where
  pub claims_turn : (n : ℕ) (mail : ℕ → Grab E) (owner : ℕ → ℕ) (turn to j seats number : ℕ) (g : Grab E) → (turn ≡ j + 1 → ⊥)
      → Claims n mail owner turn j seats number g → Claims n mail owner to j seats number g
  claims_turn n mail owner turn to j seats number Free not c = c
  claims_turn n mail owner turn to j seats number Grabbed not c = c
  claims_turn n mail owner turn to j seats number (Found l d) not c = c
  claims_turn n mail owner turn to j seats number (Writing s d) not c = absurd (not c.1)
