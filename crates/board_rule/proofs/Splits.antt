-- Seats split, and join again.
use Rattle.std.proofs.Common.{◌≡◌, ◌≢◌, inl, inr, ⊎_elim, ℕ, zero, suc, ◌+◌, ◌<◌, List, [], ◌∷◌, ◌++◌, set, eqb, sym, refl, ap, ◌∙◌, subst}
use Rattle.std.proofs.Common.{arith, None}
use mathlib.Core.Logic.{dite}
use mathlib.Core.Option.{some, some-injective, some-ne-none}
use native.Mathlib.Decide.{ℕ_discrete}
use lib.ListN.{get_elem?}
use Rattle.atomic_table.specs.Table.{State}
use Rattle.atomic_table.proofs.Lists.{set_else}
use Rattle.board_rule.specs.declared.board.SlotValue.{SlotValue}
use Rattle.board_rule.specs.declared.view.Grab.{Grab}
use Rattle.board_rule.specs.declared.view.Grab.TheVariants.{Free}
use Rattle.board_rule.specs.declared.view.View.{View}
use Rattle.board_rule.specs.Views.{worker}
use Rattle.board_rule.specs.Board.{Naming, Scene, total, seats_of, draws_left, numbered, Claims, KeepsNotes, Knows, Ruled}
use Rattle.board_rule.proofs.Sums.{total-set, none_not, left_live}
use Rattle.board_rule.proofs.Keeps.{same_at, seats_stay, apart_set, counts_kept, owned_kept, turns_kept, total_same, unlike}
use Rattle.atomic_table.specs.Table.{Splits, Joins}
use Rattle.atomic_table.proofs.Lists.{at_snoc}
use Rattle.board_rule.specs.Views.{giver, newcomer, note_of, both, spent}
use Rattle.board_rule.specs.Board.{one_if, has_number, Apart, Recalls, IsNote, KnowsMarks}
use Rattle.board_rule.proofs.Sums.{total-append, numbered_live, one_same, one_other}
use Rattle.board_rule.proofs.Keeps.{at_longer, at_append, longer_begins, longer_recent, owned_else}

module _ {H S E : Type 0} (N : Naming H S E) (n start : ℕ) where
  abbrev St : Type 0
  St = State (SlotValue H S) (View E)

  abbrev Rule : St → Type 0
  Rule = Ruled N n start

  apart_more : (l : List (View E)) (a : View E) → Apart l → a.ticket ≡ None → Apart (l ++ a ∷ [])
  apart_more l a apart none_yet i j t v u ne ei ej has also =
      ⊎_elim (λ (p : get_elem? l i ≡ some v). ⊎_elim (λ (q : get_elem? l j ≡ some u). apart i j t v u ne p q has also)
      (λ (q : a ≡ u). none_not t (sym none_yet ∙ (ap (λ (z : View E). z.ticket) q ∙ also))) (at_snoc l a u j ej))
      (λ (p : a ≡ v). none_not t (sym none_yet ∙ (ap (λ (z : View E). z.ticket) p ∙ has))) (at_snoc l a v i ei)

  none_in : {A : Type 0} (k : ℕ) (a : A) → get_elem? {A = A} [] k ≡ some a → ⊥
  none_in k a e = some-ne-none a (sym e)

  -- a new seat knows what the first one had seen
  new_knows : (s : St) (r : Rule s) (id : ℕ) (v : View E) → get_elem? s.views id ≡ some v → v.number ≡ worker → 0 < v.seats
      → v.given < 2147483648 → (j : ℕ) → Knows n start (record r.scene { given = r.scene.given + 1 }) j (newcomer v)
  new_knows s r id v at first live few j =
      let x : Scene E = r.scene in let k = r.each id v at in let same = k.number.1 live first in record {
        ticket = ((λ t e. absurd (none_not t e)), omega arith);
        past = (
          (λ _. k.past.0 live),
          k.past.1,
          (λ _. sym (r.history.unwritten v.given (omega arith) (λ e. omega arith))),
          λ _ i t e. absurd (none_in i t e),
        );
        found = λ l e. absurd (none_not l e);
        notes = λ i p e. absurd (none_in i p e);
        number = ((λ _. inl (omega arith)), λ _ e. absurd (omega arith));
        turn = ((λ y e. absurd (none_not y e)), λ t. absurd (none_not t.0 t.1));
        told = (
          (λ p e. absurd (none_not p e)),
          (λ _ p e own. absurd (r.turns.unstopped v.given (omega arith) (λ z. omega arith) p e (sym own))),
          λ _ e. absurd (omega arith),
        );
        grab = tt;
      }

  pub splits_on : (id : ℕ) (v : View E) → v.number ≡ worker → 0 < v.seats → v.given < 2147483648 → Splits Rule id v (giver v) (newcomer v)
  splits_on id v first live few s r at =
      let x : Scene E = r.scene in
      let k = r.each id v at in
      let x' : Scene E = record x { given = x.given + 1 } in
      let w : View E = giver v in
      let u : View E = newcomer v in
      let same = k.number.1 live first in let l : List (View E) = set s.views id w in let c = r.counts in
      let sum : (g : View E → ℕ) → g w ≡ g v → total g (l ++ u ∷ []) ≡ total g s.views + g u =
      λ g e. omega (arith, total-append g l (u ∷ []), total_same g s.views id v w at e) in
      let seats = sum seats_of refl in let left = sum draws_left refl in let new_left : draws_left u ≡ 4294967296 = refl in
      let nums : (z : ℕ) → total (numbered z) (l ++ u ∷ []) ≡ total (numbered z) s.views + one_if (eqb v.given z) =
      λ z. let a = sum (numbered z) refl in let b : numbered z u ≡ one_if (eqb v.given z) + 0 = refl in omega arith in
      let room = c.room in let made = c.made in
      let kept = counts_kept x.drawn x.given s.views id v w at record {
        seats = refl;
        number = refl;
        joined = refl;
        draws = refl;
        ticket = λ t e. e;
      } c in
      record {
        scene = x';
        words = r.words;
        deep = r.deep;
        counts = record {
          room = omega arith;
          made = omega arith;
          few = omega arith;
          once = λ z. let a = nums z in dite (ℕ_discrete v.given z)
              (λ e. let one = one_same v.given z e in let zero_now = c.fresh z (omega arith) (λ q. omega arith) in omega arith)
              (λ ne. let none_now = one_other v.given z ne in let o = c.once z in omega arith);
          fresh =
              λ z le ne. let a = nums z in let none_now = one_other v.given z (λ e. omega arith) in
              let zero_now = c.fresh z (omega arith) ne in omega arith;
          tickets = apart_more l u kept.tickets refl;
        };
        history = record {
          lawful_now = r.history.lawful_now;
          counted = r.history.counted;
          narrow = r.history.narrow;
          unwritten = λ z le ne. r.history.unwritten z (omega arith) ne;
        };
        each = λ j b e. ⊎_elim
            (λ (old : get_elem? l j ≡ some b). seats_stay (Knows n start x') s.views id w
            record {
              ticket = k.ticket;
              past = k.past;
              found = k.found;
              notes = k.notes;
              number = ((λ _. inr first), λ _ _. ap (λ (z : ℕ). z + 1) same);
              turn = k.turn;
              told = k.told;
              grab = k.grab;
            }
            (λ i b' ne e'. let q = r.each i b' e' in record {
              ticket = q.ticket;
              past = q.past;
              found = q.found;
              notes = q.notes;
              number = (
                (λ lv. ⊎_elim (λ (lt : b'.number < x.given). inl (omega arith)) (λ (is : b'.number ≡ worker). inr is) (q.number.0 lv)),
                λ lv is. absurd (unlike x.drawn x.given s.views id i v b' c ne at e' live lv (first ∙ sym is)),
              );
              turn = q.turn;
              told = q.told;
              grab = q.grab;
            }) j b old)
            (λ (now : u ≡ b). subst (Knows n start x' j) now (new_knows s r id v at first live few j)) (at_snoc l u b j e);
        core = r.core;
        mails = r.mails;
        owned =
            λ i lt held. let t = owned_kept s.views id v w (x.owner i) i (x.mail i) at refl refl (r.owned i lt) held in
            (t.0, at_longer l (u ∷ []) (x.owner i) t.0 t.1, t.2, t.3);
        turns = let t = turns_kept x.given x.turn x.core x.shown x.next s.views id v w at (λ z. z) r.turns in record {
          idle = t.idle;
          busy = λ i e. let b = t.busy i e in (b.0, at_longer l (u ∷ []) i b.0 b.1, b.2);
          unstopped = λ z le ne. r.turns.unstopped z (omega arith) ne;
        };
      }

  spent_knows : (x : Scene E) (j : ℕ) → Knows n start x j spent
  spent_knows x j = record {
    ticket = ((λ t e. absurd (none_not t e)), omega arith);
    past = ((λ e. absurd (omega arith)), (x.entries, refl), (λ e. absurd (omega arith)), λ e. absurd (omega arith));
    found = λ l e. absurd (none_not l e);
    notes = λ i p e. absurd (none_in i p e);
    number = ((λ e. absurd (omega arith)), λ e. absurd (omega arith));
    turn = ((λ y e. absurd (none_not y e)), λ t. absurd (none_not t.0 t.1));
    told = ((λ p e. absurd (none_not p e)), (λ e. absurd (omega arith)), λ e. absurd (omega arith));
    grab = tt;
  }

  notes_join : (x : Scene E) (v u : View E) → KeepsNotes start x v → KeepsNotes start x u → Recalls start x v → Recalls start x u
      → KnowsMarks x u → 0 < u.seats → KeepsNotes start x (both v u)
  notes_join x v u mine theirs here past told live k p e =
      ⊎_elim (λ (old : get_elem? v.joined k ≡ some p). mine k p old) (λ t. go t.0 t.1) (at_append v.joined (note_of v u ∷ u.joined) k p e)
    where
      go : (i : ℕ) → get_elem? (note_of v u ∷ u.joined) i ≡ some p → IsNote start x p
      go zero e = subst (IsNote start x) (some-injective (note_of v u) p e) ((past.1, here.1), past.2 live, told.0, told.1 live)
      go (suc i) e = theirs i p e

  pub joins_on : (id : ℕ) (v : View E) (other : ℕ) (u : View E) → v.ticket ≡ None → u.ticket ≡ None → v.grab ≡ Free → u.grab ≡ Free
      → 0 < v.seats → 0 < u.seats → Joins Rule id v other u (both v u) spent
  joins_on id v other u no_ticket no_other free free' live live' s r at apart there =
      let x : Scene E = r.scene in
      let k = r.each id v at in
      let w : View E = both v u in
      let l : List (View E) = set s.views id w in
      let l' : List (View E) = set l other spent in
      let c = r.counts in
      let at' : get_elem? s.views other ≡ some u = sym (set_else s.views id other w apart) ∙ there in let q = r.each other u at' in
      let sum : (g : View E → ℕ) → total g l' + g u + g v ≡ total g s.views + g w + g spent =
      λ g. omega (arith, total-set g s.views id v w at, total-set g l other u spent there) in
      let seats = sum seats_of in
      let left = sum draws_left in
      let a = left_live v live in
      let b = left_live w (omega arith) in
      let gone : View E = spent in
      let d : draws_left gone ≡ 0 = refl in
      let kd = k.ticket.1 in
      let nums : (z : ℕ) → total (numbered z) l' ≡ total (numbered z) s.views =
      λ z. let e = sum (numbered z) in let f : numbered z gone ≡ 0 + 0 = refl in
      let g = numbered_live z v live in
      let h = numbered_live z u live' in
      let i = numbered_live z w (omega arith) in
      let m = total-append (has_number z) v.joined (note_of v u ∷ u.joined) in
      let mine : ℕ = one_if (eqb v.number z) in let theirs : ℕ = one_if (eqb u.number z) in omega arith in
      let room = c.room in let made = c.made in
      let first_apart : Apart l = apart_set s.views id v w c.tickets at (λ t j b' has ne e. absurd (none_not t (sym no_ticket ∙ has))) in
      let not_free : (z : View E) (g : Grab E) → z.grab ≡ Free → z.grab ≡ g → g ≢ Free → ⊥ = λ z g e e' ne. ne (sym e' ∙ e) in
      record {
        scene = x;
        words = r.words;
        deep = r.deep;
        counts = record {
          room = omega arith;
          made = omega arith;
          few = c.few;
          once = λ z. let e = nums z in let o = c.once z in omega arith;
          fresh = λ z le ne. nums z ∙ c.fresh z le ne;
          tickets = apart_set l other u spent first_apart there (λ t j b' has ne e. absurd (none_not t has));
        };
        history = r.history;
        each = seats_stay (Knows n start x) l other spent (spent_knows x other) (λ j b' ne e. seats_stay (Knows n start x) s.views id w
            record {
              ticket = ((λ t e'. absurd (none_not t (sym no_ticket ∙ e'))), k.ticket.1);
              past = (
                (λ _. k.past.0 live),
                longer_begins x.entries v.seen u.seen k.past.1 q.past.1,
                (λ _. k.past.2 live),
                λ _. longer_recent v.seen u.seen v.commits (k.past.3 live),
              );
              found = k.found;
              notes = notes_join x v u k.notes q.notes k.past q.past q.told live';
              number = ((λ _. k.number.0 live), λ _. k.number.1 live);
              turn = k.turn;
              told = (k.told.0, (λ _. k.told.1 live), λ _. k.told.2 live);
              grab = subst (λ (g : Grab E). Claims n x.mail x.owner x.turn id (v.seats + u.seats) v.number g) (sym free) tt;
            }
            (λ i b'' ne' e'. r.each i b'' e') j b' e);
        core = r.core;
        mails = r.mails;
        owned = λ i lt. owned_else l other u spent (x.owner i) i (x.mail i) there
            (λ held e. let t = r.owned i lt held in
            not_free u (x.mail i) free' (ap (λ (z : View E). z.grab) (same_at s.views other (x.owner i) u t.0 (sym e) at' t.1) ∙ t.2) held)
            (owned_else s.views id v w (x.owner i) i (x.mail i) at
            (λ held e. let t = r.owned i lt held in
            not_free v (x.mail i) free (ap (λ (z : View E). z.grab) (same_at s.views id (x.owner i) v t.0 (sym e) at t.1) ∙ t.2) held)
            (r.owned i lt));
        turns = record {
          idle = r.turns.idle;
          busy = λ i e. let b' = r.turns.busy i e in let ticket = ((r.each i b'.0 b'.1).turn.0 b'.2.0 b'.2.1).0 in
              let not_id : i ≢ id =
              λ z.
              none_not x.served (sym no_ticket ∙ (ap (λ (y : View E). y.ticket) (same_at s.views id i v b'.0 (sym z) at b'.1) ∙ ticket)) in
              let not_other : i ≢ other =
              λ z. none_not x.served
              (sym no_other ∙ (ap (λ (y : View E). y.ticket) (same_at s.views other i u b'.0 (sym z) at' b'.1) ∙ ticket)) in
              (b'.0, set_else l other i spent not_other ∙ (set_else s.views id i w not_id ∙ b'.1), b'.2);
          unstopped = r.turns.unstopped;
        };
      }
