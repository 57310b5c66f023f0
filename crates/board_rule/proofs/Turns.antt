-- Drawing a ticket, looking and counting keep the rule.
use Rattle.std.proofs.Common.{◌≡◌, ◌≢◌, inl, ℕ, ◌+◌, ◌-◌, ◌%◌, ◌^◌, ◌<◌, List, length, set, get_or, sym, refl, ap, ◌∙◌, subst, arith}
use Rattle.std.proofs.Common.{length-set, get_or-set_same, get_or-set_other, Option, Some, None}
use mathlib.Core.Logic.{dite}
use mathlib.Core.Option.{some, none}
use mathlib.Core.Option as maybe
use native.Mathlib.Decide.{ℕ_discrete}
use lib.ListN.{get_elem?}
use lib.Seq.{set-get_or}
use Rattle.atomic_table.specs.Table.{State, Me, step, Act, keeps, Valid, carried_after, stepped, Allows}
use Rattle.board_rule.specs.declared.board.SlotValue.{SlotValue}
use Rattle.board_rule.specs.declared.view.Marks.{Marks}
use Rattle.board_rule.specs.declared.view.Story.{Story}
use Rattle.board_rule.specs.declared.view.View.{View}
use Rattle.board_rule.specs.Views.{commits_of, marked, MayMark, story, entries_in, authors_in, marks_in, HasTurn, history_of, authors_of}
use Rattle.board_rule.specs.Views.{named_of, marks_of, drew, began, counted, Looks}
use Rattle.board_rule.specs.Board.{Naming, Scene, seats_of, draws_left, numbered, Knows, MailOk, Ruled}
use Rattle.board_rule.specs.Plays.{draws_ticket, looks, counts}
use Rattle.board_rule.proofs.Sums.{total-set, term_le, none_not, same_some, left_live}
use Rattle.board_rule.proofs.Keeps.{set_at, same_at, starts_whole, starts_shorter, seats_stay, apart_set, Alike, counts_kept, owned_kept}
use Rattle.board_rule.proofs.Keeps.{turns_kept, total_same, claims_turn}

module _ {H S E : Type 0} (N : Naming H S E) (n start : ℕ) where
  abbrev St : Type 0
  St = State (SlotValue H S) (View E)

  abbrev M : Type 0
  M = Me (SlotValue H S) (View E)

  abbrev Rule : St → Type 0
  Rule = Ruled N n start

  -- a step on one of the first three words leaves the mail as it was
  pub mails_kept : (s : St) (r : Rule s) (i y : ℕ) → i < 3 → (k : ℕ) → k < n
      → MailOk N r.scene.entries (get_or (set s.words i y) (k + 3) 0) (get_elem? s.homes (k + 1)) (r.scene.mail k)
  mails_kept s r i y small k l =
      subst (λ z. MailOk N r.scene.entries z (get_elem? s.homes (k + 1)) (r.scene.mail k))
      (sym (get_or-set_other s.words i (k + 3) y 0 (λ e. omega arith))) (r.mails k l)

  -- a load of a word leaves it
  pub loaded : (s : St) (i : ℕ) (hs : List (maybe.Option (SlotValue H S))) (vs : List (View E))
      → Rule record { words = s.words; homes = hs; views = vs }
      → Rule record { words = set s.words i (get_or s.words i 0); homes = hs; views = vs }
  loaded s i hs vs r = subst (λ (ws : List ℕ). Rule record { words = ws; homes = hs; views = vs }) (sym (set-get_or s.words i 0)) r

  -- a seat comes to know other things, and nothing else changes
  pub learns : (s : St) (r : Rule s) (id : ℕ) (v w : View E) → get_elem? s.views id ≡ some v → Alike v w → w.grab ≡ v.grab
      → (HasTurn v → HasTurn w) → Knows n start r.scene id w
      → Rule record { words = s.words; homes = s.homes; views = set s.views id w }
  learns s r id v w at a same turn knows = record {
    scene = r.scene;
    words = r.words;
    deep = r.deep;
    counts = counts_kept r.scene.drawn r.scene.given s.views id v w at a r.counts;
    history = r.history;
    each = seats_stay (Knows n start r.scene) s.views id w knows (λ j u ne e. r.each j u e);
    core = r.core;
    mails = r.mails;
    owned = λ k l. owned_kept s.views id v w (r.scene.owner k) k (r.scene.mail k) at same a.number (r.owned k l);
    turns = turns_kept r.scene.given r.scene.turn r.scene.core r.scene.shown r.scene.next s.views id v w at turn r.turns;
  }

  pub draws : (slots id : ℕ) (m : M) → m.0.ticket ≡ None → m.0.draws < 4294967296 → 0 < m.0.seats
      → Allows Rule slots id m 0 (λ k. (k + 1) % 2 ^ 64) (draws_ticket (step slots 0 1 0 none) m)
  draws slots id m none_yet few live s r deep at _ =
      let v : View E = m.0 in
      let x : Scene E = r.scene in
      let k = r.each id v at in
      let f : ℕ = get_or s.words 0 0 in
      let is : f ≡ x.drawn = r.words.drawn_is in
      let c = r.counts in
      let room = c.room in
      let made = c.made in
      let few' = c.few in
      let part = term_le draws_left s.views id v at in
      let mine = left_live v live in
      let small : f < 9223372041149743104 = omega arith in let next : (f + 1) % 18446744073709551616 ≡ f + 1 = omega arith in
      let w : View E = drew v f in let x' : Scene E = record x { drawn = x.drawn + 1 } in let mine' = left_live w live in
      let moved = total-set draws_left s.views id v w at in let same = total_same seats_of s.views id v w at refl in
      let wide = r.words.wide in let behind = r.words.behind in let inside : 0 < length s.words = omega arith in let y : ℕ = f + 1 in (
        w,
        keeps,
        tt,
        subst (λ z. Rule record { words = set s.words 0 z; homes = s.homes; views = set s.views id w }) (sym next) record {
          scene = x';
          words = record {
            wide = length-set s.words 0 y ∙ wide;
            drawn_is = get_or-set_same s.words 0 y 0 inside ∙ ap (λ (z : ℕ). z + 1) is;
            served_is = get_or-set_other s.words 0 1 y 0 (λ e. omega arith) ∙ r.words.served_is;
            basis_is = ap (λ (z : ℕ). z + 1) (get_or-set_other s.words 0 2 y 0 (λ e. omega arith)) ∙ r.words.basis_is;
            behind = omega arith;
          };
          deep = r.deep;
          counts = record {
            room = omega arith;
            made = same ∙ made;
            few = few';
            once = λ z. let a = c.once z in let b = total_same (numbered z) s.views id v w at refl in omega arith;
            fresh = λ z h ne. total_same (numbered z) s.views id v w at refl ∙ c.fresh z h ne;
            tickets =
                apart_set s.views id v w c.tickets at (λ t j u has ne e also. let a = same_some f t has in
                let b = (r.each j u e).ticket.0 t also in let lt = b.1 in absurd (omega arith));
          };
          history = r.history;
          each = seats_stay (Knows n start x') s.views id w
              record {
                ticket = ((λ t e. let a = same_some f t e in (omega arith, omega arith, live)), omega arith);
                past = k.past;
                found = k.found;
                notes = k.notes;
                number = k.number;
                turn = ((λ h e. absurd (none_not x.served (sym none_yet ∙ (k.turn.0 h e).0))), k.turn.1);
                told = k.told;
                grab = k.grab;
              }
              (λ j u ne e. let q = r.each j u e in record {
                ticket = ((λ t h. let a = q.ticket.0 t h in let lt = a.1 in (a.0, omega arith, a.2)), q.ticket.1);
                past = q.past;
                found = q.found;
                notes = q.notes;
                number = q.number;
                turn = q.turn;
                told = q.told;
                grab = q.grab;
              });
          core = r.core;
          mails = mails_kept s r 0 y (omega arith);
          owned = λ k' l. owned_kept s.views id v w (x.owner k') k' (x.mail k') at refl refl (r.owned k' l);
          turns = turns_kept x.given x.turn x.core x.shown x.next s.views id v w at (λ t. t) r.turns;
        },
        (refl, small),
      )

  -- a load that tells nothing new
  pub unmoved : (s : St) (r : Rule s) (id i : ℕ) (v : View E) → get_elem? s.views id ≡ some v
      → Rule record { words = set s.words i (get_or s.words i 0); homes = s.homes; views = set s.views id v }
  unmoved s r id i v at = loaded s i s.homes (set s.views id v) (learns s r id v v at record {
    seats = refl;
    number = refl;
    joined = refl;
    draws = refl;
    ticket = λ t e. e;
  } refl (λ t. t) (r.each id v at))

  pub counts_on : (slots id : ℕ) (m : M) → Allows Rule slots id m 2 (λ k. k) (counts (step slots 2 0 0 none) m)
  counts_on slots id m s r deep at _ =
      let v : View E = m.0 in
      let x : Scene E = r.scene in
      let k = r.each id v at in
      let w : View E = counted v x.entries in
      let basis = r.words.basis_is in
      let narrow = r.history.narrow in (
        w,
        keeps,
        tt,
        loaded s 2 s.homes (set s.views id w) (learns s r id v w at record {
          seats = refl;
          number = refl;
          joined = refl;
          draws = refl;
          ticket = λ t e. e;
        } refl (λ t. t) record {
          ticket = k.ticket;
          past = (
            k.past.0,
            starts_whole x.entries,
            k.past.2,
            λ live i t e. let a = k.past.3 live i t e in let b = starts_shorter x.entries v.seen k.past.1 in omega arith,
          );
          found = k.found;
          notes = k.notes;
          number = k.number;
          turn = k.turn;
          told = k.told;
          grab = k.grab;
        }),
        (
          x.entries,
          refl,
          basis,
          omega arith,
          k.past.1,
          λ t. ap (λ (y : Story E). y.entries) (sym (k.turn.0 t.0 t.1).1) ∙ ap entries_in (sym t.1),
        ),
      )

  -- what the holder of the turn knows, as the rule has it
  module _ (s : St) (r : Rule s) (id : ℕ) (v : View E) (at : get_elem? s.views id ≡ some v) (has : HasTurn v) where
    pub holds : (v.ticket ≡ Some r.scene.served) × (has.0 ≡ story r.scene.entries r.scene.authors r.scene.shown) × (r.scene.turn ≡ id + 1)
        × (v.core ≡ r.scene.core) × (v.next ≡ r.scene.next)
    holds = (r.each id v at).turn.0 has.0 has.1

    pub entries_are : history_of v ≡ r.scene.entries
    entries_are = ap entries_in has.1 ∙ ap (λ (y : Story E). y.entries) holds.1

    pub authors_are : authors_of v ≡ r.scene.authors
    authors_are = ap authors_in has.1 ∙ ap (λ (y : Story E). y.authors) holds.1

    pub shown_is : named_of v ≡ r.scene.shown
    shown_is = ap marks_in has.1 ∙ ap (λ (y : Story E). y.marks) holds.1

    pub marks_are : marks_of v ≡ marked r.scene.shown r.scene.next
    marks_are = λ i. marked (shown_is i) (holds.4 i)

    pub alive : 0 < v.seats
    alive = ((r.each id v at).ticket.0 r.scene.served holds.0).2

    -- no other seat has the turn
    pub not_his : (j : ℕ) (u : View E) → j ≢ id → get_elem? s.views j ≡ some u → (y : Story E) → u.turn ≡ Some y → ⊥
    not_his j u ne e y has' = let a = ((r.each j u e).turn.0 y has').2 in let b = holds.2 in ne (omega arith)

    pub turn_not : (j : ℕ) → j ≢ id → r.scene.turn ≡ j + 1 → ⊥
    turn_not j ne e = let b = holds.2 in ne (omega arith)

    pub may_mark : MayMark v.number r.scene.shown (marked r.scene.shown r.scene.next)
    may_mark = go r.scene.next refl
      where
        go : (o : Option Marks) → r.scene.next ≡ o → MayMark v.number r.scene.shown (marked r.scene.shown o)
        go None e = ((λ p h. h), (λ p h. inl h), inl refl)
        go (Some k) e = (r.each id v at).turn.1 has k (holds.4 ∙ e)

  has_ticket : (o : Option ℕ) (t : ℕ) → Dec (o ≡ Some t)
  has_ticket None t = no (λ e. none_not t e)
  has_ticket (Some a) t = go (ℕ_discrete a t)
    where
      go : Dec (a ≡ t) → Dec (Some a ≡ Some t)
      go (yes e) = yes (ap Some e)
      go (no ne) = no (λ e. ne (same_some a t e))

  abbrev Looked : St → ℕ → View E → List (ℕ × SlotValue H S) → Option (Story E) → Type 0
  Looked s id v carried o =
      (w : View E) × (a : Act (SlotValue H S)) × Valid s.homes carried a × Rule (stepped s 1 (get_or s.words 1 0) id carried w a)
      × (Looks N.lawful o v (get_or s.words 1 0) w × (carried_after carried a ≡ carried))

  -- nobody has the turn while the ticket served is of a seat that has not looked
  turn_free : (s : St) (r : Rule s) (id : ℕ) (v : View E) → get_elem? s.views id ≡ some v → v.turn ≡ None → v.ticket ≡ Some r.scene.served
      → r.scene.turn ≡ 0
  turn_free s r id v at none_yet mine = dite (ℕ_discrete r.scene.turn 0) (λ e. e)
      (λ ne. let i : ℕ = r.scene.turn - 1 in let is : r.scene.turn ≡ i + 1 = omega arith in let b = r.turns.busy i is in
      dite (ℕ_discrete i id)
      (λ e. absurd (none_not b.2.0 (sym none_yet ∙ (ap (λ (z : View E). z.turn) (same_at s.views id i v b.0 (sym e) at b.1) ∙ b.2.1))))
      (λ other.
      absurd (r.counts.tickets id i r.scene.served v b.0 (λ e. other (sym e)) at b.1 mine ((r.each i b.0 b.1).turn.0 b.2.0 b.2.1).0)))

  takes_turn : (s : St) (r : Rule s) (id : ℕ) (v : View E) (carried : List (ℕ × SlotValue H S)) → get_elem? s.views id ≡ some v
      → 0 < v.seats → v.turn ≡ None → v.ticket ≡ Some (get_or s.words 1 0) → Looked s id v carried None
  takes_turn s r id v carried at live none_yet mine =
      let x : Scene E = r.scene in
      let k = r.each id v at in
      let is = r.words.served_is in
      let served : v.ticket ≡ Some x.served = mine ∙ ap Some is in
      let free : x.turn ≡ 0 = turn_free s r id v at none_yet served in let idle = r.turns.idle free in
      let y : Story E = story x.entries x.authors x.shown in let w : View E = began v y in let x' : Scene E = record x { turn = id + 1 } in
      let not : (j : ℕ) → x.turn ≡ j + 1 → ⊥ = λ j e. omega arith in (
        w,
        keeps,
        tt,
        loaded s 1 s.homes (set s.views id w) record {
          scene = x';
          words = r.words;
          deep = r.deep;
          counts = counts_kept x.drawn x.given s.views id v w at record {
            seats = refl;
            number = refl;
            joined = refl;
            draws = refl;
            ticket = λ t e. e;
          } r.counts;
          history = r.history;
          each = seats_stay (Knows n start x') s.views id w
              record {
                ticket = k.ticket;
                past = k.past;
                found = k.found;
                notes = k.notes;
                number = k.number;
                turn = ((λ h e. (served, sym (same_some y h e), refl, sym idle.0, sym idle.1)), λ _ p e. absurd (none_not p e));
                told = k.told;
                grab = claims_turn n x.mail x.owner x.turn (id + 1) id v.seats v.number v.grab (not id) k.grab;
              }
              (λ j u ne e. let q = r.each j u e in record {
                ticket = q.ticket;
                past = q.past;
                found = q.found;
                notes = q.notes;
                number = q.number;
                turn = ((λ h has. absurd (not j (q.turn.0 h has).2)), q.turn.1);
                told = q.told;
                grab = claims_turn n x.mail x.owner x.turn (id + 1) j u.seats u.number u.grab (not j) q.grab;
              });
          core = r.core;
          mails = r.mails;
          owned = λ k' l. owned_kept s.views id v w (x.owner k') k' (x.mail k') at refl refl (r.owned k' l);
          turns = record {
            idle = λ e. absurd (omega arith);
            busy =
                λ i e. let same : i ≡ id = omega arith in (w, ap (get_elem? (set s.views id w)) same ∙ set_at s.views id v w at, (y, refl));
            unstopped = r.turns.unstopped;
          };
        },
        (
          (
            (λ _. (
              y,
              refl,
              record {
                lawful_now = r.history.lawful_now;
                seen = k.past.1;
                commits = k.past.2 live ∙ ap (λ (z : ℕ). commits_of v.number (z + 1) x.authors) (sym (k.past.0 live));
                counted = ap (λ (z : ℕ). z + 1 + length x.authors) (k.past.0 live) ∙ r.history.counted;
                stop = k.told.0;
                own_stop = k.told.1 live;
                covered = k.told.2 live;
              },
            )),
            λ ne. absurd (ne mine),
          ),
          refl,
        ),
      )

  looks_at : (s : St) (r : Rule s) (id : ℕ) (v : View E) (carried : List (ℕ × SlotValue H S)) → get_elem? s.views id ≡ some v → 0 < v.seats
      → (o : Option (Story E)) → v.turn ≡ o → Looked s id v carried o
  looks_at s r id v carried at live (Some h) is =
      let t = (r.each id v at).turn.0 h is in (v, keeps, tt, unmoved s r id 1 v at, ((refl, t.0 ∙ ap Some (sym r.words.served_is)), refl))
  looks_at s r id v carried at live None is = go (has_ticket v.ticket (get_or s.words 1 0))
    where
      go : Dec (v.ticket ≡ Some (get_or s.words 1 0)) → Looked s id v carried None
      go (yes e) = takes_turn s r id v carried at live is e
      go (no ne) = (v, keeps, tt, unmoved s r id 1 v at, (((λ e. absurd (ne e)), λ _. refl), refl))

  pub looks_on : (slots id : ℕ) (m : M) → 0 < m.0.seats → Allows Rule slots id m 1 (λ k. k) (looks N.lawful (step slots 1 0 0 none) m)
  looks_on slots id m live s r deep at _ = looks_at s r id m.0 m.1 at live m.0.turn refl
