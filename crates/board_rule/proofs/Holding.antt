-- What the holder of the turn does keeps the rule: it notes marks, commits, and leaves.
use Rattle.std.proofs.Common.{◌≡◌, ◌≢◌, ⊎_elim, ℕ, ◌+◌, ◌<◌, ◌≤◌, List, [], ◌∷◌, ◌++◌, length, set, get_or, sym, refl, ap, ◌∙◌, subst}
use Rattle.std.proofs.Common.{arith, length-append, length-set, get_or-set_same, get_or-set_other, Some, None}
use mathlib.Core.Logic.{dite}
use mathlib.Core.Option.{some, none}
use mathlib.Core.Option as maybe
use native.Mathlib.Decide.{ℕ_discrete}
use lib.ListN.{get_elem?}
use Rattle.atomic_table.specs.Table.{State, Me, step, keeps, Allows}
use Rattle.board_rule.specs.declared.board.SlotValue.{SlotValue}
use Rattle.board_rule.specs.declared.view.Stop.{Stop}
use Rattle.board_rule.specs.declared.view.Marks.{Marks}
use Rattle.board_rule.specs.declared.view.At.{At}
use Rattle.board_rule.specs.declared.view.At.TheVariants.{Home, Away}
use Rattle.board_rule.specs.declared.view.Grab.{Grab}
use Rattle.board_rule.specs.declared.view.Grab.TheVariants.{Free, Grabbed, Found, Writing}
use Rattle.board_rule.specs.declared.view.View.{View}
use Rattle.board_rule.specs.Views.{worker, StartsWith, commits_of, marked, MayMark, story, HasTurn, history_of, authors_of, named_of}
use Rattle.board_rule.specs.Views.{marks_of, noted, added, ended}
use Rattle.board_rule.specs.Board.{Naming, Scene, Claims, KeepsNotes, Knows, CoreIs, MailOk, Ruled}
use Rattle.board_rule.specs.Plays.{notes_marks, commits, leaves}
use Rattle.board_rule.proofs.Sums.{none_not, same_some}
use Rattle.board_rule.proofs.Keeps.{starts_whole, starts_more, starts_shorter, commits_other, commits_own, below_snoc, seats_stay}
use Rattle.board_rule.proofs.Keeps.{counts_kept, owned_kept, turns_kept, unnoted, unlike, claims_turn}
use Rattle.board_rule.proofs.Turns.{mails_kept, loaded, holds, entries_are, authors_are, shown_is, marks_are, alive, not_his, turn_not}
use Rattle.board_rule.proofs.Turns.{may_mark}

module _ {H S E : Type 0} (N : Naming H S E) (n start : ℕ) where
  abbrev St : Type 0
  St = State (SlotValue H S) (View E)

  abbrev M : Type 0
  M = Me (SlotValue H S) (View E)

  abbrev Rule : St → Type 0
  Rule = Ruled N n start

  pub notes_on : (slots id : ℕ) (m : M) (k : Marks) → HasTurn m.0 → m.0.core ≡ Away → MayMark m.0.number (named_of m.0) k
      → Allows Rule slots id m 1 (λ z. z) (notes_marks k (step slots 1 0 0 none) m)
  notes_on slots id m new has away may s r deep at _ =
      let v : View E = m.0 in
      let x : Scene E = r.scene in
      let k = r.each id v at in
      let h = holds N n start s r id v at has in
      let w : View E = noted v new in
      let x' : Scene E = record x { next = Some new } in
      let out : x.core ≡ Away = sym h.3 ∙ away in let his = h.2 in let p = get_elem? s.homes 0 in (
        w,
        keeps,
        tt,
        loaded N n start s 1 s.homes (set s.views id w) record {
          scene = x';
          words = r.words;
          deep = r.deep;
          counts = counts_kept x.drawn x.given s.views id v w at record {
            seats = refl;
            number = refl;
            joined = refl;
            draws = refl;
            ticket = λ t e. e;
          } r.counts;
          history = r.history;
          each = seats_stay (Knows n start x') s.views id w
              record {
                ticket = k.ticket;
                past = k.past;
                found = k.found;
                notes = k.notes;
                number = k.number;
                turn = (
                  (λ y e. let t = k.turn.0 y e in (t.0, t.1, t.2, t.3, refl)),
                  λ _ q e. subst (MayMark v.number x.shown) (same_some new q e)
                      (subst (λ (z : Marks). MayMark v.number z new) (shown_is N n start s r id v at has) may),
                );
                told = k.told;
                grab = k.grab;
              }
              (λ j u ne e. let q = r.each j u e in record {
                ticket = q.ticket;
                past = q.past;
                found = q.found;
                notes = q.notes;
                number = q.number;
                turn = ((λ y has'. absurd (not_his N n start s r id v at has j u ne e y has')), q.turn.1);
                told = q.told;
                grab = q.grab;
              });
          core =
              subst (λ (c : At). CoreIs N x.entries x.authors new c p) (sym out)
              (subst (λ (c : At). CoreIs N x.entries x.authors (marked x.shown x.next) c p) out r.core);
          mails = r.mails;
          owned = λ k' l. owned_kept s.views id v w (x.owner k') k' (x.mail k') at refl refl (r.owned k' l);
          turns = let t = turns_kept x.given x.turn x.core x.shown x.next s.views id v w at (λ z. z) r.turns in record {
            idle = λ e. absurd (omega arith);
            busy = t.busy;
            unstopped = r.turns.unstopped;
          };
        },
        refl,
      )

  mail_grows : (es more : List E) (w : ℕ) (p : maybe.Option (maybe.Option (SlotValue H S))) (g : Grab E) → MailOk N es w p g
      → MailOk N (es ++ more) w p g
  mail_grows es more w p Free h = (h.0, (h.1.0, starts_more es more h.1.0 h.1.1, h.1.2))
  mail_grows es more w p Grabbed h = (h.0, (h.1.0, starts_more es more h.1.0 h.1.1, h.1.2))
  mail_grows es more w p (Found l c) h = (h.0, starts_more es more l h.1, h.2)
  mail_grows es more w p (Writing k c) h = h

  pub commits_on : (slots id : ℕ) (m : M) (es : List E) (who : List ℕ) (new : ℕ) (e : E) → HasTurn m.0 → m.0.core ≡ Away
      → es ≡ history_of m.0 ++ e ∷ [] → who ≡ authors_of m.0 ++ m.0.number ∷ []
      → (N.lawful (history_of m.0) → N.lawful es) → new + 1 ≡ length es → length es ≤ 4294967296
      → Allows Rule slots id m 2 (λ _. new) (λ _. commits es who (step slots 2 new 0 none) m new)
  commits_on slots id m es who new e has away ees ewho lawful last narrow s r deep at _ =
      let v : View E = m.0 in
      let x : Scene E = r.scene in
      let k = r.each id v at in
      let h = holds N n start s r id v at has in
      let w : View E = added v es who new in
      let x' : Scene E = record x { entries = es; authors = who } in
      let live = alive N n start s r id v at has in let out : x.core ≡ Away = sym h.3 ∙ away in let p = get_elem? s.homes 0 in
      let is : es ≡ x.entries ++ e ∷ [] = ees ∙ ap (λ (z : List E). z ++ e ∷ []) (entries_are N n start s r id v at has) in
      let by : who ≡ x.authors ++ v.number ∷ [] = ewho ∙ ap (λ (z : List ℕ). z ++ v.number ∷ []) (authors_are N n start s r id v at has) in
      let long : length es ≡ length x.entries + 1 = omega (arith, ap (length {A = E}) is, length-append x.entries (e ∷ [])) in
      let long' : length who ≡ length x.authors + 1 = omega (arith, ap (length {A = ℕ}) by, length-append x.authors (v.number ∷ [])) in
      let counted = r.history.counted in let new_is : new ≡ start + 1 + length x.authors = omega arith in
      let grow : (l : List E) → StartsWith x.entries l → StartsWith es l =
      λ l b. subst (λ (z : List E). StartsWith z l) (sym is) (starts_more x.entries (e ∷ []) l b) in
      let other : (z : ℕ) → v.number ≢ z → commits_of z (start + 1) who ≡ commits_of z (start + 1) x.authors =
      λ z ne. ap (commits_of z (start + 1)) by ∙ commits_other z (start + 1) x.authors v.number ne in
      let wide = r.words.wide in let inside : 2 < length s.words = omega arith in (
        w,
        keeps,
        tt,
        record {
          scene = x';
          words = record {
            wide = length-set s.words 2 new ∙ wide;
            drawn_is = get_or-set_other s.words 2 0 new 0 (λ z. omega arith) ∙ r.words.drawn_is;
            served_is = get_or-set_other s.words 2 1 new 0 (λ z. omega arith) ∙ r.words.served_is;
            basis_is = ap (λ (z : ℕ). z + 1) (get_or-set_same s.words 2 new 0 inside) ∙ last;
            behind = r.words.behind;
          };
          deep = r.deep;
          counts = counts_kept x.drawn x.given s.views id v w at record {
            seats = refl;
            number = refl;
            joined = refl;
            draws = refl;
            ticket = λ t b. b;
          } r.counts;
          history = record {
            lawful_now = lawful (subst N.lawful (sym (entries_are N n start s r id v at has)) r.history.lawful_now);
            counted = omega arith;
            narrow = narrow;
            unwritten =
                λ z le ne. other z (λ same.
                ⊎_elim (λ (b : v.number < x.given). absurd (omega arith)) (λ (b : v.number ≡ worker). ne (sym same ∙ b)) (k.number.0 live))
                ∙ r.history.unwritten z le ne;
          };
          each = seats_stay (Knows n start x') s.views id w
              record {
                ticket = k.ticket;
                past = (
                  k.past.0,
                  starts_whole es,
                  λ l. ap (λ (z : List ℕ). z ++ new ∷ []) (k.past.2 l)
                      ∙ (ap (λ (z : ℕ). commits_of v.number (start + 1) x.authors ++ z ∷ []) new_is
                      ∙ (sym (commits_own v.number (start + 1) x.authors) ∙ ap (commits_of v.number (start + 1)) (sym by))),
                  λ l. let b =
                      starts_shorter x.entries v.seen k.past.1 in
                      below_snoc (length v.seen) (length es) new v.commits (k.past.3 l) (omega arith) (omega arith),
                );
                found = λ l b. grow l (k.found l b);
                notes =
                    λ i q b. let t = k.notes i q b in (
                      (grow q.seen t.0.0, grow q.beside t.0.1),
                      t.1 ∙ sym (other q.number (λ same. unnoted x.drawn x.given s.views id id i v v q r.counts at at live b (sym same))),
                      t.2,
                      t.3,
                    );
                number = k.number;
                turn = (
                  (λ y b. (
                    h.0,
                    sym (same_some _ y b) ∙ ap (λ (z : Marks). story es who z) (shown_is N n start s r id v at has),
                    h.2,
                    h.3,
                    h.4,
                  )),
                  λ _ q b. k.turn.1 has q b,
                );
                told = k.told;
                grab = k.grab;
              }
              (λ j u ne b. let q = r.each j u b in record {
                ticket = q.ticket;
                past = (
                  q.past.0,
                  grow u.seen q.past.1,
                  λ l. q.past.2 l ∙ sym (other u.number (unlike x.drawn x.given s.views id j v u r.counts ne at b live l)),
                  q.past.3,
                );
                found = λ l c. grow l (q.found l c);
                notes =
                    λ i z c. let t = q.notes i z c in (
                      (grow z.seen t.0.0, grow z.beside t.0.1),
                      t.1 ∙ sym (other z.number (λ same. unnoted x.drawn x.given s.views id j i v u z r.counts at b live c (sym same))),
                      t.2,
                      t.3,
                    );
                number = q.number;
                turn = ((λ y has'. absurd (not_his N n start s r id v at has j u ne b y has')), q.turn.1);
                told = q.told;
                grab = q.grab;
              });
          core =
              subst (λ (c : At). CoreIs N es who (marked x.shown x.next) c p) (sym out)
              (subst (λ (c : At). CoreIs N x.entries x.authors (marked x.shown x.next) c p) out r.core);
          mails =
              λ i l.
              subst (λ (z : List E). MailOk N z (get_or (set s.words 2 new) (i + 3) 0) (get_elem? s.homes (i + 1)) (x.mail i)) (sym is)
              (mail_grows x.entries (e ∷ []) (get_or (set s.words 2 new) (i + 3) 0) (get_elem? s.homes (i + 1)) (x.mail i)
              (mails_kept N n start s r 2 new (omega arith) i l));
          owned = λ i l. owned_kept s.views id v w (x.owner i) i (x.mail i) at refl refl (r.owned i l);
          turns = turns_kept x.given x.turn x.core x.shown x.next s.views id v w at (λ _. (_, refl)) r.turns;
        },
        refl,
      )

  pub leaves_on : (slots id : ℕ) (m : M) (t : ℕ) → HasTurn m.0 → m.0.ticket ≡ Some t → m.0.core ≡ Home → m.0.grab ≡ Free
      → Allows Rule slots id m 1 (λ _. t + 1) (λ _. leaves (step slots 1 (t + 1) 0 none) m (t + 1))
  leaves_on slots id m t has mine home free s r deep at _ =
      let v : View E = m.0 in
      let x : Scene E = r.scene in
      let k = r.each id v at in
      let h = holds N n start s r id v at has in
      let w : View E = ended v in
      let now : Marks = marked x.shown x.next in
      let x' : Scene E = record x { served = x.served + 1; turn = 0; shown = now; next = None } in
      let live = alive N n start s r id v at has in
      let may = may_mark N n start s r id v at has in
      let mk : marks_of v ≡ now = marks_are N n start s r id v at has in
      let his = h.2 in
      let t_is : x.served ≡ t = same_some x.served t (sym h.0 ∙ mine) in let due = (k.ticket.0 x.served h.0).1 in
      let in_place : x.core ≡ Home = sym h.3 ∙ home in
      let wide = r.words.wide in
      let inside : 1 < length s.words = omega arith in
      let y : ℕ = t + 1 in
      let stays : (q : Stop) → x.shown.stop ≡ Some q → now.stop ≡ Some q = may.0 in
      let notes_stay : (j : ℕ) (u : View E) → get_elem? s.views j ≡ some u → KeepsNotes start x' u =
      λ j u b i z c. let a = (r.each j u b).notes i z c in (
        a.0,
        a.1,
        (λ q e. stays q (a.2 q e)),
        λ q e own. ⊎_elim (λ (old : x.shown.stop ≡ Some q). a.3 q old own)
            (λ (by : q.author ≡ v.number). absurd (unnoted x.drawn x.given s.views id j i v u z r.counts at b live c (own ∙ by)))
            (may.1 q e),
      ) in (
        w,
        keeps,
        tt,
        record {
          scene = x';
          words = record {
            wide = length-set s.words 1 y ∙ wide;
            drawn_is = get_or-set_other s.words 1 0 y 0 (λ z. omega arith) ∙ r.words.drawn_is;
            served_is = get_or-set_same s.words 1 y 0 inside ∙ ap (λ (z : ℕ). z + 1) (sym t_is);
            basis_is = ap (λ (z : ℕ). z + 1) (get_or-set_other s.words 1 2 y 0 (λ z. omega arith)) ∙ r.words.basis_is;
            behind = omega arith;
          };
          deep = r.deep;
          counts = counts_kept x.drawn x.given s.views id v w at record {
            seats = refl;
            number = refl;
            joined = refl;
            draws = refl;
            ticket = λ z b. absurd (none_not z b);
          } r.counts;
          history = r.history;
          each = seats_stay (Knows n start x') s.views id w
              record {
                ticket = ((λ z b. absurd (none_not z b)), k.ticket.1);
                past = k.past;
                found = k.found;
                notes = notes_stay id v at;
                number = k.number;
                turn = ((λ z b. absurd (none_not z b)), λ z. absurd (none_not z.0 z.1));
                told = (
                  (λ q e. ap (λ (z : Marks). z.stop) (sym mk) ∙ e),
                  (λ _ q e _. ap (λ (z : Marks). z.stop) mk ∙ e),
                  λ _ _. ap (λ (z : Marks). z.covered) mk,
                );
                grab = subst (λ (g : Grab E). Claims n x.mail x.owner 0 id v.seats v.number g) (sym free) tt;
              }
              (λ j u ne b. let q = r.each j u b in record {
                ticket = (
                  (λ z e. let a = q.ticket.0 z e in let le = a.0 in (
                    dite (ℕ_discrete z x.served)
                        (λ same. absurd (r.counts.tickets id j x.served v u (λ c. ne (sym c)) at b h.0 (e ∙ ap Some same)))
                        (λ apart. omega arith),
                    a.1,
                    a.2,
                  )),
                  q.ticket.1,
                );
                past = q.past;
                found = q.found;
                notes = notes_stay j u b;
                number = q.number;
                turn = (
                  (λ z e. absurd (not_his N n start s r id v at has j u ne b z e)),
                  λ z. absurd (not_his N n start s r id v at has j u ne b z.0 z.1),
                );
                told = (
                  (λ z e. stays z (q.told.0 z e)),
                  (λ l z e own. ⊎_elim (λ (old : x.shown.stop ≡ Some z). q.told.1 l z old own) (λ (by : z.author ≡ v.number).
                      absurd (unlike x.drawn x.given s.views id j v u r.counts ne at b live l (sym (own ∙ by)))) (may.1 z e)),
                  λ l e. ⊎_elim (λ (same : now.covered ≡ x.shown.covered). q.told.2 l e ∙ sym same)
                      (λ (by : v.number ≡ worker). absurd (unlike x.drawn x.given s.views id j v u r.counts ne at b live l (by ∙ sym e)))
                      may.2,
                );
                grab = claims_turn n x.mail x.owner x.turn 0 j u.seats u.number u.grab (turn_not N n start s r id v at has j ne) q.grab;
              });
          core = r.core;
          mails = mails_kept N n start s r 1 y (omega arith);
          owned = λ i l. owned_kept s.views id v w (x.owner i) i (x.mail i) at refl refl (r.owned i l);
          turns = record {
            idle = λ _. (in_place, refl);
            busy = λ i e. absurd (omega arith);
            unstopped = λ z le ne q e same. ⊎_elim (λ (old : x.shown.stop ≡ Some q). r.turns.unstopped z le ne q old same)
                (λ (by : q.author ≡ v.number). ⊎_elim (λ (b : v.number < x.given). absurd (omega arith))
                (λ (b : v.number ≡ worker). ne (sym same ∙ (by ∙ b))) (k.number.0 live)) (may.1 q e);
          };
        },
        refl,
      )
