-- Slot 0 leaves its place with the holder of the turn, and comes back.
use Rattle.std.proofs.Common.{◌≡◌, ℕ, ◌+◌, ◌<◌, true, List, [], ◌∷◌, length, set, get_or, sym, refl, ◌∙◌, subst, arith, length-set, Option}
use Rattle.std.proofs.Common.{Some, None}
use mathlib.Core.Option.{some, none}
use mathlib.Core.Option as maybe
use lib.ListN.{get_elem?}
use Rattle.atomic_table.specs.Table.{State, Me, step, takes, gives, Allows}
use Rattle.atomic_table.proofs.Lists.{set_else}
use Rattle.board_rule.specs.declared.board.SlotValue.{SlotValue}
use Rattle.board_rule.specs.declared.board.SlotValue.TheVariants.{Core}
use Rattle.board_rule.specs.declared.view.Marks.{Marks}
use Rattle.board_rule.specs.declared.view.At.{At}
use Rattle.board_rule.specs.declared.view.At.TheVariants.{Home, Away, Hand}
use Rattle.board_rule.specs.declared.view.View.{View}
use Rattle.board_rule.specs.Views.{marked, HasTurn, history_of, authors_of, marks_of, Fits}
use Rattle.board_rule.specs.Board.{Naming, Scene, Knows, CoreIs, MailOk, Ruled}
use Rattle.board_rule.specs.Plays.{at_of, puts_core, CoreHas, takes_core}
use Rattle.board_rule.proofs.Keeps.{seats_stay, counts_kept, owned_kept, turns_kept}
use Rattle.board_rule.specs.Views.{core_rests}
use Rattle.board_rule.proofs.Keeps.{set_inside}
use Rattle.board_rule.proofs.Turns.{loaded, holds, entries_are, authors_are, marks_are, not_his}
use Rattle.std.proofs.Common.{IfSome}

module _ {H S E : Type 0} (N : Naming H S E) (n start : ℕ) where
  abbrev St : Type 0
  St = State (SlotValue H S) (View E)

  abbrev M : Type 0
  M = Me (SlotValue H S) (View E)

  abbrev Rule : St → Type 0
  Rule = Ruled N n start

  abbrev FitsIn : View E → H → Type 0
  FitsIn v h = Fits (N.entries h) (N.authors h) (N.marks h) (N.sound h) v

  -- what lies in slot 0, where it is in its place
  core_lies : (es : List E) (who : List ℕ) (mk : Marks) (c : At) (p : maybe.Option (maybe.Option (SlotValue H S))) → core_rests c ≡ true
      → CoreIs N es who mk c p
      → (o : Option H) × (p ≡ some (some (Core o)))
      × CoreHas (λ h. (N.entries h ≡ es) × (N.authors h ≡ who) × (N.marks h ≡ mk) × N.sound h) c o
  core_lies es who mk Home p rests is = (Some is.0, is.1, (is.0, refl, (is.2, is.3, is.4, is.5)))
  core_lies es who mk Away p rests is = (None, is, refl)
  core_lies es who mk Hand p rests is = absurd (cc)

  -- slot 0 changes, and with it only where its value is
  moves_core : (s : St) (r : Rule s) (id : ℕ) (v : View E) (has : HasTurn v) (to : At) (h : maybe.Option (SlotValue H S))
      → get_elem? s.views id ≡ some v → CoreIs N r.scene.entries r.scene.authors (marked r.scene.shown r.scene.next) to (some h)
      → Rule record { words = s.words; homes = set s.homes 0 h; views = set s.views id (record v { core = to }) }
  moves_core s r id v has to h at is =
      let x : Scene E = r.scene in
      let k = r.each id v at in
      let hold = holds N n start s r id v at has in
      let his = hold.2 in
      let w : View E = record v { core = to } in
      let x' : Scene E = record x { core = to } in
      let deep = r.deep in let inside : 0 < length s.homes = omega arith in
      record {
        scene = x';
        words = r.words;
        deep = length-set s.homes 0 h ∙ deep;
        counts = counts_kept x.drawn x.given s.views id v w at record {
          seats = refl;
          number = refl;
          joined = refl;
          draws = refl;
          ticket = λ t e. e;
        } r.counts;
        history = r.history;
        each = seats_stay (Knows n start x') s.views id w
            record {
              ticket = k.ticket;
              past = k.past;
              found = k.found;
              notes = k.notes;
              number = k.number;
              turn = ((λ y e. let t = k.turn.0 y e in (t.0, t.1, t.2, refl, t.4)), k.turn.1);
              told = k.told;
              grab = k.grab;
            }
            (λ j u ne e. let q = r.each j u e in record {
              ticket = q.ticket;
              past = q.past;
              found = q.found;
              notes = q.notes;
              number = q.number;
              turn = ((λ y has'. absurd (not_his N n start s r id v at has j u ne e y has')), q.turn.1);
              told = q.told;
              grab = q.grab;
            });
        core = subst (CoreIs N x.entries x.authors (marked x.shown x.next) to) (sym (set_inside s.homes 0 h inside)) is;
        mails =
            λ i l. subst (λ (p : maybe.Option (maybe.Option (SlotValue H S))). MailOk N x.entries (get_or s.words (i + 3) 0) p (x.mail i))
            (sym (set_else s.homes 0 (i + 1) h (λ e. omega arith))) (r.mails i l);
        owned = λ i l. owned_kept s.views id v w (x.owner i) i (x.mail i) at refl refl (r.owned i l);
        turns = let t = turns_kept x.given x.turn x.core x.shown x.next s.views id v w at (λ z. z) r.turns in record {
          idle = λ e. absurd (omega arith);
          busy = t.busy;
          unstopped = r.turns.unstopped;
        };
      }

  had : {P : H → Type 0} (Q : H → Type 0) (c : At) (o : Option H) → ((h : H) → P h → Q h) → CoreHas P c o → CoreHas Q c o
  had Q Home o more is = (is.0, is.1, more is.0 is.2)
  had Q Away o more is = is
  had Q Hand o more is = is

  pub takes_core_on : (slots id : ℕ) (m : M) (kept : H → Type 0)
      → ((h : H) → N.sound h → kept h) → HasTurn m.0 → core_rests m.0.core ≡ true → m.1 ≡ []
      → Allows Rule slots id m 1 (λ z. z)
      (takes_core (λ h. Fits (N.entries h) (N.authors h) (N.marks h) (kept h)) (step slots 1 0 0 none) m)
  takes_core_on slots id m kept told has rests bare s r deep at _ =
      let v : View E = m.0 in let x : Scene E = r.scene in let hold = holds N n start s r id v at has in let p = get_elem? s.homes 0 in
      let es = entries_are N n start s r id v at has in
      let who = authors_are N n start s r id v at has in
      let mk = marks_are N n start s r id v at has in
      let was : CoreIs N (history_of v) (authors_of v) (marks_of v) v.core p =
      subst (λ (q : List E × List ℕ × Marks × At). CoreIs N q.0 q.1 q.2 q.3 p)
      (λ i. (sym es i, sym who i, sym mk i, sym hold.3 i)) r.core in
      let lies = core_lies (history_of v) (authors_of v) (marks_of v) v.core p rests was in
      let o = lies.0 in
      let w : View E = record v { core = Hand } in (
        w,
        takes 0 (Core o),
        lies.1,
        loaded N n start s 1 (set s.homes 0 none) (set s.views id w) (moves_core s r id v has Hand none at refl),
        (
          o,
          (λ i. (w, (0, Core o) ∷ bare i)),
          had (λ h. Fits (N.entries h) (N.authors h) (N.marks h) (kept h) v) v.core o (λ h f. (f.0, f.1, f.2, told h f.3)) lies.2,
        ),
      )

  core_stands : (x : Scene E) (v : View E) (o : Option H) → history_of v ≡ x.entries
      → authors_of v ≡ x.authors → marks_of v ≡ marked x.shown x.next → IfSome o (FitsIn v)
      → CoreIs N x.entries x.authors (marked x.shown x.next) (at_of o) (some (some (Core o)))
  core_stands x v None es who mk fits = refl
  core_stands x v (Some h) es who mk fits = (h, refl, fits.0 ∙ es, fits.1 ∙ who, fits.2 ∙ mk, fits.3)

  puts_back : (slots id : ℕ) (v : View E) (o : Option H) → HasTurn v → IfSome o (FitsIn v)
      → Allows Rule slots id (v, (0, Core o) ∷ []) 1 (λ z. z) (puts_core (step slots 1 0 0 none) (v, (0, Core o) ∷ []))
  puts_back slots id v o has fits s r deep at _ =
      let w : View E = record v { core = at_of o } in (
        w,
        gives,
        tt,
        loaded N n start s 1 (set s.homes 0 (some (Core o))) (set s.views id w) (moves_core s r id v has (at_of o) (some (Core o)) at
            (core_stands r.scene v o (entries_are N n start s r id v at has) (authors_are N n start s r id v at has)
            (marks_are N n start s r id v at has) fits)),
        refl,
      )

  pub puts_core_on : (slots id : ℕ) (m : M) (o : Option H) → m.1 ≡ (0, Core o) ∷ [] → HasTurn m.0 → IfSome o (FitsIn m.0)
      → Allows Rule slots id m 1 (λ z. z) (puts_core (step slots 1 0 0 none) m)
  puts_core_on slots id m o e has fits =
      subst (λ (c : List (ℕ × SlotValue H S)). Allows Rule slots id (m.0, c) 1 (λ z. z) (puts_core (step slots 1 0 0 none) (m.0, c)))
      (sym e) (puts_back slots id m.0 o has fits)
