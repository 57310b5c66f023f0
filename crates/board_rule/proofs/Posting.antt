-- The steps of the holder of the turn on a session's mail word keep the rule.
use Rattle.std.proofs.Common.{◌≡◌, ◌≢◌, inl, inr, ℕ, ◌+◌, ◌-◌, ◌<◌, List, set, get_or, eqb, sym, refl, ap, ◌∙◌, subst, arith}
use mathlib.Core.Option.{some, none}
use mathlib.Core.Option as maybe
use lib.ListN.{get_elem?}
use Rattle.atomic_table.specs.Table.{State, Me, step, keeps, Allows}
use Rattle.board_rule.specs.declared.board.SlotValue.{SlotValue}
use Rattle.board_rule.specs.declared.view.Content.TheVariants.{Full}
use Rattle.board_rule.specs.declared.view.Grab.{Grab}
use Rattle.board_rule.specs.declared.view.Grab.TheVariants.{Free, Grabbed, Found, Writing}
use Rattle.board_rule.specs.declared.view.View.{View}
use Rattle.board_rule.specs.Views.{StartsWith, HasTurn, history_of, session_of}
use Rattle.board_rule.specs.Board.{Naming, Scene, Claims, MailOk, Ruled}
use Rattle.board_rule.proofs.Keeps.{same_at, starts_whole}
use prog.Atomic.{either}
use Rattle.board_rule.specs.Views.{writing, skipped}
use Rattle.board_rule.specs.Plays.{grabs_mail, lets_mail_go}
use Rattle.board_rule.proofs.Keeps.{exchanged}
use Rattle.board_rule.proofs.Turns.{loaded, learns, holds, entries_are, alive}
use Rattle.board_rule.proofs.Mailing.{holds_now, mail_step, mail_held, mail_stands, owner_claims, Goes}

module _ {H S E : Type 0} (N : Naming H S E) (n start : ℕ) where
  abbrev St : Type 0
  St = State (SlotValue H S) (View E)

  abbrev M : Type 0
  M = Me (SlotValue H S) (View E)

  abbrev Rule : St → Type 0
  Rule = Ruled N n start

  abbrev Slot : Type 0
  Slot = maybe.Option (maybe.Option (SlotValue H S))

  -- the holder of the turn finds a session's word at 0 or 1
  holder_meets : (s : St) (r : Rule s) (id k : ℕ) (v : View E) → get_elem? s.views id ≡ some v → k < n → HasTurn v → v.grab ≡ Free
      → get_or s.words (k + 3) 0 ≢ 0 → get_or s.words (k + 3) 0 ≡ 1
  holder_meets s r id k v at near has free ne =
      let w : ℕ = get_or s.words (k + 3) 0 in
      let p = get_elem? s.homes (k + 1) in
      let ok = r.mails k near in
      let held = mail_held N n start r.scene.entries w p (r.scene.mail k) ok ne in
      let t = r.owned k near held in go (r.scene.mail k) ok held t.0 t.1 t.2 (owner_claims N n start s r k near held)
    where
      go : (g : Grab E) → MailOk N r.scene.entries (get_or s.words (k + 3) 0) (get_elem? s.homes (k + 1)) g → g ≢ Free
          → (u : View E) → get_elem? s.views (r.scene.owner k) ≡ some u → u.grab ≡ g
          → Claims n r.scene.mail r.scene.owner r.scene.turn (r.scene.owner k) u.seats u.number g → get_or s.words (k + 3) 0 ≡ 1
      go Free ok held u e grab c = absurd (held refl)
      go Grabbed ok held u e grab c = ok.0
      go (Found l d) ok held u e grab c = ok.0
      go (Writing j d) ok held u e grab c =
          let his = (holds N n start s r id v at has).2 in let theirs = c.1 in let o : r.scene.owner k ≡ id = omega arith in
          absurd (held (sym grab ∙ (ap (λ (z : View E). z.grab) (sym (same_at s.views id (r.scene.owner k) v u (sym o) at e)) ∙ free)))

  pub grabs_mail_on : (slots id k : ℕ) (m : M) → k < n → HasTurn m.0 → m.0.grab ≡ Free
      → Allows Rule slots id m (k + 3) (λ z. either (eqb z 0) 2 z) (grabs_mail (step slots (k + 3) 0 2 none) m)
  grabs_mail_on slots id k m near has free s r deep at _ =
      let v : View E = m.0 in
      let x : Scene E = r.scene in
      let q = r.each id v at in
      let f : ℕ = get_or s.words (k + 3) 0 in
      let hold = holds N n start s r id v at has in
      let back : k ≡ k + 3 - 3 = omega arith in
      exchanged f 0 2 (Goes N n start s id m (k + 3) (grabs_mail (step slots (k + 3) 0 2 none) m f))
      (λ hit. let t = mail_stands N n start s r k near hit in let l : List E = t.1.0 in let w : View E = writing v k l in
      let g : Grab E = Writing k (Full l) in (
        w,
        keeps,
        tt,
        mail_step N n start s r id v w k 2 g s.homes at near (inl t.0)
            (inl free) record { seats = refl; number = refl; joined = refl; draws = refl; ticket = λ z e. e } (λ z. z)
            record {
              ticket = q.ticket;
              past = q.past;
              found = q.found;
              notes = q.notes;
              number = q.number;
              turn = q.turn;
              told = q.told;
              grab = (holds_now n x.mail x.owner k id g (inl t.0) v.seats near (alive N n start s r id v at has), hold.2);
            }
            (λ _. (refl, refl)) (refl, t.1.2) refl refl (λ i _. refl),
        (sym hit, (λ _. (l, λ c. (writing v (back c) l, m.1))), λ ne. absurd (ne hit)),
      ))
      (λ miss. let one = holder_meets s r id k v at near has free miss in let w : View E = skipped v k in (
        w,
        keeps,
        tt,
        loaded N n start s (k + 3) s.homes (set s.views id w) (learns N n start s r id v w at record {
          seats = refl;
          number = refl;
          joined = refl;
          draws = refl;
          ticket = λ z e. e;
        } refl (λ z. z) record {
          ticket = q.ticket;
          past = q.past;
          found = q.found;
          notes = q.notes;
          number = q.number;
          turn = q.turn;
          told = q.told;
          grab = q.grab;
        }),
        (sym one, (λ hit. absurd (miss hit)), λ _ c. (skipped v (back c), m.1)),
      ))

  pub lets_mail_go_on : (slots id k : ℕ) (m : M) → HasTurn m.0 → m.0.grab ≡ Writing k (Full (history_of m.0))
      → Allows Rule slots id m (k + 3) (λ _. 0) (λ _. lets_mail_go (step slots (k + 3) 0 0 none) m 0)
  lets_mail_go_on slots id k m has is s r deep at _ =
      let v : View E = m.0 in
      let x : Scene E = r.scene in
      let q = r.each id v at in
      let l : List E = history_of v in
      let c = subst (Claims n x.mail x.owner x.turn id v.seats v.number) is q.grab in
      let near = c.0.0 in
      let p = get_elem? s.homes (k + 1) in
      let ok = subst (MailOk N x.entries (get_or s.words (k + 3) 0) p) c.0.2 (r.mails k near) in
      let w : View E = record v { grab = Free } in (
        w,
        keeps,
        tt,
        mail_step N n start s r id v w k 0 Free s.homes at near (inr c.0.3) (inr (ap (session_of v.number) is)) record {
          seats = refl;
          number = refl;
          joined = refl;
          draws = refl;
          ticket = λ z e. e;
        } (λ z. z)
            record {
              ticket = q.ticket;
              past = q.past;
              found = q.found;
              notes = q.notes;
              number = q.number;
              turn = q.turn;
              told = q.told;
              grab = tt;
            }
            (λ ne. absurd (ne refl)) (
              refl,
              (l, subst (λ (z : List E). StartsWith z l) (entries_are N n start s r id v at has) (starts_whole l), ok.1),
            ) refl refl (λ i _. refl),
        refl,
      )
