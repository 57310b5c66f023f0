-- The reader's steps on its own mail keep the rule.
use Rattle.std.proofs.Common.{◌≡◌, ◌≢◌, inl, inr, ℕ, ◌+◌, ◌<◌, Bool, true, false, List, length, set, get_or, cond, eqb, sym, refl, ap, ◌∙◌}
use Rattle.std.proofs.Common.{subst}
use mathlib.Core.Logic.{dite}
use mathlib.Core.Option.{some, none}
use mathlib.Core.Option as maybe
use native.Mathlib.Decide.{ℕ_discrete}
use lib.ListN.{get_elem?}
use lib.Seq.{set-get_or}
use Rattle.atomic_table.specs.Table.{State, Me, step, keeps, Allows}
use Rattle.board_rule.specs.declared.board.SlotValue.{SlotValue}
use Rattle.board_rule.specs.declared.view.Content.{Content}
use Rattle.board_rule.specs.declared.view.Content.TheVariants.{Full}
use Rattle.board_rule.specs.declared.view.Grab.{Grab}
use Rattle.board_rule.specs.declared.view.Grab.TheVariants.{Free, Grabbed, Found, Writing}
use Rattle.board_rule.specs.declared.view.View.{View}
use Rattle.board_rule.specs.Views.{StartsWith, AllBelow, session_of}
use Rattle.board_rule.specs.Board.{Naming, Scene, Holds, Claims, MailIs, MailStands, MailOk, Ruled}
use Rattle.board_rule.proofs.Keeps.{same_at, starts_whole, unlike}
use prog.Atomic.{either}
use Rattle.board_rule.specs.Views.{longer, found_of, MayLetGo, grabbed, passed, found, let_go}
use Rattle.board_rule.specs.Plays.{notes_found, grabs_own, lets_own_go}
use Rattle.board_rule.proofs.Keeps.{exchanged, longer_begins, longer_left, longer_right, longer_recent}
use Rattle.board_rule.proofs.Sums.{none_not, same_some}
use Rattle.board_rule.proofs.Turns.{loaded, learns}
use Rattle.board_rule.proofs.Mailing.{holds_now, mail_step, mail_held, mail_stands, owner_claims, Goes}

module _ {H S E : Type 0} (N : Naming H S E) (n start : ℕ) where
  abbrev St : Type 0
  St = State (SlotValue H S) (View E)

  abbrev M : Type 0
  M = Me (SlotValue H S) (View E)

  abbrev Rule : St → Type 0
  Rule = Ruled N n start

  abbrev Slot : Type 0
  Slot = maybe.Option (maybe.Option (SlotValue H S))

  -- the reader finds its own word at 0 or 2
  reader_meets : (s : St) (r : Rule s) (id : ℕ) (v : View E) → get_elem? s.views id ≡ some v → v.number < n → 0 < v.seats → v.grab ≡ Free
      → get_or s.words (v.number + 3) 0 ≢ 0 → get_or s.words (v.number + 3) 0 ≡ 2
  reader_meets s r id v at near live free ne =
      let k : ℕ = v.number in
      let w : ℕ = get_or s.words (k + 3) 0 in
      let p = get_elem? s.homes (k + 1) in
      let ok = r.mails k near in
      let held = mail_held N n start r.scene.entries w p (r.scene.mail k) ok ne in
      let t = r.owned k near held in go (r.scene.mail k) ok held t.0 t.1 t.2 t.3 (owner_claims N n start s r k near held)
    where
      not_other : (u : View E) (g : Grab E) → get_elem? s.views (r.scene.owner v.number) ≡ some u → u.grab ≡ g → g ≢ Free → 0 < u.seats
          → u.number ≡ v.number → ⊥
      not_other u g e grab held lives same = dite (ℕ_discrete (r.scene.owner v.number) id)
          (λ o. held (sym grab ∙ (ap (λ (z : View E). z.grab) (sym (same_at s.views id (r.scene.owner v.number) v u (sym o) at e)) ∙ free)))
          (λ o. unlike r.scene.drawn r.scene.given s.views id (r.scene.owner v.number) v u r.counts o at e live lives (sym same))

      go : (g : Grab E) → MailOk N r.scene.entries (get_or s.words (v.number + 3) 0) (get_elem? s.homes (v.number + 1)) g → g ≢ Free
          → (u : View E) → get_elem? s.views (r.scene.owner v.number) ≡ some u → u.grab ≡ g → session_of u.number g ≡ v.number
          → Claims n r.scene.mail r.scene.owner r.scene.turn (r.scene.owner v.number) u.seats u.number g
          → get_or s.words (v.number + 3) 0 ≡ 2
      go Free ok held u e grab same c = absurd (held refl)
      go Grabbed ok held u e grab same c = absurd (not_other u Grabbed e grab held c.1 same)
      go (Found l d) ok held u e grab same c = absurd (not_other u (Found l d) e grab held c.1 same)
      go (Writing j d) ok held u e grab same c = ok.0

  pub grabs_own_on : (slots id : ℕ) (m : M) → m.0.number < n → 0 < m.0.seats → m.0.grab ≡ Free
      → Allows Rule slots id m (m.0.number + 3) (λ z. either (eqb z 0) 1 z) (grabs_own (step slots (m.0.number + 3) 0 1 none) m)
  grabs_own_on slots id m near live free s r deep at _ =
      let v : View E = m.0 in
      let x : Scene E = r.scene in
      let k : ℕ = v.number in
      let q = r.each id v at in
      let f : ℕ = get_or s.words (k + 3) 0 in
      exchanged f 0 1 (Goes N n start s id m (k + 3) (grabs_own (step slots (k + 3) 0 1 none) m f))
      (λ hit. let t = mail_stands N n start s r k near hit in let w : View E = grabbed v in (
        w,
        keeps,
        tt,
        mail_step N n start s r id v w k 1 Grabbed s.homes at near (inl t.0)
            (inl free) record { seats = refl; number = refl; joined = refl; draws = refl; ticket = λ z e. e } (λ z. z)
            record {
              ticket = q.ticket;
              past = q.past;
              found = λ l e. absurd (none_not l e);
              notes = q.notes;
              number = q.number;
              turn = q.turn;
              told = q.told;
              grab = holds_now n x.mail x.owner k id Grabbed (inl t.0) v.seats near live;
            }
            (λ _. (refl, refl)) (refl, t.1) refl refl (λ i _. refl),
        (sym hit, (λ _. refl), λ ne. absurd (ne hit)),
      ))
      (λ miss. let two = reader_meets s r id v at near live free miss in let w : View E = passed v in (
        w,
        keeps,
        tt,
        loaded N n start s (k + 3) s.homes (set s.views id w) (learns N n start s r id v w at record {
          seats = refl;
          number = refl;
          joined = refl;
          draws = refl;
          ticket = λ z e. e;
        } refl (λ z. z) record {
          ticket = q.ticket;
          past = q.past;
          found = q.found;
          notes = q.notes;
          number = q.number;
          turn = q.turn;
          told = q.told;
          grab = q.grab;
        }),
        (sym two, (λ hit. absurd (miss hit)), λ _. refl),
      ))

  -- where the reader may let go, a snapshot of a beginning of the history is in the slot
  lets_free : (es : List E) (w : ℕ) (p : Slot) (g : Grab E) → MailOk N es w p g → MayLetGo g
      → MailStands N es p × StartsWith es (found_of g)
  lets_free es w p Free ok may = absurd may
  lets_free es w p Grabbed ok may = (ok.1, (es, refl))
  lets_free es w p (Found l c) ok may = ((l, ok.1, subst (λ (d : Content E). MailIs N d p) may ok.2), ok.1)
  lets_free es w p (Writing j c) ok may = absurd may

  -- the reader holds its own word
  reads_own : (mail : ℕ → Grab E) (owner : ℕ → ℕ) (turn j seats number : ℕ) (g : Grab E) → MayLetGo g
      → Claims n mail owner turn j seats number g → Holds n mail owner j seats number g × (session_of number g ≡ number)
  reads_own mail owner turn j seats number Free may c = absurd may
  reads_own mail owner turn j seats number Grabbed may c = (c, refl)
  reads_own mail owner turn j seats number (Found l d) may c = (c, refl)
  reads_own mail owner turn j seats number (Writing k d) may c = absurd may

  pub lets_own_go_on : (slots id : ℕ) (m : M) (kept : Bool) → MayLetGo m.0.grab
      → Allows Rule slots id m (m.0.number + 3) (λ _. 0) (λ _. lets_own_go kept (step slots (m.0.number + 3) 0 0 none) m 0)
  lets_own_go_on slots id m kept may s r deep at _ =
      let v : View E = m.0 in
      let x : Scene E = r.scene in
      let k : ℕ = v.number in
      let q = r.each id v at in
      let own = reads_own x.mail x.owner x.turn id v.seats v.number v.grab may q.grab in
      let near = own.0.0 in let live = own.0.1 in let p = get_elem? s.homes (k + 1) in
      let ok : MailOk N x.entries (get_or s.words (k + 3) 0) p v.grab =
      subst (MailOk N x.entries (get_or s.words (k + 3) 0) p) own.0.2 (r.mails k near) in
      let free = lets_free x.entries (get_or s.words (k + 3) 0) p v.grab ok may in
      let w : View E = let_go v kept in let begins = q.past.1 in (
        w,
        keeps,
        tt,
        mail_step N n start s r id v w k 0 Free s.homes at near (inr own.0.3)
            (inr own.1) record { seats = refl; number = refl; joined = refl; draws = refl; ticket = λ z e. e } (λ z. z)
            record {
              ticket = q.ticket;
              past = (
                q.past.0,
                kept_begins kept x.entries v.seen (found_of v.grab) begins free.1,
                q.past.2,
                λ l. kept_recent kept v.seen (found_of v.grab) v.commits (q.past.3 l),
              );
              found = q.found;
              notes = q.notes;
              number = q.number;
              turn = q.turn;
              told = q.told;
              grab = tt;
            }
            (λ ne. absurd (ne refl)) (refl, free.0) refl refl (λ i _. refl),
        (
          refl,
          kept_left kept x.entries v.seen (found_of v.grab) begins free.1,
          kept_right kept x.entries v.seen (found_of v.grab) begins free.1,
        ),
      )
    where
      kept_begins : (b : Bool) (es a l : List E) → StartsWith es a → StartsWith es l → StartsWith es (cond b (longer a l) a)
      kept_begins true es a l ha hl = longer_begins es a l ha hl
      kept_begins false es a l ha hl = ha

      kept_recent : (b : Bool) (a l : List E) (ts : List ℕ) → AllBelow (length a) ts → AllBelow (length (cond b (longer a l) a)) ts
      kept_recent true a l ts all = longer_recent a l ts all
      kept_recent false a l ts all = all

      kept_left : (b : Bool) (es a l : List E) → StartsWith es a → StartsWith es l → StartsWith (cond b (longer a l) a) a
      kept_left true es a l ha hl = longer_left es a l ha hl
      kept_left false es a l ha hl = starts_whole a

      kept_right : (b : Bool) (es a l : List E) → StartsWith es a → StartsWith es l → b ≡ true → StartsWith (cond b (longer a l) a) l
      kept_right true es a l ha hl e = longer_right es a l ha hl
      kept_right false es a l ha hl e = absurd (cc)

  -- the reader notes which snapshot lies in its slot
  pub notes_found_on : (slots id : ℕ) (m : M) → m.0.grab ≡ Grabbed
      → Allows Rule slots id m 1 (λ z. z) (notes_found (step slots 1 0 0 none) m)
  notes_found_on slots id m is s r deep at _ =
      let v : View E = m.0 in
      let x : Scene E = r.scene in
      let k : ℕ = v.number in
      let q = r.each id v at in
      let c = subst (Claims n x.mail x.owner x.turn id v.seats v.number) is q.grab in
      let near = c.0 in
      let live = c.1 in
      let y : ℕ = get_or s.words (k + 3) 0 in
      let p = get_elem? s.homes (k + 1) in
      let ok = subst (MailOk N x.entries y p) c.2 (r.mails k near) in
      let l : List E = ok.1.0 in let w : View E = found v l in let g : Grab E = Found l (Full l) in
      let stepped_rule =
      mail_step N n start s r id v w k y g s.homes at near (inr c.3)
      (inr (ap (session_of v.number) is)) record { seats = refl; number = refl; joined = refl; draws = refl; ticket = λ z e. e } (λ z. z)
      record {
        ticket = q.ticket;
        past = q.past;
        found = λ a e. subst (StartsWith x.entries) (same_some l a e) ok.1.1;
        notes = q.notes;
        number = q.number;
        turn = q.turn;
        told = q.told;
        grab = holds_now n x.mail x.owner k id g (inr c.3) v.seats near live;
      }
      (λ _. (refl, refl)) (ok.0, ok.1.1, ok.1.2) refl refl (λ i _. refl) in (
        w,
        keeps,
        tt,
        loaded N n start s 1 s.homes
            (set s.views id w) (subst (λ (ws : List ℕ). Rule record { words = ws; homes = s.homes; views = set s.views id w })
            (set-get_or s.words (k + 3) 0) stepped_rule),
        (l, refl),
      )

  -- the same where the number stands elsewhere
  pub grabs_own_at : (slots id k : ℕ) (m : M) → k ≡ m.0.number → m.0.number < n → 0 < m.0.seats → m.0.grab ≡ Free
      → Allows Rule slots id m (k + 3) (λ z. either (eqb z 0) 1 z) (grabs_own (step slots (k + 3) 0 1 none) m)
  grabs_own_at slots id k m e near live free =
      subst (λ (i : ℕ). Allows Rule slots id m (i + 3) (λ z. either (eqb z 0) 1 z) (grabs_own (step slots (i + 3) 0 1 none) m)) (sym e)
      (grabs_own_on slots id m near live free)

  pub lets_own_go_at : (slots id k : ℕ) (m : M) (kept : Bool) → k ≡ m.0.number → MayLetGo m.0.grab
      → Allows Rule slots id m (k + 3) (λ _. 0) (λ _. lets_own_go kept (step slots (k + 3) 0 0 none) m 0)
  lets_own_go_at slots id k m kept e may =
      subst (λ (i : ℕ). Allows Rule slots id m (i + 3) (λ _. 0) (λ _. lets_own_go kept (step slots (i + 3) 0 0 none) m 0)) (sym e)
      (lets_own_go_on slots id m kept may)
