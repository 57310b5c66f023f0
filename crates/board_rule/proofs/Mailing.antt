-- One session's mail changes, and the rule is kept.
use Rattle.std.proofs.Common.{◌≡◌, ◌≢◌, ◌⊎◌, ⊎_elim, ℕ, ◌+◌, ◌<◌, List, length, set, get_or, sym, refl, ap, ◌∙◌, subst, arith, length-set}
use Rattle.std.proofs.Common.{get_or-set_same, get_or-set_other}
use mathlib.Core.Logic.{dite}
use mathlib.Core.Option.{some}
use mathlib.Core.Option as maybe
use native.Mathlib.Decide.{ℕ_discrete}
use lib.ListN.{get_elem?}
use Rattle.atomic_table.specs.Table.{State, Me, Act, Valid, carried_after, stepped}
use Rattle.board_rule.specs.declared.board.SlotValue.{SlotValue}
use Rattle.board_rule.specs.declared.view.Grab.{Grab}
use Rattle.board_rule.specs.declared.view.Grab.TheVariants.{Free, Grabbed, Found, Writing}
use Rattle.board_rule.specs.declared.view.View.{View}
use Rattle.board_rule.specs.Views.{marked, HasTurn, session_of}
use Rattle.board_rule.specs.Board.{Naming, Scene, Holds, Claims, Knows, Owned, CoreIs, MailStands, MailOk, Ruled}
use Rattle.board_rule.proofs.Keeps.{set_at, same_at, seats_stay, Alike, counts_kept, turns_kept}
use Rattle.board_rule.proofs.Keeps.{put, put_here, put_else, owned_else}

-- another seat keeps the word that it holds
module _ {E : Type 0} (n : ℕ) (mail : ℕ → Grab E) (owner : ℕ → ℕ) (k id : ℕ) (to : Grab E) (mine : (mail k ≡ Free) ⊎ (owner k ≡ id)) where
  pub holds_put : (j seats c : ℕ) (g : Grab E) → j ≢ id → (Free ≡ g → ⊥) → Holds n mail owner j seats c g
      → Holds n (put mail k to) (put owner k id) j seats c g
  holds_put j seats c g other held h =
      let apart : c ≢ k =
      λ e. ⊎_elim (λ (free : mail k ≡ Free). held (sym free ∙ (ap mail (sym e) ∙ h.2)))
      (λ (by : owner k ≡ id). other (sym h.3 ∙ (ap owner e ∙ by))) mine in
      (h.0, h.1, put_else mail k to c apart ∙ h.2, put_else owner k id c apart ∙ h.3)

  pub claims_put : (turn j seats number : ℕ) (g : Grab E) → j ≢ id → Claims n mail owner turn j seats number g
      → Claims n (put mail k to) (put owner k id) turn j seats number g
  claims_put turn j seats number Free other h = h
  claims_put turn j seats number Grabbed other h = holds_put j seats number Grabbed other (λ e. cc) h
  claims_put turn j seats number (Found l c) other h = holds_put j seats number (Found l c) other (λ e. cc) h
  claims_put turn j seats number (Writing s c) other h = (holds_put j seats s (Writing s c) other (λ e. cc) h.0, h.1)

  pub holds_now : (seats : ℕ) → k < n → 0 < seats → Holds n (put mail k to) (put owner k id) id seats k to
  holds_now seats l live = (l, live, put_here mail k to k refl, put_here owner k id k refl)

module _ {H S E : Type 0} (N : Naming H S E) (n start : ℕ) where
  abbrev St : Type 0
  St = State (SlotValue H S) (View E)

  abbrev M : Type 0
  M = Me (SlotValue H S) (View E)

  abbrev Rule : St → Type 0
  Rule = Ruled N n start

  abbrev Slot : Type 0
  Slot = maybe.Option (maybe.Option (SlotValue H S))

  abbrev changed : Scene E → ℕ → ℕ → Grab E → Scene E
  changed x k id g = record x { mail = put x.mail k g; owner = put x.owner k id }

  -- one session's mail changes, by the seat that holds its word or comes to hold it
  pub mail_step : (s : St) (r : Rule s) (id : ℕ) (v w : View E) (k y : ℕ) (g : Grab E) (hs : List (maybe.Option (SlotValue H S)))
      → get_elem? s.views id ≡ some v → k < n → (r.scene.mail k ≡ Free) ⊎ (r.scene.owner k ≡ id)
      → (v.grab ≡ Free) ⊎ (session_of v.number v.grab ≡ k) → Alike v w → (HasTurn v → HasTurn w)
      → Knows n start (changed r.scene k id g) id w → (g ≢ Free → (w.grab ≡ g) × (session_of w.number g ≡ k))
      → MailOk N r.scene.entries y (get_elem? hs (k + 1)) g → length hs ≡ length s.homes → get_elem? hs 0 ≡ get_elem? s.homes 0
      → ((i : ℕ) → i ≢ k → get_elem? hs (i + 1) ≡ get_elem? s.homes (i + 1))
      → Rule record { words = set s.words (k + 3) y; homes = hs; views = set s.views id w }
  mail_step s r id v w k y g hs at near mine one a turn knows has ok long core slots =
      let x : Scene E = r.scene in
      let x' : Scene E = changed x k id g in
      let wide = r.words.wide in
      let inside : k + 3 < length s.words = omega arith in
      let same : (i : ℕ) → i < 3 → get_or (set s.words (k + 3) y) i 0 ≡ get_or s.words i 0 =
      λ i l. get_or-set_other s.words (k + 3) i y 0 (λ e. omega arith) in
      record {
        scene = x';
        words = record {
          wide = length-set s.words (k + 3) y ∙ wide;
          drawn_is = same 0 (omega arith) ∙ r.words.drawn_is;
          served_is = same 1 (omega arith) ∙ r.words.served_is;
          basis_is = ap (λ (z : ℕ). z + 1) (same 2 (omega arith)) ∙ r.words.basis_is;
          behind = r.words.behind;
        };
        deep = long ∙ r.deep;
        counts = counts_kept x.drawn x.given s.views id v w at a r.counts;
        history = r.history;
        each = seats_stay (Knows n start x') s.views id w knows (λ j u ne e. let q = r.each j u e in record {
          ticket = q.ticket;
          past = q.past;
          found = q.found;
          notes = q.notes;
          number = q.number;
          turn = q.turn;
          told = q.told;
          grab = claims_put n x.mail x.owner k id g mine x.turn j u.seats u.number u.grab ne q.grab;
        });
        core = subst (CoreIs N x.entries x.authors (marked x.shown x.next) x.core) (sym core) r.core;
        mails = λ i l. dite (ℕ_discrete i k)
            (λ e.
            subst (MailOk N x.entries (get_or (set s.words (k + 3) y) (i + 3) 0) (get_elem? hs (i + 1))) (sym (put_here x.mail k g i e))
            (subst (λ (z : ℕ). MailOk N x.entries (get_or (set s.words (k + 3) y) (z + 3) 0) (get_elem? hs (z + 1)) g) (sym e)
            (subst (λ (z : ℕ). MailOk N x.entries z (get_elem? hs (k + 1)) g) (sym (get_or-set_same s.words (k + 3) y 0 inside)) ok)))
            (λ ne.
            subst (MailOk N x.entries (get_or (set s.words (k + 3) y) (i + 3) 0) (get_elem? hs (i + 1))) (sym (put_else x.mail k g i ne))
            (subst (λ (p : Slot). MailOk N x.entries (get_or (set s.words (k + 3) y) (i + 3) 0) p (x.mail i)) (sym (slots i ne))
            (subst (λ (z : ℕ). MailOk N x.entries z (get_elem? s.homes (i + 1)) (x.mail i))
            (sym (get_or-set_other s.words (k + 3) (i + 3) y 0 (λ e. ne (omega arith)))) (r.mails i l))));
        owned = λ i l. dite (ℕ_discrete i k)
            (λ e. subst (λ (q : ℕ × ℕ × Grab E). Owned (set s.views id w) q.0 q.1 q.2)
            (λ c. (sym (put_here x.owner k id i e) c, sym e c, sym (put_here x.mail k g i e) c))
            (λ ne. let b = has ne in (w, set_at s.views id v w at, b.0, b.1)))
            (λ ne. subst (λ (q : ℕ × Grab E). Owned (set s.views id w) q.0 i q.1)
            (λ c. (sym (put_else x.owner k id i ne) c, sym (put_else x.mail k g i ne) c))
            (owned_else s.views id v w (x.owner i) i (x.mail i) at
            (λ held e. let t = r.owned i l held in let is : v ≡ t.0 = same_at s.views id (x.owner i) v t.0 (sym e) at t.1 in
            let grab : v.grab ≡ x.mail i = ap (λ (z : View E). z.grab) is ∙ t.2 in
            ⊎_elim (λ (free : v.grab ≡ Free). held (sym grab ∙ free))
            (λ (at_k : session_of v.number v.grab ≡ k). ne
            (sym t.3 ∙ (ap (λ (z : View E). session_of z.number (x.mail i)) (sym is) ∙ (ap (session_of v.number) (sym grab) ∙ at_k)))) one)
            (r.owned i l)));
        turns = turns_kept x.given x.turn x.core x.shown x.next s.views id v w at turn r.turns;
      }

  pub mail_free : (es : List E) (w : ℕ) (p : Slot) (g : Grab E) → MailOk N es w p g → w ≡ 0 → g ≡ Free
  mail_free es w p Free h e = refl
  mail_free es w p Grabbed h e = let a = h.0 in absurd (omega arith)
  mail_free es w p (Found l c) h e = let a = h.0 in absurd (omega arith)
  mail_free es w p (Writing j c) h e = let a = h.0 in absurd (omega arith)

  pub mail_held : (es : List E) (w : ℕ) (p : Slot) (g : Grab E) → MailOk N es w p g → w ≢ 0 → g ≢ Free
  mail_held es w p g h ne e = let t : MailOk N es w p Free = subst (MailOk N es w p) e h in ne t.0

  -- the free mail of a session has a snapshot of a beginning of the history
  pub mail_stands : (s : St) (r : Rule s) (k : ℕ) → k < n → get_or s.words (k + 3) 0 ≡ 0
      → (r.scene.mail k ≡ Free) × MailStands N r.scene.entries (get_elem? s.homes (k + 1))
  mail_stands s r k l zero_now =
      let ok = r.mails k l in
      let free = mail_free r.scene.entries (get_or s.words (k + 3) 0) (get_elem? s.homes (k + 1)) (r.scene.mail k) ok zero_now in
      (free, (subst (MailOk N r.scene.entries (get_or s.words (k + 3) 0) (get_elem? s.homes (k + 1))) free ok).1)

  -- what the owner of a word that is held claims
  pub owner_claims : (s : St) (r : Rule s) (k : ℕ) (l : k < n) (held : r.scene.mail k ≢ Free)
      → let t = r.owned k l held in Claims n r.scene.mail r.scene.owner r.scene.turn (r.scene.owner k) t.0.seats t.0.number (r.scene.mail k)
  owner_claims s r k l held =
      let t = r.owned k l held in
      subst (Claims n r.scene.mail r.scene.owner r.scene.turn (r.scene.owner k) t.0.seats t.0.number) t.2
      (r.each (r.scene.owner k) t.0 t.1).grab

  abbrev pub Goes : St → ℕ → M → ℕ → (M → Type 0) → ℕ → Type 0
  Goes s id m i then y =
      (w : View E) × (a : Act (SlotValue H S)) × Valid s.homes m.1 a × Rule (stepped s i y id m.1 w a) × then (w, carried_after m.1 a)
