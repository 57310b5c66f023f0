-- Moving a snapshot out of its slot and back keeps the rule.
use Rattle.std.proofs.Common.{◌≡◌, inr, ℕ, ◌+◌, ◌-◌, ◌<◌, true, List, [], ◌∷◌, length, set, get_or, sym, refl, ◌∙◌, subst, arith}
use Rattle.std.proofs.Common.{length-set, Option, Some, None}
use mathlib.Core.Option.{some, none}
use mathlib.Core.Option as maybe
use lib.ListN.{get_elem?}
use Rattle.atomic_table.specs.Table.{State, Me, step, takes, gives, Allows}
use Rattle.atomic_table.proofs.Lists.{set_else}
use Rattle.board_rule.specs.declared.board.SlotValue.{SlotValue}
use Rattle.board_rule.specs.declared.board.SlotValue.TheVariants.{Mail}
use Rattle.board_rule.specs.declared.view.Content.{Content}
use Rattle.board_rule.specs.declared.view.Content.TheVariants.{InHand, Empty, Full}
use Rattle.board_rule.specs.declared.view.Grab.{Grab}
use Rattle.board_rule.specs.declared.view.Grab.TheVariants.{Free, Grabbed, Found, Writing}
use Rattle.board_rule.specs.declared.view.View.{View}
use Rattle.board_rule.specs.Views.{session_of}
use Rattle.board_rule.specs.Board.{Naming, Scene, Claims, MailIs, MailOk, Ruled}
use Rattle.board_rule.specs.Views.{content_of, refilled, MayMove, content_rests}
use Rattle.board_rule.specs.Plays.{takes_mail, puts_mail, filled_by, MailHas}
use Rattle.board_rule.proofs.Keeps.{put, put_here, set_inside}
use Rattle.board_rule.proofs.Mailing.{mail_step}

module _ {H S E : Type 0} (N : Naming H S E) (n start : ℕ) where
  abbrev St : Type 0
  St = State (SlotValue H S) (View E)

  abbrev M : Type 0
  M = Me (SlotValue H S) (View E)

  abbrev Rule : St → Type 0
  Rule = Ruled N n start

  abbrev Slot : Type 0
  Slot = maybe.Option (maybe.Option (SlotValue H S))

  -- where a seat may move a session's snapshot, it holds its word
  moves_own : (mail : ℕ → Grab E) (owner : ℕ → ℕ) (turn j seats number k : ℕ) (g : Grab E) → MayMove number k g
      → Claims n mail owner turn j seats number g → (k < n) × (0 < seats) × (mail k ≡ g) × (owner k ≡ j) × (session_of number g ≡ k)
  moves_own mail owner turn j seats number k Free may c = absurd may
  moves_own mail owner turn j seats number k Grabbed may c = absurd may
  moves_own mail owner turn j seats number k (Found l d) may c =
      subst (λ (z : ℕ). (z < n) × (0 < seats) × (mail z ≡ Found l d) × (owner z ≡ j) × (number ≡ z)) (sym may) (c.0, c.1, c.2, c.3, refl)
  moves_own mail owner turn j seats number k (Writing i d) may c =
      subst (λ (z : ℕ). (z < n) × (0 < seats) × (mail z ≡ Writing i d) × (owner z ≡ j) × (i ≡ z)) (sym may)
      (c.0.0, c.0.1, c.0.2, c.0.3, refl)

  -- the same grab, with other content in the slot
  refilled_session : (number : ℕ) (g : Grab E) (d : Content E) → session_of number (refilled g d) ≡ session_of number g
  refilled_session number Free d = refl
  refilled_session number Grabbed d = refl
  refilled_session number (Found l c) d = refl
  refilled_session number (Writing i c) d = refl

  refilled_ok : (es : List E) (y : ℕ) (p p' : Slot) (number k : ℕ) (g : Grab E) (d : Content E) → MayMove number k g → MailOk N es y p g
      → MailIs N d p' → MailOk N es y p' (refilled g d)
  refilled_ok es y p p' number k Free d may ok is = absurd may
  refilled_ok es y p p' number k Grabbed d may ok is = absurd may
  refilled_ok es y p p' number k (Found l c) d may ok is = (ok.0, ok.1, is)
  refilled_ok es y p p' number k (Writing i c) d may ok is = (ok.0, is)

  refilled_claims : (mail : ℕ → Grab E) (owner : ℕ → ℕ) (turn j seats number k : ℕ) (g : Grab E) (d : Content E) → MayMove number k g
      → Claims n mail owner turn j seats number g
      → Claims n (put mail k (refilled g d)) (put owner k j) turn j seats number (refilled g d)
  refilled_claims mail owner turn j seats number k Free d may c = absurd may
  refilled_claims mail owner turn j seats number k Grabbed d may c = absurd may
  refilled_claims mail owner turn j seats number k (Found l e) d may c =
      (c.0, c.1, put_here mail k (Found l d) number (sym may), put_here owner k j number (sym may))
  refilled_claims mail owner turn j seats number k (Writing i e) d may c =
      ((c.0.0, c.0.1, put_here mail k (Writing i d) i (sym may), put_here owner k j i (sym may)), c.1)

  mail_lies : (c : Content E) (p : Slot) → content_rests c ≡ true → MailIs N c p
      → (o : Option S) × (p ≡ some (some (Mail o))) × MailHas N.mailed c o
  mail_lies InHand p rests is = absurd (cc)
  mail_lies Empty p rests is = (None, is, refl)
  mail_lies (Full l) p rests is = (Some is.0, is.1, (is.0, refl, is.2))

  -- what the content is of a snapshot that may be moved
  content_is : (es : List E) (y : ℕ) (p : Slot) (number k : ℕ) (g : Grab E) → MayMove number k g → MailOk N es y p g
      → MailIs N (content_of g) p
  content_is es y p number k Free may ok = absurd may
  content_is es y p number k Grabbed may ok = absurd may
  content_is es y p number k (Found l c) may ok = ok.2
  content_is es y p number k (Writing i c) may ok = ok.1

  moves_mail : (s : St) (r : Rule s) (id k : ℕ) (v : View E) (d : Content E) (h : maybe.Option (SlotValue H S))
      → get_elem? s.views id ≡ some v → MayMove v.number k v.grab → MailIs N d (some h)
      → Rule record {
        words = set s.words (k + 3) (get_or s.words (k + 3) 0);
        homes = set s.homes (k + 1) h;
        views = set s.views id (record v { grab = refilled v.grab d });
      }
  moves_mail s r id k v d h at may is =
      let x : Scene E = r.scene in
      let q = r.each id v at in
      let own = moves_own x.mail x.owner x.turn id v.seats v.number k v.grab may q.grab in
      let y : ℕ = get_or s.words (k + 3) 0 in
      let p = get_elem? s.homes (k + 1) in
      let near = own.0 in
      let deep = r.deep in
      let inside : k + 1 < length s.homes = omega arith in
      let g : Grab E = refilled v.grab d in
      let w : View E = record v { grab = g } in
      let ok : MailOk N x.entries y p v.grab = subst (MailOk N x.entries y p) own.2 (r.mails k near) in
      mail_step N n start s r id v w k y g (set s.homes (k + 1) h) at near (inr own.3)
      (inr own.4) record { seats = refl; number = refl; joined = refl; draws = refl; ticket = λ z e. e } (λ z. z)
      record {
        ticket = q.ticket;
        past = q.past;
        found = q.found;
        notes = q.notes;
        number = q.number;
        turn = q.turn;
        told = q.told;
        grab = refilled_claims x.mail x.owner x.turn id v.seats v.number k v.grab d may q.grab;
      }
      (λ _. (refl, refilled_session v.number v.grab d ∙ own.4))
      (subst (λ (z : Slot). MailOk N x.entries y z g) (sym (set_inside s.homes (k + 1) h inside))
      (refilled_ok x.entries y p (some h) v.number k v.grab d may ok is))
      (length-set s.homes (k + 1) h) (set_else s.homes (k + 1) 0 h (λ e. omega arith))
      (λ i ne. set_else s.homes (k + 1) (i + 1) h (λ e. ne (omega arith)))

  pub takes_mail_on : (slots id k : ℕ) (m : M) → MayMove m.0.number k m.0.grab → content_rests (content_of m.0.grab) ≡ true → m.1 ≡ []
      → Allows Rule slots id m (k + 3) (λ z. z) (takes_mail N.mailed (step slots (k + 3) 0 0 none) m)
  takes_mail_on slots id k m may rests bare s r deep at _ =
      let v : View E = m.0 in
      let x : Scene E = r.scene in
      let q = r.each id v at in
      let own = moves_own x.mail x.owner x.turn id v.seats v.number k v.grab may q.grab in
      let y : ℕ = get_or s.words (k + 3) 0 in
      let p = get_elem? s.homes (k + 1) in
      let ok : MailOk N x.entries y p v.grab = subst (MailOk N x.entries y p) own.2 (r.mails k own.0) in
      let lies = mail_lies (content_of v.grab) p rests (content_is x.entries y p v.number k v.grab may ok) in
      let o = lies.0 in
      let w : View E = record v { grab = refilled v.grab InHand } in let slot : k + 1 ≡ k + 3 - 2 = omega arith in
      (w, takes (k + 1) (Mail o), lies.1, moves_mail s r id k v InHand none at may refl, (o, (λ i. (w, (slot i, Mail o) ∷ bare i)), lies.2))

  mail_put : (o : Option S) → MailIs N (filled_by N.mailed o) (some (some (Mail o)))
  mail_put None = refl
  mail_put (Some s) = (s, refl, refl)

  puts_mail_back : (slots id k : ℕ) (v : View E) (o : Option S) → MayMove v.number k v.grab
      → Allows Rule slots id (v, (k + 1, Mail o) ∷ []) (k + 3) (λ z. z)
      (puts_mail N.mailed (step slots (k + 3) 0 0 none) (v, (k + 1, Mail o) ∷ []))
  puts_mail_back slots id k v o may s r deep at _ =
      let d : Content E = filled_by N.mailed o in
      let w : View E = record v { grab = refilled v.grab d } in
      (w, gives, tt, moves_mail s r id k v d (some (Mail o)) at may (mail_put o), refl)

  pub puts_mail_on : (slots id k : ℕ) (m : M) (o : Option S) → m.1 ≡ (k + 1, Mail o) ∷ [] → MayMove m.0.number k m.0.grab
      → Allows Rule slots id m (k + 3) (λ z. z) (puts_mail N.mailed (step slots (k + 3) 0 0 none) m)
  puts_mail_on slots id k m o e may =
      subst (λ (c : List (ℕ × SlotValue H S)). Allows Rule slots id (m.0, c) (k + 3) (λ z. z)
      (puts_mail N.mailed (step slots (k + 3) 0 0 none) (m.0, c))) (sym e) (puts_mail_back slots id k m.0 o may)
