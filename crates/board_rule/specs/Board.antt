-- The rule of the board: what holds between any two steps of any seats.
-- Word 0 is the number of tickets drawn, word 1 the ticket served, word 2 the basis of the history,
-- word s + 3 the mail word of session s: 0 free, 1 held by its reader, 2 by the holder of the turn.
-- Slot 0 has the value that stands for the history,
-- and slot s + 1 the last snapshot mailed to session s.
-- This project's own choice.
use Rattle.std.specs.Prelude.{◌≡◌, ◌≢◌, ◌⊎◌, ℕ, ◌+◌, ◌-◌, ◌*◌, ◌<◌, ◌≤◌, ◌==◌, Bool, if◌then◌else◌}
use Rattle.std.specs.Prelude.{List, [], ◌∷◌, length, slice_index, Option, Some, None}
use mathlib.Core.Option.{some, none}
use mathlib.Core.Option as maybe
use lib.ListN.{get_elem?}
use base.Stored.{Gv}
use Rattle.atomic_table.specs.Table.{State}
use Rattle.board_rule.specs.declared.board.SlotValue.{SlotValue}
use Rattle.board_rule.specs.declared.board.SlotValue.TheVariants.{Core, Mail}
use Rattle.board_rule.specs.declared.view.Stop.{Stop}
use Rattle.board_rule.specs.declared.view.Marks.{Marks}
use Rattle.board_rule.specs.declared.view.Story.{Story}
use Rattle.board_rule.specs.declared.view.Joined.{Joined}
use Rattle.board_rule.specs.declared.view.At.{At}
use Rattle.board_rule.specs.declared.view.At.TheVariants.{Home, Away, Hand}
use Rattle.board_rule.specs.declared.view.Content.{Content}
use Rattle.board_rule.specs.declared.view.Content.TheVariants.{InHand, Empty, Full}
use Rattle.board_rule.specs.declared.view.Grab.{Grab}
use Rattle.board_rule.specs.declared.view.Grab.TheVariants.{Free, Grabbed, Found, Writing}
use Rattle.board_rule.specs.declared.view.Code.{Code}
use Rattle.board_rule.specs.declared.view.View.{View}
use Rattle.board_rule.specs.Views.{worker, StartsWith, AreLawful, codes, commits_of, AllBelow}
use Rattle.board_rule.specs.Views.{marked, MayMark, story, HasTurn, session_of}

-- what the values in the slots stand for, and what else holds of the one in slot 0:
-- that it is sound, and keeps its origin
pub record Naming (H S E : Type 0) : Type 1 where
  pub entries : H → List E
  pub authors : H → List ℕ
  pub marks : H → Marks
  pub sound : H → Type 0
  pub mailed : S → List E
  pub lawful : List E → Type 0

-- the same, of a type that says which entry may follow a list, over the entries' codes
abbrev pub naming : {H S A : Type 0} → (A → Gv) → (H → List A) → (H → List ℕ) → (H → Marks)
    → (List A → A → Type 0) → (H → Type 0) → (S → List A) → Naming H S Code
naming {H} {S} {A} f entries authors marks follows sound mailed = record {
  entries = λ h. codes f (entries h);
  authors = authors;
  marks = marks;
  sound = sound;
  mailed = λ s. codes f (mailed s);
  lawful = AreLawful f follows;
}

-- What the rule says there is. `turn` is 0, or 1 more than the seat that has the turn; `shown` are
-- the marks that word 1 names, and `next` those that the turn's end will name, where they change.
-- `mail s` is how the word of session s is held, and `owner s` the seat that holds it.
pub record Scene (E : Type 0) : Type 0 where
  pub drawn : ℕ
  pub served : ℕ
  pub given : ℕ
  pub entries : List E
  pub authors : List ℕ
  pub turn : ℕ
  pub core : At
  pub shown : Marks
  pub next : Option Marks
  pub mail : ℕ → Grab E
  pub owner : ℕ → ℕ

abbrev pub total : {A : Type 0} → (A → ℕ) → List A → ℕ
total g [] = 0
total g (x ∷ xs) = g x + total g xs

abbrev pub one_if : Bool → ℕ
one_if b = if b then 1 else 0

abbrev pub has_number : {E : Type 0} → ℕ → Joined E → ℕ
has_number z p = one_if (p.number == z)

module _ {E : Type 0} where
  abbrev pub seats_of : View E → ℕ
  seats_of v = v.seats

  -- the draws that a seat has left, if it was not joined away
  abbrev pub draws_left : View E → ℕ
  draws_left v = if v.seats == 0 then 0 else 4294967296 - v.draws

  -- how many seats of the number z there are, with those that were joined to this one
  abbrev pub numbered : ℕ → View E → ℕ
  numbered z v =
      (if v.seats == 0 then 0 else one_if (v.number == z)) + total (has_number z) v.joined

  -- no two seats have one ticket
  abbrev pub Apart : List (View E) → Type 0
  Apart vs =
      (i j t : ℕ) (v u : View E) → i ≢ j → get_elem? vs i ≡ some v → get_elem? vs j ≡ some u
      → v.ticket ≡ Some t → u.ticket ≢ Some t

  -- Tickets. A seat draws at most 2^32, so word 0 never wraps.
  pub record CountsOk (drawn given : ℕ) (vs : List (View E)) : Type 0 where
    pub room : drawn + total draws_left vs ≤ 4294967296 * total seats_of vs
    pub made : total seats_of vs ≡ given + 1
    pub few : given ≤ 2147483648
    pub once : (z : ℕ) → total (numbered z) vs ≤ 1
    pub fresh : (z : ℕ) → given ≤ z → z ≢ worker → total (numbered z) vs ≡ 0
    pub tickets : Apart vs

  -- The history is lawful, and each entry above `start` has its author.
  pub record HistoryOk (lawful : List E → Type 0) (start given : ℕ) (entries : List E)
      (authors : List ℕ) : Type 0 where
    pub lawful_now : lawful entries
    pub counted : start + 1 + length authors ≡ length entries
    pub narrow : length entries ≤ 4294967296
    pub unwritten : (z : ℕ) → given ≤ z → z ≢ worker → commits_of z (start + 1) authors ≡ []

  pub record WordsOk (n drawn served : ℕ) (entries : List E) (words : List ℕ) : Type 0 where
    pub wide : length words ≡ n + 3
    pub drawn_is : slice_index words 0 ≡ drawn
    pub served_is : slice_index words 1 ≡ served
    pub basis_is : slice_index words 2 + 1 ≡ length entries
    pub behind : served ≤ drawn

  -- the seat j holds the word of session s so
  abbrev pub Holds : ℕ → (ℕ → Grab E) → (ℕ → ℕ) → ℕ → ℕ → ℕ → Grab E → Type 0
  Holds n mail owner j seats s g = (s < n) × (0 < seats) × (mail s ≡ g) × (owner s ≡ j)

  -- 1 is held by the session's own reader, 2 by the holder of the turn
  abbrev pub Claims : ℕ → (ℕ → Grab E) → (ℕ → ℕ) → ℕ → ℕ → ℕ → ℕ → Grab E → Type 0
  Claims n mail owner turn j seats number Free = Unit {0}
  Claims n mail owner turn j seats number Grabbed = Holds n mail owner j seats number Grabbed
  Claims n mail owner turn j seats number (Found l c) =
      Holds n mail owner j seats number (Found l c)
  Claims n mail owner turn j seats number (Writing s c) =
      Holds n mail owner j seats s (Writing s c) × (turn ≡ j + 1)

  -- a ticket is drawn and not yet served
  abbrev pub HasTicket : Scene E → View E → Type 0
  HasTicket x v =
      ((t : ℕ) → v.ticket ≡ Some t → (x.served ≤ t) × (t < x.drawn) × (0 < v.seats))
      × (v.draws ≤ 4294967296)

  -- what was seen is a beginning of the history, and the commits are where the authors say
  abbrev pub Recalls : ℕ → Scene E → View E → Type 0
  Recalls start x v =
      (0 < v.seats → v.start ≡ start)
      × StartsWith x.entries v.seen
      × (0 < v.seats → v.commits ≡ commits_of v.number (start + 1) x.authors)
      × (0 < v.seats → AllBelow (length v.seen) v.commits)

  -- the same of a seat that was joined to another, and which stop it was notified of
  abbrev pub IsNote : ℕ → Scene E → Joined E → Type 0
  IsNote start x p =
      (StartsWith x.entries p.seen × StartsWith x.entries p.beside)
      × (p.commits ≡ commits_of p.number (start + 1) x.authors)
      × ((q : Stop) → p.stop ≡ Some q → x.shown.stop ≡ Some q)
      × ((q : Stop) → x.shown.stop ≡ Some q → p.number ≡ q.author → p.stop ≡ Some q)

  abbrev pub KeepsNotes : ℕ → Scene E → View E → Type 0
  KeepsNotes start x v = (k : ℕ) (p : Joined E) → get_elem? v.joined k ≡ some p → IsNote start x p

  abbrev pub HasNumber : Scene E → View E → Type 0
  HasNumber x v =
      (0 < v.seats → (v.number < x.given) ⊎ (v.number ≡ worker))
      × (0 < v.seats → v.number ≡ worker → v.given ≡ x.given)

  -- the holder of the turn, the seat j, knows the whole history and where slot 0's value is
  abbrev pub KnowsTurn : Scene E → ℕ → View E → Type 0
  KnowsTurn x j v =
      ((y : Story E) → v.turn ≡ Some y
      → (v.ticket ≡ Some x.served)
      × (y ≡ story x.entries x.authors x.shown)
      × (x.turn ≡ j + 1)
      × (v.core ≡ x.core)
      × (v.next ≡ x.next))
      × (HasTurn v → (m : Marks) → v.next ≡ Some m → MayMark v.number x.shown m)

  abbrev pub KnowsMarks : Scene E → View E → Type 0
  KnowsMarks x v =
      ((p : Stop) → v.stop ≡ Some p → x.shown.stop ≡ Some p)
      × (0 < v.seats → (p : Stop) → x.shown.stop ≡ Some p → v.number ≡ p.author → v.stop ≡ Some p)
      × (0 < v.seats → v.number ≡ worker → v.covered ≡ x.shown.covered)

  -- What the seat j knows is so.
  -- Of one that was joined away little is said: its notes are with the seat that stays.
  pub record Knows (n start : ℕ) (x : Scene E) (j : ℕ) (v : View E) : Type 0 where
    pub ticket : HasTicket x v
    pub past : Recalls start x v
    pub found : (l : List E) → v.last_found ≡ Some l → StartsWith x.entries l
    pub notes : KeepsNotes start x v
    pub number : HasNumber x v
    pub turn : KnowsTurn x j v
    pub told : KnowsMarks x v
    pub grab : Claims n x.mail x.owner x.turn j v.seats v.number v.grab

  -- Slot 0 is out of its place only in a turn, and so are next marks.
  -- A number that no seat was given is the author of no stop.
  pub record TurnOk (given turn : ℕ) (core : At) (shown : Marks) (next : Option Marks)
      (vs : List (View E)) : Type 0 where
    pub idle : turn ≡ 0 → (core ≡ Home) × (next ≡ None)
    pub busy : (i : ℕ) → turn ≡ i + 1 → (v : View E) × (get_elem? vs i ≡ some v) × HasTurn v
    pub unstopped : (z : ℕ) → given ≤ z → z ≢ worker → (p : Stop) → shown.stop ≡ Some p
        → p.author ≢ z

  -- a mail word that is not free is held by a seat, whose view says how
  abbrev pub Owned : List (View E) → ℕ → ℕ → Grab E → Type 0
  Owned vs owner s g =
      g ≢ Free
      → (u : View E) × (get_elem? vs owner ≡ some u) × (u.grab ≡ g) × (session_of u.number g ≡ s)

-- a mail slot with this snapshot
abbrev pub mailed_as : {H S : Type 0} → S → SlotValue H S
mailed_as s = Mail (Some s)

module _ {H S E : Type 0} (N : Naming H S E) where
  -- the value of slot 0, where it is at home, stands for the history, has these marks and is sound
  abbrev pub CoreIs : List E → List ℕ → Marks → At → maybe.Option (maybe.Option (SlotValue H S))
      → Type 0
  CoreIs es who m Home p =
      (h : H)
      × (p ≡ some (some (Core (Some h))))
      × (N.entries h ≡ es)
      × (N.authors h ≡ who)
      × (N.marks h ≡ m)
      × N.sound h
  CoreIs es who m Away p = p ≡ some (some (Core None))
  CoreIs es who m Hand p = p ≡ some none

  abbrev pub MailIs : Content E → maybe.Option (maybe.Option (SlotValue H S)) → Type 0
  MailIs InHand p = p ≡ some none
  MailIs Empty p = p ≡ some (some (Mail None))
  MailIs (Full l) p = (s : S) × (p ≡ some (some (Mail (Some s)))) × (N.mailed s ≡ l)

  -- a snapshot of a beginning of the history lies in the slot
  abbrev pub MailStands : List E → maybe.Option (maybe.Option (SlotValue H S)) → Type 0
  MailStands es p = (l : List E) × StartsWith es l × MailIs (Full l) p

  abbrev pub MailOk : List E → ℕ → maybe.Option (maybe.Option (SlotValue H S)) → Grab E → Type 0
  MailOk es w p Free = (w ≡ 0) × MailStands es p
  MailOk es w p Grabbed = (w ≡ 1) × MailStands es p
  MailOk es w p (Found l c) = (w ≡ 1) × StartsWith es l × MailIs c p
  MailOk es w p (Writing s c) = (w ≡ 2) × MailIs c p

  -- The rule, of a board of n sessions whose history had the basis `start` when it was made.
  pub record Ruled (n start : ℕ) (s : State (SlotValue H S) (View E)) : Type 0 where
    pub scene : Scene E
    pub words : WordsOk n scene.drawn scene.served scene.entries s.words
    pub deep : length s.homes ≡ n + 1
    pub counts : CountsOk scene.drawn scene.given s.views
    pub history : HistoryOk N.lawful start scene.given scene.entries scene.authors
    pub each : (j : ℕ) (v : View E) → get_elem? s.views j ≡ some v → Knows n start scene j v
    pub core : CoreIs scene.entries scene.authors (marked scene.shown scene.next) scene.core
        (get_elem? s.homes 0)
    pub mails : (k : ℕ) → k < n
        → MailOk scene.entries (slice_index s.words (k + 3)) (get_elem? s.homes (k + 1))
        (scene.mail k)
    pub owned : (k : ℕ) → k < n → Owned s.views (scene.owner k) k (scene.mail k)
    pub turns : TurnOk scene.given scene.turn scene.core scene.shown scene.next s.views
