-- What a seat knows, and how each step changes it.
-- This project's own choice.
use Rattle.std.specs.Prelude.{◌≡◌, ◌≢◌, ℕ, zero, suc, ◌+◌, ◌<◌, ◌≤◌, nat_lt, ◌==◌, Bool, true}
use Rattle.std.specs.Prelude.{false, if◌then◌else◌, ◌⊎◌, List, [], ◌∷◌, ◌++◌, map, length, take}
use Rattle.std.specs.Prelude.{Option, Some, None}
use mathlib.Core.Option.{some}
use lib.ListN.{get_elem?}
use base.Stored.{Gv}
use Rattle.board_rule.specs.declared.view.Stop.{Stop}
use Rattle.board_rule.specs.declared.view.Marks.{Marks}
use Rattle.board_rule.specs.declared.view.Story.{Story}
use Rattle.board_rule.specs.declared.view.Joined.{Joined}
use Rattle.board_rule.specs.declared.view.At.{At}
use Rattle.board_rule.specs.declared.view.At.TheVariants.{Home, Away, Hand}
use Rattle.board_rule.specs.declared.view.Content.{Content}
use Rattle.board_rule.specs.declared.view.Content.TheVariants.{InHand, Empty, Full}
use Rattle.board_rule.specs.declared.view.Grab.{Grab}
use Rattle.board_rule.specs.declared.view.Grab.TheVariants.{Free, Grabbed, Found, Writing}
use Rattle.board_rule.specs.declared.view.Code.{Code}
use Rattle.board_rule.specs.declared.view.View.{View}

-- the number of the first seat, which is the worker's
abbrev pub worker : ℕ
worker = 4294967295

-- the list begins with `first`
abbrev pub StartsWith : {E : Type 0} → List E → List E → Type 0
StartsWith {E} l first = (rest : List E) × (l ≡ first ++ rest)

abbrev pub longer : {E : Type 0} → List E → List E → List E
longer a b = if nat_lt (length a) (length b) then b else a

-- each entry may be added to those before it
abbrev pub IsLawful : {E : Type 0} → (List E → E → Type 0) → List E → Type 0
IsLawful {E} follows l = (i : ℕ) (e : E) → get_elem? l i ≡ some e → follows (take i l) e

-- the value is sound, and its origin is that of `begun`, the one with which the board was opened
abbrev pub IsSoundSince : {H O : Type 0} → (H → Type 0) → (H → O) → H → H → Type 0
IsSoundSince sound origin begun h = sound h × (origin h ≡ origin begun)

-- entries as views have them
abbrev pub code : {A : Type 0} → (A → Gv) → A → Code
code f a = record { of = f a }

abbrev pub codes : {A : Type 0} → (A → Gv) → List A → List Code
codes f l = map (code f) l

-- these are the codes of a lawful list
abbrev pub AreLawful : {A : Type 0} → (A → Gv) → (List A → A → Type 0) → List Code → Type 0
AreLawful {A} f follows es = (l : List A) × (es ≡ codes f l) × IsLawful follows l

-- of the entries from t on, whose authors these are, those of n
abbrev pub commits_of : ℕ → ℕ → List ℕ → List ℕ
commits_of n t [] = []
commits_of n t (a ∷ more) =
    if a == n then t ∷ commits_of n (t + 1) more else commits_of n (t + 1) more

abbrev pub AllBelow : ℕ → List ℕ → Type 0
AllBelow n ts = (k t : ℕ) → get_elem? ts k ≡ some t → t < n

abbrev pub unmarked : Marks
unmarked = record { stop = None; covered = 0 }

-- the marks that are named once the next ones, if any, are
abbrev pub marked : Marks → Option Marks → Marks
marked m None = m
marked m (Some k) = k

-- The seat of this number may note k as the next marks, where m are named:
-- it keeps a named stop, a new one is its own, and only the worker changes `covered`
abbrev pub MayMark : ℕ → Marks → Marks → Type 0
MayMark number m k =
    ((p : Stop) → m.stop ≡ Some p → k.stop ≡ Some p)
    × ((p : Stop) → k.stop ≡ Some p → (m.stop ≡ Some p) ⊎ (p.author ≡ number))
    × ((k.covered ≡ m.covered) ⊎ (number ≡ worker))

abbrev pub core_rests : At → Bool
core_rests Home = true
core_rests Away = true
core_rests Hand = false

-- one more session was tried, where that counts
abbrev pub tried_too : ℕ → Option (List ℕ) → Option (List ℕ)
tried_too s None = None
tried_too s (Some ts) = Some (ts ++ s ∷ [])

-- the sessions below n were tried, from the last down to the first
abbrev pub tried_down : ℕ → Option (List ℕ) → Option (List ℕ)
tried_down zero tried = tried
tried_down (suc n) tried = tried_down n (tried_too n tried)

-- each of n sessions was tried, if there was a commit in this turn
abbrev pub IsTried : ℕ → Option (List ℕ) → Type 0
IsTried n tried =
    (ts : List ℕ) → tried ≡ Some ts → (s : ℕ) → s < n → (k : ℕ) × (get_elem? ts k ≡ some s)

module _ {E : Type 0} where
  abbrev pub story : List E → List ℕ → Marks → Story E
  story entries authors marks = record { entries = entries; authors = authors; marks = marks }

  abbrev pub entries_in : Option (Story E) → List E
  entries_in None = []
  entries_in (Some y) = y.entries

  abbrev pub authors_in : Option (Story E) → List ℕ
  authors_in None = []
  authors_in (Some y) = y.authors

  abbrev pub marks_in : Option (Story E) → Marks
  marks_in None = unmarked
  marks_in (Some y) = y.marks

  abbrev pub HasTurn : View E → Type 0
  HasTurn v = (y : Story E) × (v.turn ≡ Some y)

  -- of the holder of the turn:
  -- the whole history, its authors, the named marks, and those of slot 0's value
  abbrev pub history_of : View E → List E
  history_of v = entries_in v.turn

  abbrev pub authors_of : View E → List ℕ
  authors_of v = authors_in v.turn

  abbrev pub named_of : View E → Marks
  named_of v = marks_in v.turn

  abbrev pub marks_of : View E → Marks
  marks_of v = marked (named_of v) v.next

  -- these are the list, authors and marks of a value
  -- that may lie in slot 0, and the rest holds of it
  abbrev pub Fits : List E → List ℕ → Marks → Type 0 → View E → Type 0
  Fits entries authors marks sound v =
      (entries ≡ history_of v) × (authors ≡ authors_of v) × (marks ≡ marks_of v) × sound

  abbrev pub session_of : ℕ → Grab E → ℕ
  session_of number Free = number
  session_of number Grabbed = number
  session_of number (Found l c) = number
  session_of number (Writing s c) = s

  abbrev pub found_of : Grab E → List E
  found_of Free = []
  found_of Grabbed = []
  found_of (Found l c) = l
  found_of (Writing s c) = []

  abbrev pub content_of : Grab E → Content E
  content_of Free = InHand
  content_of Grabbed = InHand
  content_of (Found l c) = c
  content_of (Writing s c) = c

  abbrev pub refilled : Grab E → Content E → Grab E
  refilled Free d = Free
  refilled Grabbed d = Grabbed
  refilled (Found l c) d = Found l d
  refilled (Writing s c) d = Writing s d

  -- the seat may move the snapshot of this session:
  -- it holds the mail word, and has noted what is there
  abbrev pub MayMove : ℕ → ℕ → Grab E → Type 0
  MayMove number s Free = ⊥
  MayMove number s Grabbed = ⊥
  MayMove number s (Found l c) = s ≡ number
  MayMove number s (Writing r c) = s ≡ r

  -- the reader may let go: the snapshot that it found, if it noted one, is in the slot
  abbrev pub MayLetGo : Grab E → Type 0
  MayLetGo Free = ⊥
  MayLetGo Grabbed = Unit {0}
  MayLetGo (Found l c) = c ≡ Full l
  MayLetGo (Writing s c) = ⊥

  abbrev pub content_rests : Content E → Bool
  content_rests InHand = false
  content_rests Empty = true
  content_rests (Full l) = true

  abbrev pub grab_rests : Grab E → Bool
  grab_rests Free = true
  grab_rests Grabbed = true
  grab_rests (Found l c) = content_rests c
  grab_rests (Writing s c) = content_rests c

  -- the seat has no slot in hand
  abbrev pub Rests : View E → Type 0
  Rests v = (core_rests v.core ≡ true) × (grab_rests v.grab ≡ true)

  abbrev pub starting : ℕ → List E → ℕ → View E
  starting start seen covered = record {
    number = worker;
    seats = 1;
    given = 0;
    start = start;
    ticket = None;
    draws = 0;
    loads = 0;
    grabs = 0;
    lost = 0;
    met = 0;
    last_found = None;
    seen = seen;
    commits = [];
    joined = [];
    turn = None;
    core = Home;
    next = None;
    tried = None;
    stop = None;
    covered = covered;
    grab = Free;
  }

  -- the two views after a split
  abbrev pub giver : View E → View E
  giver v = record v { given = v.given + 1 }

  abbrev pub newcomer : View E → View E
  newcomer v = record (starting v.start v.seen 0) { number = v.given }

  -- what v keeps of u, which is joined to it
  abbrev pub note_of : View E → View E → Joined E
  note_of v u =
      record {
        number = u.number;
        seen = u.seen;
        beside = v.seen;
        commits = u.commits;
        stop = u.stop;
      }

  -- the two views after a join
  abbrev pub both : View E → View E → View E
  both v u =
      record v {
        seats = v.seats + u.seats;
        seen = longer v.seen u.seen;
        joined = v.joined ++ note_of v u ∷ u.joined;
      }

  abbrev pub spent : View E
  spent = record (starting 0 [] 0) { seats = 0 }

  abbrev pub drew : View E → ℕ → View E
  drew v t = record v { ticket = Some t; draws = v.draws + 1 }

  -- the turn begins, with this history
  abbrev pub began : View E → Story E → View E
  began v y = record v { turn = Some y; core = Home; next = None; tried = None }

  abbrev pub noted : View E → Marks → View E
  noted v m = record v { next = Some m }

  abbrev pub added : View E → List E → List ℕ → ℕ → View E
  added v entries authors t =
      record v {
        turn = Some (story entries authors (named_of v));
        seen = entries;
        commits = v.commits ++ t ∷ [];
        tried = Some [];
      }

  abbrev pub ended : View E → View E
  ended v =
      record v {
        ticket = None;
        turn = None;
        next = None;
        tried = None;
        stop = (marks_of v).stop;
        covered = (marks_of v).covered;
      }

  abbrev pub counted : View E → List E → View E
  counted v l = record v { seen = l; loads = v.loads + 1 }

  -- the reader's own mail word was grabbed, or found at 2
  abbrev pub grabbed : View E → View E
  grabbed v = record v { grab = Grabbed; grabs = v.grabs + 1; met = 0; last_found = None }

  abbrev pub passed : View E → View E
  passed v = record v { grabs = v.grabs + 1; lost = v.lost + 1; met = 2 }

  -- a snapshot of this history lies in the mail slot
  abbrev pub found : View E → List E → View E
  found v l = record v { grab = Found l (Full l); last_found = Some l }

  abbrev pub let_go : View E → Bool → View E
  let_go v kept =
      record v { grab = Free; seen = if kept then longer v.seen (found_of v.grab) else v.seen }

  -- the session's mail word was grabbed by the holder of the turn, or found at 1
  abbrev pub writing : View E → ℕ → List E → View E
  writing v s l = record v { grab = Writing s (Full l); tried = tried_too s v.tried; met = 0 }

  abbrev pub skipped : View E → ℕ → View E
  skipped v s = record v { tried = tried_too s v.tried; met = 1 }

  -- the seat has no ticket, no turn and no mail word
  abbrev pub IsIdle : View E → Type 0
  IsIdle v = (v.ticket ≡ None) × (v.turn ≡ None) × (v.grab ≡ Free)

  -- what a seat learns as its turn begins
  pub record Learned (lawful : List E → Type 0) (v : View E) (y : Story E) : Type 0 where
    pub lawful_now : lawful y.entries
    pub seen : StartsWith y.entries v.seen
    pub commits : v.commits ≡ commits_of v.number (v.start + 1) y.authors
    pub counted : v.start + 1 + length y.authors ≡ length y.entries
    pub stop : (p : Stop) → v.stop ≡ Some p → y.marks.stop ≡ Some p
    pub own_stop : (p : Stop) → y.marks.stop ≡ Some p → v.number ≡ p.author → v.stop ≡ Some p
    pub covered : v.number ≡ worker → v.covered ≡ y.marks.covered

  -- what a seat learns by a look, by whether it had the turn:
  -- w is the view after it, and n the word
  abbrev pub Looks : (List E → Type 0) → Option (Story E) → View E → ℕ → View E → Type 0
  Looks lawful None v n w =
      (v.ticket ≡ Some n → (y : Story E) × (w ≡ began v y) × Learned lawful v y)
      × (v.ticket ≢ Some n → w ≡ v)
  Looks lawful (Some h) v n w = (w ≡ v) × (v.ticket ≡ Some n)

  -- What holds of slot 0's value as the board is closed, beside that its history is lawful
  -- and that it is sound: v is the last view of the first seat, to which all others were joined
  pub record IsWhole (entries : List E) (authors : List ℕ) (marks : Marks) (v : View E)
      : Type 0 where
    pub seen : StartsWith entries v.seen
    pub counted : v.start + 1 + length authors ≡ length entries
    pub commits : v.commits ≡ commits_of v.number (v.start + 1) authors
    pub joined_seen : (k : ℕ) (p : Joined E) → get_elem? v.joined k ≡ some p
        → StartsWith entries p.seen × StartsWith entries p.beside
    pub joined : (k : ℕ) (p : Joined E) → get_elem? v.joined k ≡ some p
        → p.commits ≡ commits_of p.number (v.start + 1) authors
    pub unwritten : (z : ℕ) → v.given ≤ z → z ≢ worker → commits_of z (v.start + 1) authors ≡ []
    pub stop : (p : Stop) → v.stop ≡ Some p → marks.stop ≡ Some p
    pub own_stop : (p : Stop) → marks.stop ≡ Some p → v.number ≡ p.author → v.stop ≡ Some p
    pub joined_stop : (k : ℕ) (p : Joined E) (q : Stop) → get_elem? v.joined k ≡ some p
        → p.stop ≡ Some q → marks.stop ≡ Some q
    pub joined_own_stop : (k : ℕ) (p : Joined E) (q : Stop) → get_elem? v.joined k ≡ some p
        → marks.stop ≡ Some q → p.number ≡ q.author → p.stop ≡ Some q
    pub covered : v.covered ≡ marks.covered
