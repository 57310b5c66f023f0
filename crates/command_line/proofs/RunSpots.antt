-- Where `clap`'s walk over the words behind `run` stands, and what it has found.
use Rattle.std.proofs.Common.{◌≡◌, ◌∙◌, ℕ, ◌&&◌, Bool, cond, true, false, refl, ap, List, [], ◌∷◌, ◌++◌, Option, Some, None, is_some, codes}
use Rattle.std.specs.Option.{option_map_or}
use Rattle.std.specs.Str.{bytes_eq}
use Rattle.clap.specs.Walk.{Row, Rule, Text, Waiting, Walk, has_row, idle, option, positional, reading_by, settled_rows, used, value}
use Rattle.clap.specs.Simple.{Shape, built, filled}
use Rattle.clap.specs.Kinds.{Kinds}
use Rattle.clap.specs.Faults.{settle_fault, step_fault, use_fault}
use Rattle.clap.specs.declared.error.kind.ErrorKind.TheVariants.{ArgumentConflict, TooManyValues}
use Rattle.clap.specs.declared.parser.matches.ValueSource.TheVariants.{CommandLine}
use Rattle.command_line.specs.ByClap.{directory_rule, run_app, strict_rule}
use Rattle.command_line.proofs.Dashes.{HasOptions, held}
use Rattle.command_line.proofs.Rows.{found, found_first, found_more, found_other, has_row-found, without_none}
use Rattle.command_line.proofs.Walks.{walk_at}

abbrev pub shape : Shape
shape = (built run_app).top

abbrev pub rules : List Rule
rules = shape.rules

pub options : HasOptions rules
options = record { short = λ x. refl; long = λ name e f. rw (e, f) refl; kind = TooManyValues; valued = λ value h. refl }

-- `--strict`, as the built command has it
abbrev pub flag_rule : Rule
flag_rule = filled strict_rule

-- the names, the number and the flag that were found, in the rows and in what is pending
pub record Spot : Type 0 where
  pub names : List Text
  pub number : Option Text
  pub strict : Bool
  pub rows : List Row
  pub pending : Option (Text × List Text)

-- the rows once nothing is pending, and what keeps it from being settled
abbrev pub rows_at : Spot → List Row
rows_at s = settled_rows rules s.pending s.rows

abbrev pub fault_at : Spot → Kinds
fault_at s = settle_fault rules false (held s.rows s.pending)

-- what keeps the flag from being given, once nothing is pending
abbrev pub flag_fault : Spot → Kinds
flag_fault s = use_fault false flag_rule [] (rows_at s)

-- the names, of which the first is the directory

abbrev pub id_of : List Text → Text
id_of [] = codes "DIR"
id_of (directory ∷ scripts) = codes "SCRIPT"

abbrev pub position_of : List Text → ℕ
position_of [] = 1
position_of (directory ∷ scripts) = 2

abbrev pub waiting_after : List Text → Waiting
waiting_after [] = idle
waiting_after (directory ∷ scripts) = positional

abbrev pub directory_in : List Text → List Text
directory_in [] = []
directory_in (directory ∷ scripts) = directory ∷ []

abbrev pub scripts_in : List Text → List Text
scripts_in [] = []
scripts_in (directory ∷ scripts) = scripts

abbrev pub numbers_in : Option Text → List Text
numbers_in None = []
numbers_in (Some number) = number ∷ []

-- ---- the walk there

abbrev pub at : Spot → Waiting → Bool → Walk
at s waiting = walk_at s.rows s.pending waiting (position_of s.names)

-- the number of `--merge-at` stands next
abbrev pub asking : Spot → Bool → Walk
asking s = walk_at (rows_at s) (Some (codes "merge-at", [])) (option (codes "merge-at")) (position_of s.names)

-- no option waits for its value
abbrev pub IsIdle : Waiting → Type 0
IsIdle idle = Unit {0}
IsIdle positional = Unit {0}
IsIdle (option id) = ⊥

pub by_idle : (P : Waiting → Type 0) → P idle → P positional → (waiting : Waiting) → IsIdle waiting → P waiting
by_idle P i p idle free = i
by_idle P i p positional free = p
by_idle P i p (option id) free = absurd free

pub idle_after : (names : List Text) → IsIdle (waiting_after names)
idle_after [] = tt
idle_after (directory ∷ scripts) = tt

pub not_both : {X : Type 0} (b : Bool) (x y : X) → cond (b && false) x y ≡ y
not_both true x y = refl
not_both false x y = refl

abbrev pub waits_for : Text → Option (Text × List Text) → Bool
waits_for id pending = option_map_or (λ q. bytes_eq q.0 id) pending false

-- a name settles first what is pending
pub name_fault : (s : Spot) → step_fault shape (position_of s.names) (held s.rows s.pending) value ≡ fault_at s
name_fault s = go s.names
  where
    go : (names : List Text) → step_fault shape (position_of names) (held s.rows s.pending) value ≡ fault_at s
    go [] = not_both (waits_for (codes "DIR") s.pending) [] _
    go (directory ∷ scripts) = not_both (waits_for (codes "SCRIPT") s.pending) [] _

-- ---- one name, number or flag more

abbrev pub with_name : Spot → Text → Spot
with_name s word =
    record s { names = s.names ++ word ∷ []; rows = rows_at s; pending = Some (id_of s.names, word ∷ []) }

abbrev pub with_number : Spot → Text → Spot
with_number s word =
    record s { number = Some word; rows = rows_at s; pending = Some (codes "merge-at", word ∷ []) }

-- a flag has no value, so it is settled at once
abbrev pub with_flag : Spot → Spot
with_flag s = record s { strict = true; rows = used flag_rule [] (rows_at s); pending = None }

abbrev pub rested : Spot → Spot
rested s = record s { rows = rows_at s; pending = None }

-- ---- what is found is in the rows

abbrev pub given : Text → List Text → Option Row
given id [] = None
given id (v ∷ vs) = Some (record {
  id = id;
  values = v ∷ vs;
  count = None;
  source = Some CommandLine;
  reading = reading_by directory_rule;
})

abbrev pub flagged : Bool → Option Row
flagged false = None
flagged true = Some (record {
  id = codes "strict";
  values = codes "true" ∷ [];
  count = None;
  source = Some CommandLine;
  reading = reading_by flag_rule;
})

pub record Has (names : List Text) (number : Option Text) (strict : Bool) (rows : List Row) : Type 0 where
  pub directory : found (codes "DIR") rows ≡ given (codes "DIR") (directory_in names)
  pub scripts : found (codes "SCRIPT") rows ≡ given (codes "SCRIPT") (scripts_in names)
  pub numbers : found (codes "merge-at") rows ≡ given (codes "merge-at") (numbers_in number)
  pub flag : found (codes "strict") rows ≡ flagged strict

pub record Stands (s : Spot) : Type 0 where
  pub settles : fault_at s ≡ []
  pub has : Has s.names s.number s.strict (rows_at s)

has_name : (names : List Text) (number : Option Text) (strict : Bool) (word : Text) (rows : List Row) → Has names number strict rows
    → Has (names ++ word ∷ []) number strict (settled_rows rules (Some (id_of names, word ∷ [])) rows)
has_name [] number strict word rows has =
    let none = without_none (codes "DIR") rows has.directory in
    record {
      directory = rw none (found_first (codes "DIR") refl _ _ _ rows has.directory);
      scripts = rw none (found_other (codes "SCRIPT") (codes "DIR") refl _ _ _ rows ∙ has.scripts);
      numbers = rw none (found_other (codes "merge-at") (codes "DIR") refl _ _ _ rows ∙ has.numbers);
      flag = rw none (found_other (codes "strict") (codes "DIR") refl _ _ _ rows ∙ has.flag);
    }
has_name (directory ∷ []) number strict word rows has = record {
  directory = found_other (codes "DIR") (codes "SCRIPT") refl _ _ _ rows ∙ has.directory;
  scripts = found_first (codes "SCRIPT") refl _ _ _ rows has.scripts;
  numbers = found_other (codes "merge-at") (codes "SCRIPT") refl _ _ _ rows ∙ has.numbers;
  flag = found_other (codes "strict") (codes "SCRIPT") refl _ _ _ rows ∙ has.flag;
}
has_name (directory ∷ s ∷ ss) number strict word rows has = record {
  directory = found_other (codes "DIR") (codes "SCRIPT") refl _ _ _ rows ∙ has.directory;
  scripts = found_more (codes "SCRIPT") refl _ _ _ rows _ has.scripts;
  numbers = found_other (codes "merge-at") (codes "SCRIPT") refl _ _ _ rows ∙ has.numbers;
  flag = found_other (codes "strict") (codes "SCRIPT") refl _ _ _ rows ∙ has.flag;
}

has_number : (names : List Text) (number : Text) (strict : Bool) (rows : List Row) → Has names None strict rows
    → Has names (Some number) strict (settled_rows rules (Some (codes "merge-at", number ∷ [])) rows)
has_number names number strict rows has =
    let none = without_none (codes "merge-at") rows has.numbers in
    record {
      directory = rw none (found_other (codes "DIR") (codes "merge-at") refl _ _ _ rows ∙ has.directory);
      scripts = rw none (found_other (codes "SCRIPT") (codes "merge-at") refl _ _ _ rows ∙ has.scripts);
      numbers = rw none (found_first (codes "merge-at") refl _ _ _ rows has.numbers);
      flag = rw none (found_other (codes "strict") (codes "merge-at") refl _ _ _ rows ∙ has.flag);
    }

has_flag : (names : List Text) (number : Option Text) (rows : List Row) → Has names number false rows
    → Has names number true (used flag_rule [] rows)
has_flag names number rows has =
    let none = without_none (codes "strict") rows has.flag in
    record {
      directory = rw none (found_other (codes "DIR") (codes "strict") refl _ _ _ rows ∙ has.directory);
      scripts = rw none (found_other (codes "SCRIPT") (codes "strict") refl _ _ _ rows ∙ has.scripts);
      numbers = rw none (found_other (codes "merge-at") (codes "strict") refl _ _ _ rows ∙ has.numbers);
      flag = rw none (found_first (codes "strict") refl _ _ _ rows has.flag);
    }

-- ---- each step from such a spot

pub stands_by_name : (s : Spot) (word : Text) → Stands s → Stands (with_name s word)
stands_by_name s word stands = record {
  settles = go s.names s.number s.strict stands.has;
  has = has_name s.names s.number s.strict word (rows_at s) stands.has;
}
  where
    go : (names : List Text) (number : Option Text) (strict : Bool) → Has names number strict (rows_at s)
        → settle_fault rules false (held (rows_at s) (Some (id_of names, word ∷ []))) ≡ []
    go [] number strict has =
        let none : has_row (codes "DIR") (rows_at s) ≡ false =
        has_row-found (codes "DIR") (rows_at s) ∙ ap (λ (o : Option Row). is_some o) has.directory in
        rw none refl
    go (directory ∷ scripts) number strict has = refl

pub stands_by_number : (s : Spot) (word : Text) → s.number ≡ None → Stands s → Stands (with_number s word)
stands_by_number s word none stands = go s.number none stands.has
  where
    go : (number : Option Text) → number ≡ None → Has s.names number s.strict (rows_at s) → Stands (with_number s word)
    go None is has =
        let no_row : has_row (codes "merge-at") (rows_at s) ≡ false =
        has_row-found (codes "merge-at") (rows_at s) ∙ ap (λ (o : Option Row). is_some o) has.numbers in
        record { settles = rw no_row refl; has = has_number s.names word s.strict (rows_at s) has }
    go (Some first) is has = absurd (cc)

-- a second number is refused once it is to be settled
pub second_number : (s : Spot) (first word : Text) → s.number ≡ Some first → Stands s
    → fault_at (with_number s word) ≡ ArgumentConflict ∷ []
second_number s first word some stands =
    let row : has_row (codes "merge-at") (rows_at s) ≡ true =
    has_row-found (codes "merge-at") (rows_at s)
    ∙ ap (λ (o : Option Row). is_some o) (stands.has.numbers ∙ ap (λ n. given (codes "merge-at") (numbers_in n)) some) in
    rw row refl

pub stands_by_flag : (s : Spot) → s.strict ≡ false → Stands s → (flag_fault s ≡ []) × Stands (with_flag s)
stands_by_flag s unset stands = go s.strict unset stands.has
  where
    go : (strict : Bool) → strict ≡ false → Has s.names s.number strict (rows_at s) → (flag_fault s ≡ []) × Stands (with_flag s)
    go false is has =
        let no_row : has_row (codes "strict") (rows_at s) ≡ false =
        has_row-found (codes "strict") (rows_at s) ∙ ap (λ (o : Option Row). is_some o) has.flag in
        (rw no_row refl, record { settles = refl; has = has_flag s.names s.number (rows_at s) has })
    go true is has = absurd (cc)

-- a second flag is refused at once
pub second_flag : (s : Spot) → s.strict ≡ true → Stands s → flag_fault s ≡ ArgumentConflict ∷ []
second_flag s set stands =
    let row : has_row (codes "strict") (rows_at s) ≡ true =
    has_row-found (codes "strict") (rows_at s)
    ∙ ap (λ (o : Option Row). is_some o) (stands.has.flag ∙ ap (λ b. flagged b) set) in
    rw row refl

pub stands_rested : (s : Spot) → Stands s → Stands (rested s)
stands_rested s stands = record { settles = refl; has = stands.has }
