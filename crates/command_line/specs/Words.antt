-- What the words of a command line ask for.
-- This project's own choice.
use Rattle.std.specs.Prelude.{ℕ, ◌==◌, Bool, true, false, not, ◌&&◌, ◌||◌, List, [], ◌∷◌, ◌++◌}
use Rattle.std.specs.Prelude.{Option, Some, None, is_some, length, drop, take, option_and_then}
use Rattle.std.specs.Prelude.{if◌then◌else◌, nat_eq, nat_lt, nat_le, bytes_eq, codes}
use Rattle.std.specs.List.{list_any, starts_with}
use Rattle.std.specs.Option.{option_map}
use Rattle.std.specs.Str.{all_ascii_digits}
use Rattle.std.specs.Str.Parse.{digits_value}
use Rattle.command_line.specs.declared.commands.Options.{Options}

-- what is to be done
pub data Command : Type 0 where
  -- scripts, over the history that a directory keeps
  run : Options → List ℕ → List (List ℕ) → Command
  -- a look at the history that a directory keeps
  check : List ℕ → Command
  -- the generator, each of whose sessions records so many numbers
  load : ℕ → Command
  -- a copy of what one directory keeps to another
  backup : List ℕ → List ℕ → Command

-- the scripts that it runs, in order
abbrev pub scripts_of : Option Command → List (List ℕ)
scripts_of None = []
scripts_of (Some (run options directory scripts)) = scripts
scripts_of (Some (check directory)) = []
scripts_of (Some (load count)) = []
scripts_of (Some (backup from to)) = []

-- how many live datoms make a merge due in a run of the generator
abbrev pub load_merge_at : ℕ
load_merge_at = 10000

-- how many live datoms make a merge due
abbrev pub merge_at_of : Option Command → Option ℕ
merge_at_of None = None
merge_at_of (Some (run options directory scripts)) = Some options.merge_at
merge_at_of (Some (check directory)) = None
merge_at_of (Some (load count)) = Some load_merge_at
merge_at_of (Some (backup from to)) = None

-- whether the program's guard judges what the scripts ask for
abbrev pub is_strict : Option Command → Bool
is_strict None = false
is_strict (Some (run options directory scripts)) = options.strict
is_strict (Some (check directory)) = false
is_strict (Some (load count)) = false
is_strict (Some (backup from to)) = false

-- ---- names

-- a dash and more is an option, and no name
abbrev pub is_name : List ℕ → Bool
is_name [] = true
is_name (c ∷ []) = true
is_name (c ∷ d ∷ rest) = not (c == 45)

-- the name of standard input and of standard output
abbrev pub standard : List ℕ
standard = codes "-"

-- where a script's lines go
abbrev pub sink_of : List ℕ → List ℕ
sink_of script = if bytes_eq script standard then standard else script ++ codes ".out"

-- the name is the script's with `.out` after it
abbrev pub is_out_of : List ℕ → List ℕ → Bool
is_out_of name script =
    bytes_eq (take (length script) name) script
    && bytes_eq (drop (length script) name) (codes ".out")

-- two scripts are the same, or one would be where the other's lines go
abbrev pub clash : List ℕ → List ℕ → Bool
clash one other = bytes_eq one other || (is_out_of one other || is_out_of other one)

-- no two of them clash
abbrev pub are_apart : List (List ℕ) → Bool
are_apart [] = true
are_apart (name ∷ names) = not (list_any (clash name) names) && are_apart names

abbrev pub most_scripts : ℕ
most_scripts = 16

-- the scripts may run together
abbrev pub are_scripts : List (List ℕ) → Bool
are_scripts names =
    nat_lt 0 (length names) && (nat_le (length names) most_scripts && are_apart names)

-- ---- numbers

-- how many live datoms make a merge due where `--merge-at` says nothing
abbrev pub usual_merge_at : ℕ
usual_merge_at = 65536

abbrev pub greatest_merge_at : ℕ
greatest_merge_at = 1000000

-- how many numbers a session of the generator records at most
abbrev pub greatest_load : ℕ
greatest_load = 5000

abbrev pub begins_above_zero : List ℕ → Bool
begins_above_zero [] = false
begins_above_zero (c ∷ cs) = nat_le 49 c && nat_le c 57

-- the number from 1 to the greatest that a word of decimal digits writes, without a leading zero
abbrev pub number_up_to : ℕ → List ℕ → Option ℕ
number_up_to greatest word =
    if begins_above_zero word
    && (all_ascii_digits word
    && (nat_le 1 (digits_value 10 word) && nat_le (digits_value 10 word) greatest))
    then Some (digits_value 10 word)
    else None

-- the number of `--merge-at` that is given, or else the usual one
abbrev pub merge_at_in : Option (List ℕ) → Option ℕ
merge_at_in None = Some usual_merge_at
merge_at_in (Some word) = number_up_to greatest_merge_at word

-- ---- the walk over the words after the verb, from left to right

pub data Place : Type 0 where
  -- an option or a name may come next
  Anywhere : Place
  -- the number of `--merge-at`
  AtNumber : Place
  -- names alone, since `--` has ended the options
  BehindOptions : Place

-- what may come next, the names so far, the number that was given, and whether `--strict` was
pub record Progress : Type 0 where
  pub place : Place
  pub names : List (List ℕ)
  pub number : Option (List ℕ)
  pub strict : Bool

abbrev pub start : Progress
start = record { place = Anywhere; names = []; number = None; strict = false }

abbrev pub named : Progress → List ℕ → Progress
named p word = record p { names = p.names ++ word ∷ [] }

-- the word is the number of `--merge-at`, which occurs once at most
abbrev pub numbered : Progress → List ℕ → Option Progress
numbered p word =
    if is_some p.number then None else Some (record p { place = Anywhere; number = Some word })

-- the word is `--strict`, which occurs once at most
abbrev pub flagged : Progress → Option Progress
flagged p = if p.strict then None else Some (record p { strict = true })

abbrev pub merge_at_is : List ℕ
merge_at_is = codes "--merge-at="

-- a step where an option may come: `--` ends the options, `--merge-at` takes the next word or its
-- own rest, `--strict` takes nothing, and what else is no name makes no command
abbrev pub step_anywhere : Progress → List ℕ → Option Progress
step_anywhere p word =
    if bytes_eq word (codes "--") then Some (record p { place = BehindOptions })
    else (if bytes_eq word (codes "--merge-at") then Some (record p { place = AtNumber })
    else (if starts_with nat_eq word merge_at_is
    then numbered p (drop (length merge_at_is) word)
    else (if bytes_eq word (codes "--strict") then flagged p
    else (if is_name word then Some (named p word) else None))))

abbrev pub step_at : Place → Progress → List ℕ → Option Progress
step_at Anywhere p word = step_anywhere p word
step_at AtNumber p word = numbered p word
step_at BehindOptions p word = Some (named p word)

abbrev pub step : Progress → List ℕ → Option Progress
step p word = step_at p.place p word

-- from there over the words, unless no command has them
abbrev pub walked : Option Progress → List (List ℕ) → Option Progress
walked None words = None
walked (Some p) [] = Some p
walked (Some p) (word ∷ words) = walked (step p word) words

-- ---- the command

-- Of the names the first is the directory, and the others are the scripts.
abbrev pub command_with : List (List ℕ) → Option ℕ → Bool → Option Command
command_with [] merge_at strict = None
command_with (directory ∷ scripts) None strict = None
command_with (directory ∷ scripts) (Some merge_at) strict =
    if are_scripts scripts
    then Some (run (record { merge_at = merge_at; strict = strict }) directory scripts)
    else None

abbrev pub command_at : Place → Progress → Option Command
command_at Anywhere p = command_with p.names (merge_at_in p.number) p.strict
command_at AtNumber p = None
command_at BehindOptions p = command_with p.names (merge_at_in p.number) p.strict

-- the command that a walk over all words has found
abbrev pub command_from : Option Progress → Option Command
command_from None = None
command_from (Some p) = command_at p.place p

-- the one name that the words give; there is no option, and `--` may be on either side of the name
abbrev pub one_name : List (List ℕ) → Option (List ℕ)
one_name (word ∷ []) = if is_name word then Some word else None
one_name (word ∷ other ∷ []) =
    if bytes_eq word (codes "--") then Some other
    else (if bytes_eq other (codes "--") && is_name word then Some word else None)
one_name words = None

-- the two names that the words give; there is no option, and `--` may be anywhere among them
abbrev pub two_names : List (List ℕ) → Option (List ℕ × List ℕ)
two_names (word ∷ other ∷ []) =
    if is_name word && is_name other then Some (word, other) else None
two_names (word ∷ other ∷ third ∷ []) =
    if bytes_eq word (codes "--") then Some (other, third)
    else (if bytes_eq other (codes "--") && is_name word then Some (word, third)
    else (if bytes_eq third (codes "--") && (is_name word && is_name other)
    then Some (word, other) else None))
two_names words = None

-- a look at one directory
abbrev pub check_of : List (List ℕ) → Option Command
check_of words = option_map check (one_name words)

-- the generator, by one number
abbrev pub load_of : List (List ℕ) → Option Command
load_of words = option_map load (option_and_then (number_up_to greatest_load) (one_name words))

-- a directory is no copy of itself
abbrev pub between : List ℕ × List ℕ → Option Command
between names = if bytes_eq names.0 names.1 then None else Some (backup names.0 names.1)

-- a copy from one directory to another
abbrev pub backup_of : List (List ℕ) → Option Command
backup_of words = option_and_then between (two_names words)

-- the command that the words after the program's name are, or none
abbrev pub command_of : List (List ℕ) → Option Command
command_of [] = None
command_of (verb ∷ words) =
    if bytes_eq verb (codes "run") then command_from (walked (Some start) words)
    else (if bytes_eq verb (codes "check") then check_of words
    else (if bytes_eq verb (codes "load") then load_of words
    else (if bytes_eq verb (codes "backup") then backup_of words else None)))
