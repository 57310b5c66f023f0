-- `clap` reads of the words behind `run` what the definition's walk reads.
use Rattle.std.proofs.Common.{◌≡◌, ◌∙◌, ℕ, ◌||◌, Bool, cond, true, false, refl, sym, ap, List, [], ◌∷◌, ◌++◌, drop, length, Option, Some}
use Rattle.std.proofs.Common.{None, codes, is_some, nat_eq}
use Rattle.std.specs.List.{fold, starts_with}
use Rattle.std.specs.Prelude.{option_and_then}
use Rattle.std.specs.Str.{bytes_eq}
use Rattle.clap.specs.Walk.{Row, Text, Waiting, Walk, first_of, has_row, idle, nothing_held, reading_by, with_default, with_values}
use Rattle.clap.specs.Kinds.{Kinds, or_else}
use Rattle.clap.specs.Faults.{check_fault, defaults_fault, walk_fault}
use Rattle.clap.specs.Simple.{built, matches_of}
use Rattle.clap.specs.declared.error.kind.ErrorKind.TheVariants.{ArgumentConflict}
use Rattle.clap.specs.declared.parser.matches.ValueSource.TheVariants.{DefaultValue}
use Rattle.clap.proofs.FaultLemmas.{leaf_fault}
use Rattle.command_line.specs.Words.{Anywhere, AtNumber, BehindOptions, Command, Place, Progress, command_from, command_with, is_name}
use Rattle.command_line.specs.Words.{flagged, greatest_merge_at, merge_at_in, merge_at_is, number_up_to, numbered, start, walked as goes}
use Rattle.command_line.specs.ByClap.{is_set, run_app, run_parsed, parsed, without_fault}
use Rattle.command_line.proofs.Dashes.{AreTexts, IsNameWord, IsStray, Meaning, asks, ends, flags, meaning_of, naming, says, stray}
use Rattle.command_line.proofs.Rows.{found, found_first, found_other, has_row-found}
use Rattle.command_line.proofs.RunSpots.{Has, IsIdle, Spot, Stands, asking, at, directory_in, flag_rule, given, idle_after, numbers_in}
use Rattle.command_line.proofs.RunSpots.{options, rested, rows_at, rules, scripts_in, second_flag, second_number, shape, stands_by_flag}
use Rattle.command_line.proofs.RunSpots.{stands_by_name, stands_by_number, stands_rested, waiting_after, with_flag, with_name, with_number}
use Rattle.command_line.proofs.RunSteps.{doomed, doomed_behind, outcome}
use Rattle.command_line.proofs.RunSteps as steps

abbrev progress : Place → List Text → Option Text → Bool → Progress
progress place names number strict = record { place = place; names = names; number = number; strict = strict }

-- what the definition makes of the words from there on
abbrev reads : Place → List Text → Option Text → Bool → List Text → Option Command
reads place names number strict words = command_from (goes (Some (progress place names number strict)) words)

-- the same of where the walk of `clap` stands
abbrev reads_at : Place → Spot → List Text → Option Command
reads_at place s = reads place s.names s.number s.strict

-- ---- a number that is none is never mended

no_command : (names : List Text) (strict : Bool) → command_with names None strict ≡ None
no_command [] strict = refl
no_command (directory ∷ scripts) strict = refl

refused : (words : List Text) → goes None words ≡ None
refused [] = refl
refused (word ∷ words) = refl

-- a step by the tests of the word, where an option may stand
abbrev stepped : Bool → Bool → Bool → Bool → Bool → List Text → Option Text → Bool → Text → Option Progress
stepped is_end is_option says_it is_flag is_name names number strict word =
    cond is_end (Some (progress BehindOptions names number strict)) (cond is_option (Some (progress AtNumber names number strict))
    (cond says_it (numbered (progress Anywhere names number strict) (drop (length merge_at_is) word))
    (cond is_flag (flagged (progress Anywhere names number strict))
    (cond is_name (Some (progress Anywhere (names ++ word ∷ []) number strict)) None))))

module _ (v : Text) (bad : number_up_to greatest_merge_at v ≡ None) where
  -- none of the words from there on makes it a command
  abbrev StaysBad : List Text → Type 0
  StaysBad words = (place : Place) (names : List Text) (strict : Bool) → reads place names (Some v) strict words ≡ None

  bad_flag : (names : List Text) (strict : Bool) (words : List Text) → StaysBad words
      → command_from (goes (flagged (progress Anywhere names (Some v) strict)) words) ≡ None
  bad_flag names true words further = ap command_from (refused words)
  bad_flag names false words further = further Anywhere names true

  bad_step : (a b c d e : Bool) (names : List Text) (strict : Bool) (word : Text) (words : List Text) → StaysBad words
      → command_from (goes (stepped a b c d e names (Some v) strict word) words) ≡ None
  bad_step true b c d e names strict word words further = further BehindOptions names strict
  bad_step false true c d e names strict word words further = further AtNumber names strict
  bad_step false false true d e names strict word words further = ap command_from (refused words)
  bad_step false false false true e names strict word words further = bad_flag names strict words further
  bad_step false false false false true names strict word words further = further Anywhere (names ++ word ∷ []) strict
  bad_step false false false false false names strict word words further = ap command_from (refused words)

  bad_end : (names : List Text) (strict : Bool) → command_with names (merge_at_in (Some v)) strict ≡ None
  bad_end names strict = ap (λ n. command_with names n strict) bad ∙ no_command names strict

  stays_bad : (words : List Text) → StaysBad words
  stays_bad [] Anywhere names strict = bad_end names strict
  stays_bad [] AtNumber names strict = refl
  stays_bad [] BehindOptions names strict = bad_end names strict
  stays_bad (word ∷ words) Anywhere names strict =
      bad_step (bytes_eq word (codes "--")) (bytes_eq word (codes "--merge-at")) (starts_with nat_eq word merge_at_is)
      (bytes_eq word (codes "--strict")) (is_name word) names strict word words (stays_bad words)
  stays_bad (word ∷ words) AtNumber names strict = ap command_from (refused words)
  stays_bad (word ∷ words) BehindOptions names strict = stays_bad words BehindOptions (names ++ word ∷ []) strict

-- ---- the end of the words

same : {X : Type 0} (b : Bool) (x : X) → cond b x x ≡ x
same true x = refl
same false x = refl

abbrev kept : Text → List Row → List Row
kept id rows = cond (has_row id rows) rows rows

-- a flag that was not given has a row that says so
abbrev completed : List Row → List Row
completed rows =
    cond (has_row (codes "strict") rows) rows (with_values (codes "strict") (reading_by flag_rule) DefaultValue (codes "false" ∷ []) rows)

-- no other argument has a default
defaults_given : (rows : List Row) → fold with_default rows rules ≡ completed rows
defaults_given rows =
    let rest = completed rows in
    (λ i. kept (codes "SCRIPT") (kept (codes "DIR") (completed (same (has_row (codes "merge-at") rows) rows i))))
    ∙ (λ i. kept (codes "SCRIPT") (same (has_row (codes "DIR") rest) rest i)) ∙ same (has_row (codes "SCRIPT") rest) rest

defaults_pass : (rows : List Row) → defaults_fault rows rules ≡ []
unfolding defaults_fault
defaults_pass rows =
    let none : (b : Bool) → ◌≡◌ {A = Kinds} (cond b [] []) [] = λ b. same b [] in
    let first = kept (codes "merge-at") rows in
    λ i. or_else (none (has_row (codes "merge-at") rows || true) i)
    (or_else (none (has_row (codes "strict") first || false) i)
    (or_else (none (has_row (codes "DIR") (completed first) || true) i)
    (or_else (none (has_row (codes "SCRIPT") (kept (codes "DIR") (completed first)) || true) i) [])))

-- what the last rows say
record Says (names : List Text) (number : Option Text) (strict : Bool) (rows : List Row) : Type 0 where
  directory : found (codes "DIR") rows ≡ given (codes "DIR") (directory_in names)
  scripts : found (codes "SCRIPT") rows ≡ given (codes "SCRIPT") (scripts_in names)
  numbers : found (codes "merge-at") rows ≡ given (codes "merge-at") (numbers_in number)
  flag : is_set (first_of (codes "strict") rows) ≡ strict

completed_says : (names : List Text) (number : Option Text) (strict : Bool) (rows : List Row) → Has names number strict rows
    → Says names number strict (completed rows)
completed_says names number true rows has =
    let row : has_row (codes "strict") rows ≡ true =
    has_row-found (codes "strict") rows ∙ ap (λ (o : Option Row). is_some o) has.flag in
    rw row (record {
      directory = has.directory;
      scripts = has.scripts;
      numbers = has.numbers;
      flag = rw has.flag refl;
    })
completed_says names number false rows has =
    let no_row : has_row (codes "strict") rows ≡ false =
    has_row-found (codes "strict") rows ∙ ap (λ (o : Option Row). is_some o) has.flag in
    rw no_row (record {
      directory = found_other (codes "DIR") (codes "strict") refl _ _ _ rows ∙ has.directory;
      scripts = found_other (codes "SCRIPT") (codes "strict") refl _ _ _ rows ∙ has.scripts;
      numbers = found_other (codes "merge-at") (codes "strict") refl _ _ _ rows ∙ has.numbers;
      flag = rw (found_first (codes "strict") refl (reading_by flag_rule) DefaultValue (codes "false" ∷ []) rows has.flag) refl;
    })

no_scripts : (directory : Text) (merge_at : Option ℕ) (strict : Bool) → None ≡ command_with (directory ∷ []) merge_at strict
no_scripts directory None strict = refl
no_scripts directory (Some n) strict = refl

asked : (names : List Text) (number : Option Text) (strict : Bool) (rows : List Row) → Says names number strict rows
    → option_and_then run_parsed (without_fault (check_fault shape rows false) rows) ≡ command_with names (merge_at_in number) strict
asked [] number strict rows are = simp are.directory refl
asked (directory ∷ []) number strict rows are =
    simp (are.directory, are.scripts) (no_scripts directory (merge_at_in number) strict)
asked (directory ∷ s ∷ ss) None strict rows are = simp (are.directory, are.scripts, are.numbers, are.flag) refl
asked (directory ∷ s ∷ ss) (Some n) strict rows are = simp (are.directory, are.scripts, are.numbers, are.flag) refl

at_end : (s : Spot) (waiting : Waiting) (is_trailing : Bool) → Stands s
    → outcome (at s waiting is_trailing) [] ≡ command_with s.names (merge_at_in s.number) s.strict
unfolding walk_fault
at_end s waiting is_trailing stands =
    let rows = rows_at s in
    let passes = defaults_pass rows in
    let then = defaults_given rows in
    (λ i. let fault = or_else (stands.settles i) (or_else (passes i) (check_fault shape (then i) false)) in
    option_and_then run_parsed (without_fault fault (then i)))
    ∙ asked s.names s.number s.strict (completed rows) (completed_says s.names s.number s.strict rows stands.has)

-- ---- from there over the words

-- wherever the two walks stand, they come to the same
record Agrees (words : List Text) : Type 0 where
  anywhere : (s : Spot) (waiting : Waiting) → IsIdle waiting → Stands s → outcome (at s waiting false) words ≡ reads_at Anywhere s words
  number : (s : Spot) → Stands s → outcome (asking s false) words ≡ reads_at AtNumber s words
  behind : (s : Spot) (waiting : Waiting) → Stands s → outcome (at s waiting true) words ≡ reads_at BehindOptions s words

agree_at_end : Agrees []
unfolding walk_fault
agree_at_end = record {
  anywhere = λ s waiting free stands. at_end s waiting false stands;
  number = λ s stands. refl;
  behind = λ s waiting stands. at_end s waiting true stands;
}

-- the same of a word that is written out
as_is : (w : Walk) (place : Place) (s : Spot) (words : List Text) (word is : Text) → word ≡ is
    → outcome w (is ∷ words) ≡ reads_at place s (is ∷ words)
    → outcome w (word ∷ words) ≡ reads_at place s (word ∷ words)
as_is w place s words word is e agree =
    ap (λ x. outcome w (x ∷ words)) e ∙ agree ∙ sym (ap (λ x. reads_at place s (x ∷ words)) e)

name_reads : (s : Spot) (word : Text) (words : List Text) → IsNameWord word
    → reads_at Anywhere (with_name s word) words ≡ reads_at Anywhere s (word ∷ words)
name_reads s word words is = sym (λ i. let other = is.other in
    let step = stepped (other.end i) (other.option i) (other.says i) (other.flag i) (is.is i) s.names s.number s.strict word in
    command_from (goes step words))

stray_reads : (s : Spot) (word : Text) (words : List Text) → IsStray rules word → None ≡ reads_at Anywhere s (word ∷ words)
stray_reads s word words is = sym ((λ i. let other = is.other in
    let step = stepped (other.end i) (other.option i) (other.says i) (other.flag i) (is.is i) s.names s.number s.strict word in
    command_from (goes step words))
    ∙ ap command_from (refused words))

no_number_reads : (names : List Text) (number : Option Text) (strict : Bool) (word : Text) (words : List Text)
    → number_up_to greatest_merge_at word ≡ None
    → None ≡ reads AtNumber names number strict (word ∷ words)
no_number_reads names None strict word words bad = sym (stays_bad word bad words Anywhere names strict)
no_number_reads names (Some first) strict word words bad = sym (ap command_from (refused words))

module _ (words : List Text) (agrees : Agrees words) (texts : AreTexts words) where
  says_agrees : (s : Spot) (waiting : Waiting) (v : Text) (number : Option Text) → s.number ≡ number → IsIdle waiting → Stands s
      → outcome (at s waiting false) ((merge_at_is ++ v) ∷ words) ≡ reads Anywhere s.names number s.strict ((merge_at_is ++ v) ∷ words)
  says_agrees s waiting v None none free stands =
      let then = stands_by_number s v none stands in
      steps.says_passes s waiting free words v stands.settles then.settles
      ∙ agrees.anywhere (rested (with_number s v)) idle tt (stands_rested (with_number s v) then)
  says_agrees s waiting v (Some first) some free stands =
      steps.says_fails s waiting free words v ArgumentConflict []
      (λ i. or_else (stands.settles i) (second_number s first v some stands i)) ∙ sym (ap command_from (refused words))

  flag_agrees : (s : Spot) (waiting : Waiting) (strict : Bool) → s.strict ≡ strict → IsIdle waiting → Stands s
      → outcome (at s waiting false) (codes "--strict" ∷ words) ≡ reads Anywhere s.names s.number strict (codes "--strict" ∷ words)
  flag_agrees s waiting false unset free stands =
      let then = stands_by_flag s unset stands in
      steps.flag_passes s waiting free words stands.settles then.0 ∙ agrees.anywhere (with_flag s) idle tt then.1
  flag_agrees s waiting true set free stands =
      steps.flag_fails s waiting free words ArgumentConflict [] (λ i. or_else (stands.settles i) (second_flag s set stands i))
      ∙ sym (ap command_from (refused words))

  anywhere_agrees : (s : Spot) (waiting : Waiting) (word : Text) → IsIdle waiting → Stands s → Meaning rules word
      → outcome (at s waiting false) (word ∷ words) ≡ reads_at Anywhere s (word ∷ words)
  anywhere_agrees s waiting word free stands (ends is) =
      as_is (at s waiting false) Anywhere s words word (codes "--") is
      (steps.end_passes s waiting free words ∙ agrees.behind s waiting stands)
  anywhere_agrees s waiting word free stands (asks is) =
      as_is (at s waiting false) Anywhere s words word (codes "--merge-at") is
      (steps.asks_passes s waiting free words stands.settles ∙ agrees.number s stands)
  anywhere_agrees s waiting word free stands (says v is) =
      as_is (at s waiting false) Anywhere s words word (merge_at_is ++ v) is (says_agrees s waiting v s.number refl free stands)
  anywhere_agrees s waiting word free stands (flags is) =
      as_is (at s waiting false) Anywhere s words word (codes "--strict") is (flag_agrees s waiting s.strict refl free stands)
  anywhere_agrees s waiting word free stands (stray is) =
      steps.stray_fails s waiting free words word is ∙ stray_reads s word words is
  anywhere_agrees s waiting word free stands (naming is) =
      steps.name_passes s waiting free words word is stands.settles
      ∙ agrees.anywhere (with_name s word) (waiting_after s.names) (idle_after s.names) (stands_by_name s word stands)
      ∙ name_reads s word words is

  name_agrees : (s : Spot) (word : Text) (number : Option Text) → s.number ≡ number → Stands s
      → outcome (at (with_number s word) idle false) words ≡ reads AtNumber s.names number s.strict (word ∷ words)
  name_agrees s word None none stands = agrees.anywhere (with_number s word) idle tt (stands_by_number s word none stands)
  name_agrees s word (Some first) some stands =
      doomed (with_number s word) ArgumentConflict [] (second_number s first word some stands) idle words tt texts
      ∙ sym (ap command_from (refused words))

  number_agrees : (s : Spot) (word : Text) → Stands s → Meaning rules word
      → outcome (asking s false) (word ∷ words) ≡ reads_at AtNumber s (word ∷ words)
  number_agrees s word stands (ends is) =
      as_is (asking s false) AtNumber s words word (codes "--") is
      (steps.number_end_fails s words ∙ no_number_reads s.names s.number s.strict (codes "--") words refl)
  number_agrees s word stands (asks is) =
      as_is (asking s false) AtNumber s words word (codes "--merge-at") is
      (steps.number_asks_fails s words ∙ no_number_reads s.names s.number s.strict (codes "--merge-at") words refl)
  number_agrees s word stands (says v is) =
      as_is (asking s false) AtNumber s words word (merge_at_is ++ v) is
      (steps.number_says_fails s words v ∙ no_number_reads s.names s.number s.strict (merge_at_is ++ v) words refl)
  number_agrees s word stands (flags is) =
      as_is (asking s false) AtNumber s words word (codes "--strict") is
      (steps.number_flag_fails s words ∙ no_number_reads s.names s.number s.strict (codes "--strict") words refl)
  number_agrees s word stands (stray is) =
      steps.number_stray_fails s words word is ∙ no_number_reads s.names s.number s.strict word words (rw is.low refl)
  number_agrees s word stands (naming is) = steps.number_passes s words word is ∙ name_agrees s word s.number refl stands

  behind_agrees : (s : Spot) (waiting : Waiting) (word : Text) → Stands s
      → outcome (at s waiting true) (word ∷ words) ≡ reads_at BehindOptions s (word ∷ words)
  behind_agrees s waiting word stands =
      steps.trailing s waiting word words stands.settles
      ∙ agrees.behind (with_name s word) (waiting_after s.names) (stands_by_name s word stands)

agree : (words : List Text) → AreTexts words → Agrees words
agree [] texts = agree_at_end
agree (word ∷ words) texts =
    let further = agree words texts.1 in
    let means = meaning_of rules options word texts.0 in
    record {
      anywhere = λ s waiting free stands. anywhere_agrees words further texts.1 s waiting word free stands means;
      number = λ s stands. number_agrees words further texts.1 s word stands means;
      behind = λ s waiting stands. behind_agrees words further texts.1 s waiting word stands;
    }

abbrev at_start : Spot
at_start = record { names = []; number = None; strict = false; rows = []; pending = None }

pub run_words : (words : List Text) → AreTexts words
    → option_and_then run_parsed (parsed run_app words) ≡ command_from (goes (Some start) words)
run_words words texts =
    let has : Has [] None false [] = record { directory = refl; scripts = refl; numbers = refl; flag = refl } in
    let stands : Stands at_start = record { settles = refl; has = has } in
    ap (λ k. option_and_then run_parsed (without_fault k (matches_of run_app words))) (leaf_fault (built run_app) nothing_held words refl)
    ∙ (agree words texts).anywhere at_start idle tt stands
