-- One word further in `clap`'s walk over the words behind `run`.
use Rattle.std.proofs.Common.{◌≡◌, ◌∙◌, Bool, true, false, refl, ap, List, [], ◌∷◌, ◌++◌, Option, None, Some, codes}
use Rattle.clap.specs.Walk.{Held, Text, Waiting, Walk, arg_by_index, idle, option, positional, pushed, to_positional, walked}
use Rattle.clap.specs.Kinds.{Kinds, or_else}
use Rattle.clap.specs.Faults.{turn_fault, walk_fault}
use Rattle.clap.specs.declared.error.kind.ErrorKind.{ErrorKind}
use Rattle.clap.specs.declared.error.kind.ErrorKind.TheVariants.{InvalidValue}
use Rattle.command_line.specs.Words.{Command, merge_at_is}
use Rattle.command_line.specs.ByClap.{run_parsed}
use Rattle.command_line.proofs.Dashes.{AreTexts, IsNameWord, IsStray, Meaning, asks, ends, flags, held, meaning_of, naming, says, stray}
use Rattle.command_line.proofs.RunSpots.{IsIdle, Spot, asking, at, by_idle, fault_at, flag_fault, name_fault, not_both, options, position_of}
use Rattle.command_line.proofs.RunSpots.{rested, rows_at, rules, shape, waiting_after, waits_for, with_flag, with_name, with_number}
use Rattle.command_line.proofs.Walks.{first_fails, walk_at}
use Rattle.command_line.proofs.Walks as walks

-- what comes of the words from there on
abbrev pub outcome : Walk → List Text → Option Command
outcome = walks.outcome shape run_parsed

abbrev turn : Walk → Text → Kinds
turn = turn_fault shape []

passes : (w after : Walk) (word : Text) (words : List Text) → turn w word ≡ [] → walked rules [] w word ≡ after
    → outcome w (word ∷ words) ≡ outcome after words
passes = walks.passes shape run_parsed

fails : (w : Walk) (word : Text) (words : List Text) (k : ErrorKind) (ks : Kinds) → turn w word ≡ k ∷ ks → outcome w (word ∷ words) ≡ None
fails = walks.fails shape run_parsed

-- ---- a word that goes to a positional

abbrev walk_to : Text → Waiting → Bool → Text → Held → Walk
walk_to id waiting is_trailing word h =
    record { held = pushed id word h; waiting = waiting; position = 2; is_trailing = is_trailing; stopped = None }

behind_name : (s : Spot) (word : Text) (waiting : Waiting) (is_trailing : Bool)
    → to_positional rules (arg_by_index rules (position_of s.names)) word (at s waiting is_trailing) (held s.rows s.pending)
    ≡ at (with_name s word) (waiting_after s.names) is_trailing
behind_name s word waiting is_trailing = go s.names is_trailing
  where
    go : (names : List Text) (b : Bool)
        → to_positional rules (arg_by_index rules (position_of names)) word (at (record s { names = names }) waiting b)
        (held s.rows s.pending)
        ≡ at (with_name (record s { names = names }) word) (waiting_after names) b
    go [] true = ap (walk_to (codes "DIR") idle true word) (not_both (waits_for (codes "DIR") s.pending) _ _)
    go [] false = ap (walk_to (codes "DIR") idle false word) (not_both (waits_for (codes "DIR") s.pending) _ _)
    go (directory ∷ scripts) true = ap (walk_to (codes "SCRIPT") positional true word) (not_both (waits_for (codes "SCRIPT") s.pending) _ _)
    go (directory ∷ scripts) false =
        ap (walk_to (codes "SCRIPT") positional false word) (not_both (waits_for (codes "SCRIPT") s.pending) _ _)

-- `--` has ended the options
pub trailing : (s : Spot) (waiting : Waiting) (word : Text) (words : List Text) → fault_at s ≡ []
    → outcome (at s waiting true) (word ∷ words) ≡ outcome (at (with_name s word) (waiting_after s.names) true) words
unfolding walked
trailing s waiting word words settles = passes _ _ _ words (name_fault s ∙ settles) (behind_name s word waiting true)

-- ---- where an option may stand

name_turn : (s : Spot) (waiting : Waiting) (word : Text) → IsIdle waiting → IsNameWord word → turn (at s waiting false) word ≡ fault_at s
name_turn s waiting word free is =
    by_idle (λ w. turn (at s w false) word ≡ fault_at s) (simp (is.other.end, is.long, is.short) (name_fault s))
    (simp (is.other.end, is.long, is.short) (name_fault s)) waiting free

name_walk : (s : Spot) (waiting : Waiting) (word : Text) → IsIdle waiting → IsNameWord word
    → walked rules [] (at s waiting false) word ≡ at (with_name s word) (waiting_after s.names) false
unfolding walked
name_walk s waiting word free is =
    by_idle (λ w. walked rules [] (at s w false) word ≡ at (with_name s word) (waiting_after s.names) false)
    (simp (is.other.end, is.long, is.short) (behind_name s word idle false))
    (simp (is.other.end, is.long, is.short) (behind_name s word positional false)) waiting free

stray_turn : (s : Spot) (waiting : Waiting) (word : Text) → IsIdle waiting → (is : IsStray rules word)
    → turn (at s waiting false) word ≡ is.kind ∷ []
stray_turn s waiting word free is =
    by_idle (λ w. turn (at s w false) word ≡ is.kind ∷ []) (simp is.other.end (first_fails _ _ _ _ (is.fault s.rows s.pending)))
    (simp is.other.end (first_fails _ _ _ _ (is.fault s.rows s.pending))) waiting free

module _ (s : Spot) (waiting : Waiting) (free : IsIdle waiting) (words : List Text) where
  -- a name
  pub name_passes : (word : Text) → IsNameWord word → fault_at s ≡ []
      → outcome (at s waiting false) (word ∷ words) ≡ outcome (at (with_name s word) (waiting_after s.names) false) words
  name_passes word is settles = passes _ _ word words (name_turn s waiting word free is ∙ settles) (name_walk s waiting word free is)

  pub name_fails : (word : Text) (k : ErrorKind) (ks : Kinds) → IsNameWord word → fault_at s ≡ k ∷ ks
      → outcome (at s waiting false) (word ∷ words) ≡ None
  name_fails word k ks is fault = fails _ word words k ks (name_turn s waiting word free is ∙ fault)

  pub stray_fails : (word : Text) → IsStray rules word → outcome (at s waiting false) (word ∷ words) ≡ None
  stray_fails word is = fails _ word words is.kind [] (stray_turn s waiting word free is)

  -- `--`
  pub end_passes : outcome (at s waiting false) (codes "--" ∷ words) ≡ outcome (at s waiting true) words
  unfolding walked
  end_passes =
      by_idle (λ w. outcome (at s w false) (codes "--" ∷ words) ≡ outcome (at s w true) words) (passes _ _ _ words refl refl)
      (passes _ _ _ words refl refl)
      waiting free

  -- `--merge-at`
  asks_turn : turn (at s waiting false) (codes "--merge-at") ≡ or_else (fault_at s) []
  asks_turn = by_idle (λ w. turn (at s w false) (codes "--merge-at") ≡ or_else (fault_at s) []) refl refl waiting free

  asks_walk : walked rules [] (at s waiting false) (codes "--merge-at") ≡ asking s false
  unfolding walked
  asks_walk = by_idle (λ w. walked rules [] (at s w false) (codes "--merge-at") ≡ asking s false) refl refl waiting free

  pub asks_passes : fault_at s ≡ [] → outcome (at s waiting false) (codes "--merge-at" ∷ words) ≡ outcome (asking s false) words
  asks_passes settles = passes _ _ _ words (asks_turn ∙ ap (λ k. or_else k []) settles) asks_walk

  pub asks_fails : (k : ErrorKind) (ks : Kinds) → fault_at s ≡ k ∷ ks → outcome (at s waiting false) (codes "--merge-at" ∷ words) ≡ None
  asks_fails k ks fault = fails _ _ words k ks (asks_turn ∙ ap (λ x. or_else x []) fault)

  -- `--merge-at=N`
  says_turn : (v : Text) → turn (at s waiting false) (merge_at_is ++ v) ≡ or_else (or_else (fault_at s) (fault_at (with_number s v))) []
  says_turn v =
      by_idle (λ w. turn (at s w false) (merge_at_is ++ v) ≡ or_else (or_else (fault_at s) (fault_at (with_number s v))) []) refl refl
      waiting free

  says_walk : (v : Text) → walked rules [] (at s waiting false) (merge_at_is ++ v) ≡ at (rested (with_number s v)) idle false
  unfolding walked
  says_walk v =
      by_idle (λ w. walked rules [] (at s w false) (merge_at_is ++ v) ≡ at (rested (with_number s v)) idle false) refl refl waiting free

  pub says_passes : (v : Text) → fault_at s ≡ [] → fault_at (with_number s v) ≡ []
      → outcome (at s waiting false) ((merge_at_is ++ v) ∷ words) ≡ outcome (at (rested (with_number s v)) idle false) words
  says_passes v settles then = passes _ _ _ words (says_turn v ∙ (λ i. or_else (or_else (settles i) (then i)) [])) (says_walk v)

  pub says_fails : (v : Text) (k : ErrorKind) (ks : Kinds) → or_else (fault_at s) (fault_at (with_number s v)) ≡ k ∷ ks
      → outcome (at s waiting false) ((merge_at_is ++ v) ∷ words) ≡ None
  says_fails v k ks fault = fails _ _ words k ks (says_turn v ∙ ap (λ x. or_else x []) fault)

  -- `--strict`
  flag_turn : turn (at s waiting false) (codes "--strict") ≡ or_else (or_else (fault_at s) (flag_fault s)) []
  flag_turn = by_idle (λ w. turn (at s w false) (codes "--strict") ≡ or_else (or_else (fault_at s) (flag_fault s)) []) refl refl waiting free

  flag_walk : walked rules [] (at s waiting false) (codes "--strict") ≡ at (with_flag s) idle false
  unfolding walked
  flag_walk = by_idle (λ w. walked rules [] (at s w false) (codes "--strict") ≡ at (with_flag s) idle false) refl refl waiting free

  pub flag_passes : fault_at s ≡ [] → flag_fault s ≡ []
      → outcome (at s waiting false) (codes "--strict" ∷ words) ≡ outcome (at (with_flag s) idle false) words
  flag_passes settles then = passes _ _ _ words (flag_turn ∙ (λ i. or_else (or_else (settles i) (then i)) [])) flag_walk

  pub flag_fails : (k : ErrorKind) (ks : Kinds) → or_else (fault_at s) (flag_fault s) ≡ k ∷ ks
      → outcome (at s waiting false) (codes "--strict" ∷ words) ≡ None
  flag_fails k ks fault = fails _ _ words k ks (flag_turn ∙ ap (λ x. or_else x []) fault)

-- ---- where the number of `--merge-at` stands next

module _ (s : Spot) (words : List Text) where
  pub number_passes : (word : Text) → IsNameWord word
      → outcome (asking s false) (word ∷ words) ≡ outcome (at (with_number s word) idle false) words
  unfolding walked
  number_passes word is = passes _ _ word words (simp (is.other.end, is.long, is.short) refl) (simp (is.other.end, is.long, is.short) refl)

  pub number_stray_fails : (word : Text) → IsStray rules word → outcome (asking s false) (word ∷ words) ≡ None
  number_stray_fails word is =
      fails _ word words is.kind [] (simp is.other.end (first_fails _ _ _ _ (is.fault (rows_at s) (Some (codes "merge-at", [])))))

  pub number_asks_fails : outcome (asking s false) (codes "--merge-at" ∷ words) ≡ None
  number_asks_fails = fails _ _ words InvalidValue [] refl

  pub number_flag_fails : outcome (asking s false) (codes "--strict" ∷ words) ≡ None
  number_flag_fails = fails _ _ words InvalidValue [] refl

  pub number_says_fails : (v : Text) → outcome (asking s false) ((merge_at_is ++ v) ∷ words) ≡ None
  number_says_fails v = fails _ _ words InvalidValue [] refl

-- ---- what is pending can never be settled

module _ (s : Spot) (k : ErrorKind) (ks : Kinds) (fault : fault_at s ≡ k ∷ ks) where
  doomed_at_end : (waiting : Waiting) (is_trailing : Bool) → outcome (at s waiting is_trailing) [] ≡ None
  unfolding walk_fault
  doomed_at_end waiting is_trailing = ap (λ x. walks.ends_by shape run_parsed [] x (held s.rows s.pending)) fault

  pub doomed_behind : (waiting : Waiting) (words : List Text) → outcome (at s waiting true) words ≡ None
  doomed_behind waiting [] = doomed_at_end waiting true
  doomed_behind waiting (word ∷ words) = fails _ word words k ks (name_fault s ∙ fault)

  doomed_before : (waiting : Waiting) (word : Text) (words : List Text) → IsIdle waiting → Meaning rules word
      → outcome (at s waiting false) (word ∷ words) ≡ None
  doomed_before waiting word words free (ends is) =
      ap (λ x. outcome (at s waiting false) (x ∷ words)) is ∙ end_passes s waiting free words ∙ doomed_behind waiting words
  doomed_before waiting word words free (asks is) =
      ap (λ x. outcome (at s waiting false) (x ∷ words)) is ∙ asks_fails s waiting free words k ks fault
  doomed_before waiting word words free (says v is) =
      ap (λ x. outcome (at s waiting false) (x ∷ words)) is
      ∙ says_fails s waiting free words v k ks (ap (λ x. or_else x (fault_at (with_number s v))) fault)
  doomed_before waiting word words free (flags is) =
      ap (λ x. outcome (at s waiting false) (x ∷ words)) is
      ∙ flag_fails s waiting free words k ks (ap (λ x. or_else x (flag_fault s)) fault)
  doomed_before waiting word words free (stray is) = stray_fails s waiting free words word is
  doomed_before waiting word words free (naming is) = name_fails s waiting free words word k ks is fault

  pub doomed : (waiting : Waiting) (words : List Text) → IsIdle waiting → AreTexts words → outcome (at s waiting false) words ≡ None
  doomed waiting [] free texts = doomed_at_end waiting false
  doomed waiting (word ∷ words) free texts = doomed_before waiting word words free (meaning_of rules options word texts.0)

-- `--` in place of the number
pub number_end_fails : (s : Spot) (words : List Text) → outcome (asking s false) (codes "--" ∷ words) ≡ None
unfolding walked
number_end_fails s words =
    let unsaid = record s { rows = rows_at s; pending = Some (codes "merge-at", []) } in
    passes _ (asking s true) _ words refl refl ∙ doomed_behind unsaid InvalidValue [] refl (option (codes "merge-at")) words
