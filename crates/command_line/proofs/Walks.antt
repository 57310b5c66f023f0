-- `clap`'s walk over the words of a command with no subcommand, one word further.
use Rattle.std.proofs.Common.{◌≡◌, ℕ, Bool, false, List, [], ◌∷◌, Option, None, ap}
use Rattle.std.specs.List.{fold}
use Rattle.std.specs.Prelude.{option_and_then}
use Rattle.clap.specs.Walk.{Held, Row, Text, Waiting, Walk, finished, settled, walked}
use Rattle.clap.specs.Simple.{Shape}
use Rattle.clap.specs.Kinds.{Kinds, or_else}
use Rattle.clap.specs.Faults.{check_fault, defaults_fault, settle_fault, turn_fault, walk_fault}
use Rattle.clap.specs.declared.error.kind.ErrorKind.{ErrorKind}
use Rattle.command_line.specs.ByClap.{without_fault}
use Rattle.command_line.proofs.Dashes.{held}

abbrev pub walk_at : List Row → Option (Text × List Text) → Waiting → ℕ → Bool → Walk
walk_at rows pending waiting position is_trailing = record {
  held = held rows pending;
  waiting = waiting;
  position = position;
  is_trailing = is_trailing;
  stopped = None;
}

pub first_fails : (a b : Kinds) (k : ErrorKind) (ks : Kinds) → a ≡ k ∷ ks → or_else a b ≡ k ∷ ks
first_fails a b k ks e = ap (λ x. or_else x b) e

-- what the rows ask for
module _ {A : Type 0} (shape : Shape) (ask : List Row → Option A) where
  -- what is left to do behind the words, by the faults of the walk and of what is pending
  abbrev pub ends_by : Kinds → Kinds → Held → Option A
  ends_by of_walk of_pending end =
      let rows = (settled shape.rules end).rows in
      let given = finished shape.rules end in
      let fault = or_else of_walk (or_else of_pending (or_else (defaults_fault rows shape.rules) (check_fault shape given false))) in
      option_and_then ask (without_fault fault given)

  abbrev pub comes_of : Kinds → Held → Option A
  comes_of of_walk end = ends_by of_walk (settle_fault shape.rules false end) end

  -- what comes of the words from there on
  abbrev pub outcome : Walk → List Text → Option A
  outcome w words = comes_of (walk_fault shape [] w words) (fold (walked shape.rules []) w words).held

  pub passes : (w after : Walk) (word : Text) (words : List Text) → turn_fault shape [] w word ≡ [] → walked shape.rules [] w word ≡ after
      → outcome w (word ∷ words) ≡ outcome after words
  unfolding walk_fault
  passes w after word words e is = λ i.
      comes_of (or_else (e i) (walk_fault shape [] (is i) words)) (fold (walked shape.rules []) (is i) words).held

  pub fails : (w : Walk) (word : Text) (words : List Text) (k : ErrorKind) (ks : Kinds) → turn_fault shape [] w word ≡ k ∷ ks
      → outcome w (word ∷ words) ≡ None
  unfolding walk_fault
  fails w word words k ks e =
      let after = walked shape.rules [] w word in
      λ i. comes_of (or_else (e i) (walk_fault shape [] after words)) (fold (walked shape.rules []) after words).held
