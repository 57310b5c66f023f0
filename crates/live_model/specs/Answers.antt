-- How the lines of a session are answered: line by line, and within a line form by form.
-- This project's own choice; docs/LIVE.md, "A line is a script".
use Rattle.std.specs.Prelude.{ℕ, List, ◌++◌, map, flat_map}
use Rattle.talk_model.specs.Talk.{Exchange}
use Rattle.live_model.specs.Readings.{Ending, Says}
use Rattle.live_model.specs.Unreadable.{closing}

-- a line, how its forms were answered, and how it ends
pub record Answer : Type 0 where
  pub line : List ℕ
  pub exchanges : List Exchange
  pub ending : Ending

-- the forms that were answered are those of the line, in order
abbrev pub IsOfItsLine : Answer → Type 0
IsOfItsLine answer = Says answer.line (map (λ x. x.form) answer.exchanges) answer.ending

-- what is written for it
abbrev pub replies : Answer → List ℕ
replies answer = flat_map (λ x. x.line) answer.exchanges ++ closing answer.ending

-- ---- of all lines

-- the talk of a session is that of its lines, one after another
abbrev pub talk_of : List Answer → List Exchange
talk_of answers = flat_map (λ answer. answer.exchanges) answers

abbrev pub written : List Answer → List ℕ
written answers = flat_map replies answers
