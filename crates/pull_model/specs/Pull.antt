-- A pull: what it gives of an entity in a view by a pattern, and when it is refused.
-- Datomic, Pull. The refusals are this project's own choice.
use Rattle.std.specs.Prelude.{◌≡◌, ℕ, Bool, true, false, ◌||◌, List, [], nat_lt, if◌then◌else◌}
use Rattle.std.specs.Prelude.{unwrap_or, Result, Ok, Err}
use Rattle.edn_model.specs.Form.{Form, nil}
use Rattle.fb_values.specs.declared.facts.Datom.{Datom}
use Rattle.fb_values.specs.declared.facts.Entry.{Entry}
use Rattle.read_refusals.specs.declared.reasons.Reason.{Reason}
use Rattle.read_refusals.specs.declared.reasons.Reason.TheVariants.{History, TooLarge}
use Rattle.view_model.specs.Window.{Window}
use Rattle.pull_model.specs.Patterns.{Pattern}
use Rattle.pull_model.specs.Found.{Db, db_of, IsDb}
use Rattle.pull_model.specs.Made.{Made}
use Rattle.pull_model.specs.Tree.{tree}

-- the most maps of a pull, and the most that may be around one
abbrev pub most_maps : ℕ
most_maps = 65536

abbrev pub most_around : ℕ
most_around = 256

-- a map inside 256 others has 257 one inside another
abbrev pub is_too_large : Made → Bool
is_too_large made = nat_lt most_maps made.maps || nat_lt most_around made.depth

-- what a map inside 256 others has is not looked at, since the pull is too large by that map
abbrev pub made_by : Db → Pattern → ℕ → Made
made_by db pattern e = tree most_around db pattern [] e

-- nil where there is nothing to give
abbrev pub answered : Made → Result Form Reason
answered made = if is_too_large made then Err TooLarge else Ok (unwrap_or made.form nil)

-- a view that shows its history has no trees
abbrev pub pulled : Bool → Db → Pattern → ℕ → Result Form Reason
pulled true db pattern e = Err History
pulled false db pattern e = answered (made_by db pattern e)

-- where filters are tests
abbrev pub pull : List Entry → Window → List (Datom → Bool) → Pattern → ℕ → Result Form Reason
pull h w filters pattern e = pulled w.history (db_of h w filters) pattern e

-- where `Selects` says which datoms all filters select: the answer over any list of the view's
-- facts, of which there is one at most
abbrev pub IsPulled : List Entry → Window → (Datom → Type 0) → Pattern → ℕ → Result Form Reason
    → Type 0
IsPulled h w Selects pattern e answer =
    (db : Db) → IsDb h w Selects db → answer ≡ pulled w.history db pattern e
