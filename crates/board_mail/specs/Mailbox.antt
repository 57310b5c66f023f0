-- How a mailing and a look at the mail change what a seat knows.
-- This project's own choice.
use Rattle.std.specs.Prelude.{ℕ, ◌+◌, List, Some}
use Rattle.board_rule.specs.declared.view.Grab.TheVariants.{Free}
use Rattle.board_rule.specs.declared.view.View.{View}
use Rattle.board_rule.specs.Views.{longer, tried_too}

module _ {E : Type 0} where
  -- the session's mail word was found free,
  -- and let go with a snapshot of the whole history in its slot
  abbrev pub mailed : View E → ℕ → View E
  mailed v session = record v { grab = Free; tried = tried_too session v.tried; met = 0 }

  -- the reader's own mail word was found free, and let go;
  -- a snapshot of this history lies in the slot
  abbrev pub peeked : View E → List E → View E
  peeked v l = record v { grab = Free; grabs = v.grabs + 1; met = 0; last_found = Some l }

  -- the same, and it has a copy of that snapshot
  abbrev pub took : View E → List E → View E
  took v l =
      record v
      { grab = Free; grabs = v.grabs + 1; met = 0; last_found = Some l; seen = longer v.seen l }
