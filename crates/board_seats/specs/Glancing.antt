-- What a seat learns by a glance at the mail, in lists of entries. `f` gives an entry's code.
-- This project's own choice.
use Rattle.std.specs.Prelude.{◌≡◌, ◌+◌, List, Option, Some, None, Result, Ok, Err}
use base.Stored.{Gv}
use Rattle.fb_memory.specs.declared.Memory.{Memory}
use Rattle.board_rule.specs.declared.view.Grab.TheVariants.{Free}
use Rattle.board_rule.specs.declared.view.Code.{Code}
use Rattle.board_rule.specs.declared.view.View.{View}
use Rattle.board_rule.specs.Views.{StartsWith, longer, codes, passed}
use Rattle.board_mail.specs.Mailbox.{took}
use Rattle.board_seats.specs.Sight.{Sees}

-- The view after a glance. A snapshot of `entries s` lay in the mail;
-- or the holder of the turn had the word; or a copy of what lay there took too much memory
abbrev pub Glances : {A S : Type 0} → (A → Gv) → (S → List A) → View Code
    → Result (Option S) Memory → View Code → Type 0
Glances f entries v (Ok (Some s)) w = w ≡ took v (codes f (entries s))
Glances f entries v (Ok None) w = w ≡ passed v
Glances f entries v (Err e) w =
    w ≡ record v { grab = Free; grabs = v.grabs + 1; met = 0; last_found = w.last_found }

-- What a seat that has seen the list `last` has seen after a glance:
-- with a snapshot the longer of the two lists, which begins with both
abbrev pub Finds : {A S : Type 0} → (A → Gv) → (S → List A) → List A
    → Result (Option S) Memory → View Code → Type 0
Finds f entries last (Ok (Some s)) w =
    Sees f w (longer last (entries s))
    × StartsWith (longer last (entries s)) last
    × StartsWith (longer last (entries s)) (entries s)
Finds f entries last (Ok None) w = Sees f w last
Finds f entries last (Err e) w = Sees f w last
