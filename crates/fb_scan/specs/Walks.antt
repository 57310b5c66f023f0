-- What a walk over an index shows of it, datom by datom.
-- Restates Database Filters of Datomic's documentation.
-- What a walk reads, and that of all datoms it looks at the one at hand and at the next one,
-- is this project's own choice: in an index the datoms of a triple are together, as they came.
use Rattle.std.specs.Prelude.{Bool, false, not, ◌&&◌, ◌||◌, List, [], ◌∷◌, nat_lt, if◌then◌else◌}
use Rattle.std.specs.Prelude.{Option}
use Rattle.std.specs.List.{slice_get}
use Rattle.std.specs.Option.{option_map_or}
use Rattle.fb_values.specs.declared.facts.Datom.{Datom}
use Rattle.fb_values.specs.declared.facts.Entry.{Entry}
use Rattle.fb_model.specs.History.{basis}
use Rattle.fb_model.specs.Facts.{is_of, standing}
use Rattle.view_model.specs.Window.{Window, is_within, within}
use Rattle.fb_index.specs.declared.sides.Extent.{Extent}
use Rattle.fb_index.specs.declared.sides.Extent.TheVariants.{Said, Held}

-- what a walk reads: where the window shows no history
-- and ends after the last entry, what holds is enough
abbrev pub extent_of : List Entry → Window → Extent
extent_of h w = if not w.history && nat_lt (basis h) w.to then Held else Said

-- the next datom is of the same triple, and comes before the window's end
abbrev pub is_followed : Window → Datom → Option Datom → Bool
is_followed w d next = option_map_or (λ x. is_of d.e d.a d.v x && nat_lt x.t w.to) next false

-- the window has the datom, and where all datoms are read and no history shown,
-- the datom is an addition that no other one follows
abbrev pub is_shown : Extent → Window → Datom → Option Datom → Bool
is_shown Said w d next =
    is_within w d && (w.history || (d.added && not (is_followed w d next)))
is_shown Held w d next = is_within w d

-- the datoms of a list that are shown, where each is looked at beside the next one
abbrev pub shown : Extent → Window → List Datom → List Datom
shown extent w [] = []
shown extent w (d ∷ ds) =
    if is_shown extent w d (slice_get ds 0) then d ∷ shown extent w ds else shown extent w ds

-- the datoms of a list that a window sees
abbrev pub seen_in : Window → List Datom → List Datom
seen_in w ds = if w.history then within w ds else standing (within w ds)
