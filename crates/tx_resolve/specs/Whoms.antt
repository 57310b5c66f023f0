-- Which entity a name has, while tempids have none but their places.
-- Datomic, Transaction Data (entity identifiers, temporary ids).
use Rattle.std.specs.Prelude.{ℕ, ◌+◌, bytes_eq, if◌then◌else◌, List, map, slice_index_or, Option}
use Rattle.std.specs.Prelude.{Some, None, option_map}
use Rattle.fb_numbers.specs.Numbers.{transaction_of}
use Rattle.fb_model.specs.History.{basis}
use Rattle.tx_model.specs.Asks as model
use Rattle.tx_model.specs.Asks.{own_tempid}
use Rattle.tx_model.specs.Tempids.{Db, found}
use Rattle.tx_asks.specs.declared.asks.LookupRef.{LookupRef}
use Rattle.tx_asks.specs.declared.asks.Name.{Name}
use Rattle.tx_asks.specs.declared.asks.Name.TheVariants as name
use Rattle.tx_asks.specs.Asks.{lookup_of}
use Rattle.tx_resolve.specs.declared.whom.EntityRef.{EntityRef}
use Rattle.tx_resolve.specs.declared.whom.EntityRef.TheVariants.{Known, New}
use Rattle.tx_resolve.specs.declared.meeting.Met.{Met}
use Rattle.tx_resolve.specs.Tempids.{named, nameless}
use Rattle.tx_resolve.specs.Meeting.{place_of}

-- the entity that a lookup ref finds
abbrev pub found_by : Db → LookupRef → Option ℕ
found_by db ref = found db (lookup_of ref)

abbrev pub all_found : Db → List LookupRef → List (Option ℕ)
all_found db refs = map (found_by db) refs

-- where the lookup refs find these and these tempids are met:
-- none where there is no entity of the name
abbrev pub whom_of : Db → List (Option ℕ) → Met → Name → Option EntityRef
whom_of db looked_up met (name.Number n) = option_map Known (found db (model.number n))
whom_of db looked_up met (name.Ident k) = option_map Known (found db (model.ident k.now))
whom_of db looked_up met (name.Lookup n) =
    option_map Known (slice_index_or looked_up n None)
whom_of db looked_up met (name.Tempid text) =
    if bytes_eq text.now own_tempid then Some (Known (transaction_of (basis db.history + 1)))
    else option_map New (place_of met (named text.now))
whom_of db looked_up met (name.Nameless n) = option_map New (place_of met (nameless n))
