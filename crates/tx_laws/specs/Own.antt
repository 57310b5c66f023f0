-- What the laws ask of an entry where its history's facts are not at hand:
-- the latest numbers of the history and its schema are.
-- Datomic, Transaction Data and Schema, as this project reads them.
use Rattle.std.specs.Prelude.{◌≡◌, Bool, ◌&&◌, List}
use Rattle.fb_values.specs.declared.facts.Entry.{Entry}
use Rattle.fb_model.specs.History.{basis, last_instant, users_issued}
use Rattle.fb_model.specs.Laws.{has_next_t, has_later_instant, has_known_numbers}
use Rattle.fb_model.specs.Laws.{has_installed_attributes, has_typed_values, has_datoms_in_order}
use Rattle.fb_model.specs.Laws.{has_allowed_changes}
use Rattle.tx_laws.specs.Changes.{keeps_names_and_instants}
use Rattle.tx_laws.specs.declared.latest.Latest.{Latest}

-- the numbers are the history's
pub record IsLatestOf (latest : Latest) (h : List Entry) : Type 0 where
  pub basis : latest.basis ≡ basis h
  pub instant : latest.instant ≡ last_instant h
  pub issued : latest.issued ≡ users_issued h

-- the first two laws, the fourth and the fifth, and of the ninth what asks for no facts
abbrev pub is_fit : List Entry → Entry → Bool
is_fit h entry =
    has_next_t h entry && has_later_instant h entry && has_datoms_in_order h entry
    && has_typed_values h entry && has_allowed_changes h entry
    && keeps_names_and_instants entry entry.datoms

-- the same and the third
abbrev pub keeps_own_laws : List Entry → Entry → Bool
keeps_own_laws h entry =
    is_fit h entry && (has_known_numbers h entry && has_installed_attributes h entry)
