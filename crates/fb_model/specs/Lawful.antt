-- Lawful histories: those that a database may have,
-- which entry may follow one, and the least law that an entry breaks.
-- Datomic, Transaction Data and Schema, as this project reads them.
use Rattle.std.specs.Prelude.{◌≡◌, ℕ, ◌+◌, Bool, ◌&&◌, List, [], ◌∷◌, ◌++◌, IsTrue, ⊤, Option, Some}
use Rattle.std.specs.Prelude.{None, if◌then◌else◌}
use Rattle.fb_values.specs.declared.facts.Entry.{Entry}
use Rattle.fb_model.specs.FirstEntry.{first_entry}
use Rattle.fb_model.specs.Laws.{has_next_t, has_later_instant, has_known_numbers}
use Rattle.fb_model.specs.Laws.{has_installed_attributes, has_typed_values, has_datoms_in_order}
use Rattle.fb_model.specs.Laws.{has_changes_alone, has_one_value_each, has_one_holder_each}
use Rattle.fb_model.specs.Laws.{has_whole_attributes, has_allowed_changes, has_no_reserved_names}
use Rattle.fb_model.specs.Laws.{has_own_instant_alone}

-- the entry may follow the history
pub record IsLawfulAfter (h : List Entry) (entry : Entry) : Type 0 where
  pub next_t : IsTrue (has_next_t h entry)
  pub later_instant : IsTrue (has_later_instant h entry)
  pub known_numbers : IsTrue (has_known_numbers h entry)
  pub installed_attributes : IsTrue (has_installed_attributes h entry)
  pub typed_values : IsTrue (has_typed_values h entry)
  pub datoms_in_order : IsTrue (has_datoms_in_order h entry)
  pub changes_alone : IsTrue (has_changes_alone h entry)
  pub one_value_each : IsTrue (has_one_value_each h entry)
  pub one_holder_each : IsTrue (has_one_holder_each h entry)
  pub whole_attributes : IsTrue (has_whole_attributes h entry)
  pub allowed_changes : IsTrue (has_allowed_changes h entry)
  pub no_reserved_names : IsTrue (has_no_reserved_names h entry)
  pub own_instant_alone : IsTrue (has_own_instant_alone h entry)

-- each of the entries may follow the history with those before it
abbrev pub IsLawfulFrom : List Entry → List Entry → Type 0
IsLawfulFrom h [] = ⊤
IsLawfulFrom h (entry ∷ rest) = IsLawfulAfter h entry × IsLawfulFrom (h ++ entry ∷ []) rest

-- the history begins with the first entry, and each later one may follow those before it
abbrev pub IsLawful : List Entry → Type 0
IsLawful [] = ⊥
IsLawful (entry ∷ rest) = (entry ≡ first_entry) × IsLawfulFrom (entry ∷ []) rest

-- whether the entry keeps each of the nine laws, from the first on
abbrev pub laws_kept : List Entry → Entry → List Bool
laws_kept h entry =
    has_next_t h entry
    ∷ has_later_instant h entry
    ∷ (has_known_numbers h entry && has_installed_attributes h entry)
    ∷ has_typed_values h entry
    ∷ has_datoms_in_order h entry
    ∷ has_changes_alone h entry
    ∷ has_one_value_each h entry
    ∷ has_one_holder_each h entry
    ∷ (has_whole_attributes h entry
    && has_allowed_changes h entry
    && has_no_reserved_names h entry
    && has_own_instant_alone h entry)
    ∷ []

-- the number of the first of them that is not kept, where the first one has the number n
abbrev pub first_broken : ℕ → List Bool → Option ℕ
first_broken n [] = None
first_broken n (kept ∷ rest) = if kept then first_broken (n + 1) rest else Some n

-- the least law that is broken, from 1 to 9, or none
abbrev pub least_law : List Entry → Entry → Option ℕ
least_law h entry = first_broken 1 (laws_kept h entry)
