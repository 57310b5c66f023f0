-- What the entries of a log are, by the laws.
-- This project's own choice.
use Rattle.std.specs.Prelude.{◌≡◌, List, [], ◌∷◌, ◌++◌, length, Some}
use Rattle.fb_values.specs.declared.facts.Entry.{Entry}
use Rattle.fb_model.specs.FirstEntry.{first_entry}
use Rattle.fb_model.specs.Lawful.{IsLawful, least_law}
use Rattle.fb_schema.specs.Described.{SchemaStands}
use Rattle.log_model.specs.Log.{first_unlawful}
use Rattle.fb_recover.specs.declared.judging.Judged.{Judged}
use Rattle.fb_recover.specs.declared.judging.Judged.TheVariants.{Lawful, Unlawful}

-- after the first entry they make a lawful history,
-- or this is the first of them that may not follow
abbrev pub IsJudged : List Entry → Judged → Type 0
IsJudged entries (Lawful held schema) =
    (held ≡ first_entry ∷ entries) × IsLawful held × SchemaStands schema held
IsJudged entries (Unlawful t law) = first_unlawful (first_entry ∷ []) entries ≡ Some (t, law)

-- the history with the entry after it, or the least law that the entry breaks
abbrev pub IsFollowed : List Entry → Entry → Judged → Type 0
IsFollowed h entry (Lawful held schema) =
    (held ≡ h ++ entry ∷ []) × IsLawful held × SchemaStands schema held
IsFollowed h entry (Unlawful t law) = (t ≡ length h) × (least_law h entry ≡ Some law)
