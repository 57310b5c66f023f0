-- The steps of the examples.
use Rattle.std.proofs.Common.{◌≡◌, [], ◌∷◌, pos, true, refl}
use Rattle.std.specs.Prelude.{codes}
use Rattle.fb_values.specs.declared.facts.Entry.{Entry}
use Rattle.fb_values.specs.declared.facts.Value.TheVariants.{Str}
use Rattle.fb_numbers.specs.Numbers.{user_entity, doc}
use Rattle.fb_model.specs.History.{upto}
use Rattle.view_model.specs.Samples.{datom, entry_at, texts}
use Rattle.tx_model.specs.Step.{accepted, step, no_guard}
use Rattle.talk_model.specs.Samples.{text}

abbrev pub first_text : Entry
first_text = entry_at 1 1000 (datom (user_entity 1) doc (Str (codes "hi")) 1 true ∷ [])

abbrev pub second_text : Entry
second_text = entry_at 2 2000 (datom (user_entity 2) doc (Str (codes "hi")) 2 true ∷ [])

pub first_step : step (upto texts 0) text (pos 1000) no_guard ≡ accepted first_text ((codes "x", 17592186044417) ∷ [])
first_step = refl

pub second_step : step (upto texts 1) text (pos 2000) no_guard ≡ accepted second_text ((codes "x", 17592186044418) ∷ [])
second_step = refl
