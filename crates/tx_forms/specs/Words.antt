-- Verbs and keys as the definitions see them. This project's own choice.
use Rattle.std.specs.Prelude.{Bool, true, false}
use Rattle.tx_model.specs.Asks.{Key, own, forward, backward}
use Rattle.tx_model.specs.Shapes as shapes
use Rattle.tx_forms.specs.declared.verbs.Verb.{Verb}
use Rattle.tx_forms.specs.declared.verbs.Verb.TheVariants.{Add, Retract, Cas, RetractEntity}

abbrev pub model_verb : Verb → shapes.Verb
model_verb Add = shapes.add
model_verb Retract = shapes.retract
model_verb Cas = shapes.cas
model_verb RetractEntity = shapes.retract_entity

-- the key is `:db/id`
abbrev pub is_own : Key → Bool
is_own own = true
is_own (forward name) = false
is_own (backward name) = false
