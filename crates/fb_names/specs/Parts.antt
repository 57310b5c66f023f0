-- What a component of an index is.
-- Datomic, Indexes.
use Rattle.read_model.specs.Components as model
use Rattle.fb_names.specs.declared.probes.Component.{Component}
use Rattle.fb_names.specs.declared.probes.Component.TheVariants.{Entity, Attribute, Value, T}

abbrev pub model_component : Component → model.Component
model_component Entity = model.an_entity
model_component Attribute = model.an_attribute
model_component Value = model.a_value
model_component T = model.a_t
