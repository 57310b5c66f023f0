-- What a form that names an entity names.
use Rattle.std.proofs.Common.{◌≡◌, refl}
use Rattle.std.specs.Prelude.{Some}
use Rattle.tx_model.specs.Asks.{name_in}
use Rattle.tx_model.specs.Walk.{entity_in}
use Rattle.tx_forms.specs.declared.forms.EntityForm.{EntityForm}
use Rattle.tx_forms.specs.declared.forms.EntityForm.TheVariants.{Number, Ident, Tempid, Lookup}
use Rattle.tx_forms.specs.Parts.{entity_form}

pub named_is : (entity : EntityForm) → name_in (entity_form entity) ≡ Some (entity_in (entity_form entity))
named_is (Number z) = refl
named_is (Ident k) = refl
named_is (Tempid s) = refl
named_is (Lookup k v) = refl
