-- A form that may be none, as a list.
-- This project's own choice.
use Rattle.std.specs.Prelude.{List, [], ◌∷◌, Option, Some, None}
use Rattle.edn_model.specs.Form.{Form}

abbrev pub form_in : Option Form → List Form
form_in None = []
form_in (Some form) = form ∷ []
