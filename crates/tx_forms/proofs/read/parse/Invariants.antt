use Rattle.std.proofs.Common.{◌≡◌, ◌++◌, vec_len, drop, map}
use Rattle.std.specs.Prelude.{not}
use Rattle.edn_form.specs.View.{forms_of}
use Rattle.tx_model.specs.Shapes.{has_shape}
use Rattle.tx_model.specs.Step.{first_yes, first_without_shape}
use Rattle.tx_forms.specs.Parts.{parts_in, parts_of}
use Rattle.tx_forms.proofs.read.parse.Given as goal

abbrev pub invariant-loop-f : goal.invariant-loop-f
invariant-loop-f l =
    record {
      place : vec_len l.parsed ≡ l.f-index;
      parsed : map parts_of l.parsed.items ++ map parts_in (forms_of (drop l.f-index l.forms)) ≡ map parts_in (forms_of l.forms);
      shaped : first_yes l.f-index (map (λ f. not (has_shape f)) (forms_of (drop l.f-index l.forms)))
          ≡ first_without_shape (forms_of l.forms);
    }
