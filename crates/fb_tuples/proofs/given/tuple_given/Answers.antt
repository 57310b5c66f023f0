-- Lists of different lengths give no members.
use Rattle.std.proofs.Common.{◌∙◌, sym}
use Rattle.std.proofs.lemmas.List.{length-map}
use Rattle.edn_form.specs.View.{form_of, forms_of}
use Rattle.tuple_model.specs.Given.{kinds_of}
use Rattle.fb_tuples.specs.Reading.{kind_of}
use Rattle.fb_tuples.proofs.Reading.{other_length}
use Rattle.fb_tuples.proofs.given.tuple_given.Goals as goal

pub returns-then-members-attrs : goal.returns-then-members-attrs
returns-then-members-attrs c =
    other_length (kinds_of c.args.schema.now c.args.attrs.now) (forms_of c.args.members.now) (λ same. c.if-members-attrs.true
    (sym (length-map c.args.members.now form_of) ∙ same ∙ length-map c.args.attrs.now (kind_of c.args.schema.now)))
