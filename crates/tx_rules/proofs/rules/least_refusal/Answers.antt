use Rattle.std.proofs.Common.{◌∙◌}
use Rattle.tx_rules.specs.Cas.{acts_of}
use Rattle.tx_rules.proofs.Promising.{IfOk-map}
use Rattle.tx_rules.proofs.Refusing.{same_refusal}
use Rattle.tx_rules.proofs.rules.least_refusal.Goals as goal

pub returns : goal.returns
returns g c = λ tx db_is acts tempids triples changes_are.
    let h = g.F.Facts.history c.args.facts.now in
    let schema = c.args.schema.now in
    IfOk-map _ _
    (λ refusal same. same
    ∙ same_refusal h schema (acts_of c.args.forms.now) c.args.triples.now c.args.changes.now tx db_is acts tempids triples changes_are
    (record {
      lawful = c.requires.lawful;
      tells = λ e. c.schemas_tell_of_attributes.ensures.attribute schema h e c.requires.schema;
      facts_hold = λ e a v. c.facts_are_what_holds.ensures h e a v;
      one_value = λ e a v w one first second. c.one_value_and_one_holder.ensures.one_value h e a v w c.requires.lawful one first second;
      one_holder =
          λ e f a v unique first second. c.one_value_and_one_holder.ensures.one_holder h e f a v c.requires.lawful unique first second;
    })
    (record {
      many = λ ask settled. c.acts_compare_what_asks_do.ensures.many tx ask settled;
      another = λ ask settled. c.acts_compare_what_asks_do.ensures.another tx ask settled;
    }))
    c.least_of.result c.least_of.ensures
