use Rattle.std.proofs.Common.{◌≡◌, false, sym, ◌∙◌, refl, eqb, arith, rules}
use Rattle.fb_model.specs.Facts.{facts}
use Rattle.fb_schema.specs.Parts.{model_attribute}
use Rattle.fb_names.proofs.Naming.{named_is_held, was_unique, was_not_other}
use Rattle.fb_names.proofs.names.unique_value.Goals as goal
use Rattle.fb_names.proofs.names.unique_value.Goals.{in-Some-2, in-None}

pub returns-clause-held : goal.returns-clause-held
returns-clause-held c =
    λ h stands.
    let unique : eqb c.in-Some.attribute.now.unique 0 ≡ false =
    first_of (grind (arith, c.is_unique.ensures, c.if-not-is_unique.false), search (rules, was_unique), search (rules, was_not_other)) in
    elim c.match-branch-2.branch [
      | in-Some-2 w ↦
          rw w.result-is (named_is_held (facts h) c.args.keyword.now (model_attribute c.in-Some.attribute.now)
          (sym (c.schemas_tell_of_attributes.ensures.name c.args.schema.now h c.args.keyword.now stands) ∙ sym c.in-Some.ensures) unique)
      | in-None w ↦ rw w.result-is refl
    ]
