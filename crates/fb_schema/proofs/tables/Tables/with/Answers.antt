use Rattle.std.proofs.Common.{◌∷◌, ◌++◌, [], ap, sym, ◌∙◌}
use Rattle.fb_model.specs.Facts.{standing}
use Rattle.fb_schema.proofs.Numbers.{standing-idem}
use Rattle.fb_schema.proofs.Steps.{attributes-step, covers-step}
use Rattle.fb_schema.proofs.tables.Tables.with.Goals as goal

pub invariant_of-result : goal.invariant_of-result
invariant_of-result c =
    let d = c.args.d.now in
    let old = c.self.inside in
    let facts = old.facts in
    let after = c.in_ok-facts.facts in
    let stands = c.in_ok-facts.ensures in
    let own = c.deref.ensures.value ∙ c.in_ok-own.ensures in
    let is = c.in_ok-found.ensures after own in (
      attributes-step old.attributes c.in_ok-attributes.attributes facts after d c.in_ok-found.found c.in_ok-attributes.ensures is stands
          c.self.invariant.3 c.self.invariant.0,
      rw stands (c.in_ok-names.ensures facts c.self.invariant.1 c.self.invariant.3),
      covers-step old.covers c.in_ok-covers.covers facts after d c.in_ok-found.found c.held_of-held.result.avet c.held_of-held.result.vaet
          c.in_ok-covers.ensures.avet c.in_ok-covers.ensures.vaet
          c.held_of-held.ensures.avet c.held_of-held.ensures.vaet is stands c.self.invariant.3 c.self.invariant.2,
      ap standing stands ∙ standing-idem (facts ++ d ∷ []) ∙ sym stands,
    )
