use Rattle.std.proofs.Common.{◌≡◌, ◌∙◌, true, ap, sym, subst}
use Rattle.tx_after.specs.Places.{entities_rise}
use Rattle.tx_after.specs.Promises.{are_of_other_entities}
use Rattle.tx_after.proofs.Promising.{other_entities-is, under-rises}
use Rattle.tx_after.proofs.promises.gives_one_value.Goals as goal

pub are_of_other_entities-requires : goal.are_of_other_entities-requires
are_of_other_entities-requires g c =
    subst (λ l. entities_rise l ≡ true) (sym (c.deref.ensures.value ∙ c.in_ok-under.ensures))
    (under-rises (g.F.Facts.history c.args.facts.now) c.args.changes.now c.args.a)

pub returns : goal.returns
returns g c =
    c.are_of_other_entities.ensures ∙ ap are_of_other_entities (c.deref.ensures.value ∙ c.in_ok-under.ensures)
    ∙ other_entities-is (g.F.Facts.history c.args.facts.now) c.args.changes.now c.args.a
