-- By the lemmas on three parts.
use Rattle.std.proofs.Common.{rules, ◌≡◌, IfOk, ap, sym, ◌∙◌, subst}
use Rattle.std.proofs.lemmas.List.{take_rest}
use Rattle.pull_model.specs.Patterns as model
use Rattle.pull_pattern.specs.View.{model_pattern}
use Rattle.pull_pattern.proofs.OneLess.{less_made, less_past}
use Rattle.pull_pattern.proofs.patterns.Pattern.one_less.Goals as goal

pub returns-in_default : goal.returns-in_default
returns-in_default c =
    subst (λ m. IfOk c.share.result (λ p. model_pattern p ≡ m))
    (sym c.items-items.ensures
    ∙ less_past c.items-items.result.now c.args.place (search rules)
    ∙ ap (model.one_less c.args.place) c.items-items.ensures)
    c.share.ensures

pub returns : goal.returns
returns c =
    subst (λ m. IfOk c.of.result (λ p. model_pattern p ≡ m))
    (less_made c.items-items.result.now c.in_ok-list.list.items c.add_copies.new.list.items
    c.add_lessened.new.list.items c.add_copies-2.new.list.items c.args.place c.in-Some.item.now
    (search rules) (search rules) (search rules) (search rules) (search rules) (search (rules, take_rest))
    ∙ ap (model.one_less c.args.place) c.items-items.ensures)
    c.of.ensures
