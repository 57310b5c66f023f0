use Rattle.std.proofs.Common.{ap, ◌∙◌}
use Rattle.tx_expand.specs.Numbered.{behind}
use Rattle.tx_expand.proofs.LookupLists.{begin_with_themselves}
use Rattle.tx_expand.proofs.links.enter.Goals as goal

pub returns-clause-next : goal.returns-clause-next
returns-clause-next c =
    let all = c.name_of_map.new.lookups.items in
    c.in_ok-out.ensures all ∙ ap (λ name. behind name c.args.out.now.next) (c.in_ok-name.ensures.name all (begin_with_themselves all))
