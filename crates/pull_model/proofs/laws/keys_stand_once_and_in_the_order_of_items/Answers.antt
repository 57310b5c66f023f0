-- By the lemmas on keys.
use Rattle.std.proofs.Common.{refl, subst, sym}
use Rattle.pull_model.specs.Made.{no_pairs_yet}
use Rattle.pull_model.specs.Measures.{AreInOrder}
use Rattle.pull_model.specs.Tree.{items_from, made_of}
use Rattle.pull_model.proofs.Distinct.{keys_in, item_keys, folded_distinct, folded_in_order}
use Rattle.pull_model.proofs.laws.keys_stand_once_and_in_the_order_of_items.Goals as goal

pub returns-clause-once : goal.returns-clause-once
returns-clause-once c =
    λ trees db pattern above e. folded_distinct (made_of trees db pattern above e) no_pairs_yet (items_from db e pattern 0 pattern) refl

pub returns-clause-in_order : goal.returns-clause-in_order
returns-clause-in_order c =
    λ trees db pattern above e.
    let added = folded_in_order (made_of trees db pattern above e) no_pairs_yet (items_from db e pattern 0 pattern) in
    subst (λ ps. AreInOrder (keys_in ps) (item_keys (items_from db e pattern 0 pattern))) (sym added.is) added.order
