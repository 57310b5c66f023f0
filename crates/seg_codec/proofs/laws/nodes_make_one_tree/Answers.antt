-- By the lemma on trees of the same ids.
use Rattle.std.proofs.Common.{sym, ◌∙◌}
use Rattle.seg_tree.specs.Indexes.{tree_in}
use Rattle.seg_codec.proofs.Kept.{one_tree}
use Rattle.seg_codec.proofs.laws.nodes_make_one_tree.Goals as goal

pub returns : goal.returns
returns c = λ nodes ids trees other once are are_too order.
    one_tree nodes once (tree_in trees order) (tree_in other order) (are.there order) (are_too.there order)
    (are.named order ∙ sym (are_too.named order))
