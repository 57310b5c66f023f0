use Rattle.std.proofs.Common.{sym, subst}
use Rattle.fb_values.specs.declared.indexes.Order.TheVariants.{Eavt}
use Rattle.fb_values.specs.Rising.{IsRising}
use Rattle.seg_tree.specs.Nodes.{tree_datoms}
use Rattle.bench.specs.Rising.{TreesRise}
use Rattle.bench.proofs.segments.trees.entity_from.Goals as goal

pub first_from-requires : goal.first_from-requires
unfolding TreesRise
first_from-requires c = subst (λ t. IsRising Eavt (tree_datoms t)) (sym c.tree.ensures) (c.requires Eavt).0
