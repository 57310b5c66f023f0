-- Live indexes and trees whose lists rise, of sample datoms, and what trees hold.
-- This project's own choice.
use Rattle.fb_values.specs.declared.indexes.Order.{Order}
use Rattle.fb_values.specs.Lists.{Lists, list_in}
use Rattle.fb_covers.specs.Coverage.{Coverage}
use Rattle.live_index.specs.Samples.{AreRisingSamples}
use Rattle.seg_tree.specs.Nodes.{tree_datoms}
use Rattle.seg_tree.specs.Indexes.{tree_in}
use Rattle.seg_tree.specs.declared.roots.Roots.{Roots}
use Rattle.seg_merge.specs.Merged.{AreHeld}

unfoldable pub LiveRises : Lists → Type 0
LiveRises live = (order : Order) → AreRisingSamples order (list_in live order)

unfoldable pub TreesRise : Roots → Type 0
TreesRise roots = (order : Order) → AreRisingSamples order (tree_datoms (tree_in roots order))

-- each tree has datoms of the attributes alone that the coverage holds in its order
unfoldable pub TreesAreHeld : Coverage → Roots → Type 0
TreesAreHeld coverage roots =
    (order : Order) → AreHeld coverage order (tree_datoms (tree_in roots order))
