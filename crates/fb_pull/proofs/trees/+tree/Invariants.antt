use Rattle.std.proofs.Common.{◌+◌, ◌*◌, map, take}
use Rattle.pull_model.specs.Found.{Db}
use Rattle.pull_model.specs.Made as made
use Rattle.pull_model.specs.Tree.{tree}
use Rattle.pull_pattern.specs.View.{model_pattern}
use Rattle.fb_pull.specs.Attributes.{names_of}
use Rattle.fb_pull.specs.Below.{made_by}
use Rattle.fb_pull.specs.Stands.{made_at}
use Rattle.fb_pull.specs.Making.{AreMadeAs, IsInside}
use Rattle.fb_pull.specs.Views.{Sees}
use Rattle.fb_pull.proofs.Making.{so_far, others_so_far}
use Rattle.fb_pull.proofs.trees.+tree.Given as goal

-- each level has one less room, and within a level the functions call one another in this order
abbrev pub decreases-tree : goal.decreases-tree
decreases-tree g l = 11 * l.limits.depth

abbrev pub decreases-told : goal.decreases-told
decreases-told g l = 11 * l.limits.depth + 1

abbrev pub decreases-all_told : goal.decreases-all_told
decreases-all_told g l = 11 * l.limits.depth + 2

abbrev pub decreases-value : goal.decreases-value
decreases-value g l = 11 * l.at.now.limits.depth + 3

abbrev pub decreases-add_attribute : goal.decreases-add_attribute
decreases-add_attribute g l = 11 * l.at.now.limits.depth + 4

abbrev pub decreases-add_sought : goal.decreases-add_sought
decreases-add_sought g l = 11 * l.at.now.limits.depth + 5

abbrev pub decreases-add_meant : goal.decreases-add_meant
decreases-add_meant g l = 11 * l.at.now.limits.depth + 6

abbrev pub decreases-add_other : goal.decreases-add_other
decreases-add_other g l = 11 * l.at.now.limits.depth + 7

abbrev pub decreases-add_everything : goal.decreases-add_everything
decreases-add_everything g l = 11 * l.at.now.limits.depth + 8

abbrev pub decreases-add_item : goal.decreases-add_item
decreases-add_item g l = 11 * l.at.now.limits.depth + 9

abbrev pub decreases-pairs : goal.decreases-pairs
decreases-pairs g l = 11 * l.at.now.limits.depth + 10

-- what is told of the entities before the next one
abbrev pub invariant-all_told-loop-n : goal.invariant-all_told-loop-n
invariant-all_told-loop-n g l =
    (facts : Db) → Sees l.walk.db.now (g.S.Selector.selects l.walk.db.now.filter) facts
    → AreMadeAs (map (made_by (tree l.limits.depth facts) l.inner l.path) (take l.n-index l.entities)) l.limits l.all

-- the pairs of the items before the next one
abbrev pub invariant-pairs-loop-place : goal.invariant-pairs-loop-place
invariant-pairs-loop-place g l =
    (facts : Db) → Sees l.walk.db.now (g.S.Selector.selects l.walk.db.now.filter) facts
    → IsInside (so_far facts (model_pattern l.at.pattern.now) l.at.e (made_at l.at facts) l.items l.at.limits l.place) l.at.limits l.inside

-- and of the attributes before the next one
abbrev pub invariant-add_everything-loop-attribute : goal.invariant-add_everything-loop-attribute
invariant-add_everything-loop-attribute g l =
    (facts : Db) → Sees l.walk.db.now (g.S.Selector.selects l.walk.db.now.filter) facts → (before : made.Inside)
    → IsInside before l.at.limits l.fn.inside
    → IsInside (others_so_far facts (model_pattern l.at.pattern.now) l.at.e l.place (made_at l.at facts) l.at.limits before
    (names_of l.attribute-items) l.attribute-index) l.at.limits l.inside
