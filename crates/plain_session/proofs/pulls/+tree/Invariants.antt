-- Each level has one less room, and within a level the functions call one another in this order.
use Rattle.std.proofs.Common.{◌+◌, ◌*◌}
use Rattle.plain_session.proofs.pulls.+tree.Given as goal

abbrev pub decreases-tree : goal.decreases-tree
decreases-tree l = 16 * l.room

abbrev pub decreases-unless_met : goal.decreases-unless_met
decreases-unless_met l = 16 * l.at.now.room + 1

abbrev pub decreases-whole : goal.decreases-whole
decreases-whole l = 16 * l.at.now.room + 2

abbrev pub decreases-fewer_times : goal.decreases-fewer_times
decreases-fewer_times l = 16 * l.at.now.room + 2

abbrev pub decreases-tree_under : goal.decreases-tree_under
decreases-tree_under l = 16 * l.at.now.room + 2

abbrev pub decreases-told : goal.decreases-told
decreases-told l = 16 * l.at.now.room + 3

abbrev pub decreases-all_told : goal.decreases-all_told
decreases-all_told l = 16 * l.at.now.room + 4

abbrev pub decreases-told_or_default : goal.decreases-told_or_default
decreases-told_or_default l = 16 * l.at.now.room + 5

abbrev pub decreases-value_of : goal.decreases-value_of
decreases-value_of l = 16 * l.at.now.room + 6

abbrev pub decreases-add_pair : goal.decreases-add_pair
decreases-add_pair l = 16 * l.at.now.room + 7

abbrev pub decreases-add_everything : goal.decreases-add_everything
decreases-add_everything l = 16 * l.at.now.room + 8

abbrev pub decreases-add_pairs : goal.decreases-add_pairs
decreases-add_pairs l = 16 * l.at.now.room + 9
