-- By the lemmas on rooms.
use Rattle.pull_model.proofs.Rooms.{some_room, one_more}
use Rattle.pull_model.proofs.laws.a_tree_is_made_item_by_item.Goals as goal

pub returns-clause-room : goal.returns-clause-room
returns-clause-room c = some_room

pub returns-clause-items : goal.returns-clause-items
returns-clause-items c = one_more
