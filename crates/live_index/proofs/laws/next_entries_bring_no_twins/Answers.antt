use Rattle.live_index.proofs.Standing.{no_twins}
use Rattle.live_index.proofs.laws.next_entries_bring_no_twins.Goals as goal

pub returns : goal.returns
returns t h c entry coverage refill old is was = no_twins h c entry coverage refill is old was
