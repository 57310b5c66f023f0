use Rattle.live_index.proofs.Standing.{may_follow_refill}
use Rattle.live_index.proofs.laws.next_entries_may_follow_a_refill.Goals as goal

pub returns : goal.returns
returns t h c entry coverage refill old filled is was grown = may_follow_refill h c entry coverage refill is old was filled grown
