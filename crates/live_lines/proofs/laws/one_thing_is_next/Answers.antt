use Rattle.live_lines.proofs.OneNext.{one_next}
use Rattle.live_lines.proofs.laws.one_thing_is_next.Goals as goal

pub returns : goal.returns
returns c = one_next
