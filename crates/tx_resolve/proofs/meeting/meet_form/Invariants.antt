use Rattle.std.proofs.Common.{take, flat_map}
use Rattle.tx_resolve.specs.Meeting.{tempids_of, Meets}
use Rattle.tx_resolve.proofs.meeting.meet_form.Given as goal

abbrev pub invariant-loop-ask : goal.invariant-loop-ask
invariant-loop-ask l = Meets l.initial.met l.met (flat_map tempids_of (take l.ask-index l.asks))
