use Rattle.std.proofs.Common.{take, flat_map, []}
use Rattle.tx_resolve.specs.Meeting.{tempids_of, asks_in, met_with, AreMet}
use Rattle.tx_resolve.proofs.meeting.met_in.Given as goal

abbrev pub invariant-loop-asks : goal.invariant-loop-asks
invariant-loop-asks l = AreMet l.met (met_with [] (flat_map tempids_of (asks_in (take l.asks-index l.forms))))
