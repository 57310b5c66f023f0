use Rattle.std.proofs.Common.{◌≡◌, ◌-◌, ◌≤◌, length, take}
use Rattle.std.specs.Io.KnownBytes.{append_known}
use Rattle.fb_session.proofs.writing.write_bytes.Given as goal

-- the sink took the first bytes
abbrev pub invariant-loop-out : goal.invariant-loop-out
invariant-loop-out g l =
    let contents = g.O.Sink.contents in
    let faults = g.O.Sink.faults in
    record {
      within : l.out ≤ length l.bytes;
      taken : contents l.sink ≡ append_known (contents l.fn.sink) (take l.out l.bytes);
      count : faults l.sink ≡ faults l.fn.sink;
    }

abbrev pub decreases-loop-out : goal.decreases-loop-out
decreases-loop-out g l = length l.bytes - l.out
