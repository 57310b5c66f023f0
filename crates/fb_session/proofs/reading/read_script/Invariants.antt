use Rattle.std.proofs.Common.{◌≡◌, ◌-◌, ◌≤◌, vec_len}
use Rattle.std.specs.Io.KnownBytes.{prepend_known}
use Rattle.fb_session.specs.Taken.{longest_script}
use Rattle.fb_session.proofs.reading.read_script.Given as goal

-- what was taken so far
abbrev pub invariant-loop-count : goal.invariant-loop-count
invariant-loop-count g l =
    let left = g.I.Source.left in
    let faults = g.I.Source.faults in
    record {
      taken : left l.fn.source ≡ prepend_known l.bytes.items (left l.source);
      count : faults l.source ≡ faults l.fn.source;
      fits : vec_len l.bytes ≤ longest_script;
      piece : vec_len l.piece ≡ 262144;
    }

abbrev pub decreases-loop-count : goal.decreases-loop-count
decreases-loop-count g l = longest_script - vec_len l.bytes
