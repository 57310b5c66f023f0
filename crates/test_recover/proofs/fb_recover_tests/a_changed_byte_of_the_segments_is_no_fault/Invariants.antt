use Rattle.std.proofs.Common.{◌≤◌}
use Rattle.test_recover.proofs.fb_recover_tests.a_changed_byte_of_the_segments_is_no_fault.Given as goal

abbrev pub invariant-loop-nth : goal.invariant-loop-nth
invariant-loop-nth g l = l.newest ≤ l.nth-counter
