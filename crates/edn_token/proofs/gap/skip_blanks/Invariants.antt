use Rattle.std.proofs.Common.{length}
use Rattle.edn_token.specs.Gaps.{Blanks}
use Rattle.edn_token.proofs.gap.skip_blanks.Given as goal

abbrev pub invariant-loop-line : goal.invariant-loop-line
invariant-loop-line l = Blanks l.here l.rest

abbrev pub decreases-loop-line : goal.decreases-loop-line
decreases-loop-line l = length l.rest
