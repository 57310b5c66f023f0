use Rattle.std.proofs.Common.{length, string_bytes}
use Rattle.edn_token.specs.Strings.{Spelled}
use Rattle.edn_token.proofs.string.read_pieces.Given as goal

abbrev pub invariant-loop-s : goal.invariant-loop-s
invariant-loop-s l = Spelled l.inside (string_bytes l.text) l.rest

abbrev pub decreases-loop-s : goal.decreases-loop-s
decreases-loop-s l = length l.rest
