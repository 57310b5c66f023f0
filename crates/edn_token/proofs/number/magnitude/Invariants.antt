use Rattle.std.proofs.Common.{◌≡◌, take}
use Rattle.edn_model.specs.Tokens.{number}
use Rattle.edn_token.proofs.number.magnitude.Given as goal

abbrev pub invariant-loop-b : goal.invariant-loop-b
invariant-loop-b l = l.n ≡ number (take l.b-index l.digits)
