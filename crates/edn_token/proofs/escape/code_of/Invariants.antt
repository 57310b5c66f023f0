use Rattle.std.proofs.Common.{◌≡◌, take}
use Rattle.edn_model.specs.Bytes.{Each}
use Rattle.edn_model.specs.Tokens.{is_hex_digit}
use Rattle.edn_token.specs.Strings.{hex_number}
use Rattle.edn_token.proofs.escape.code_of.Given as goal

abbrev pub invariant-loop-b : goal.invariant-loop-b
invariant-loop-b l = Each is_hex_digit (take l.b-index l.digits) × (l.n ≡ hex_number (take l.b-index l.digits))
