use Rattle.edn_token.proofs.Escapes.{bad_short_code_there, cut_code_there}
use Rattle.edn_token.proofs.escape.read_short_code.Goals as goal

pub returns-in-None : goal.returns-in-None
returns-in-None c = bad_short_code_there c.args.digits.now c.requires c.in-None.ensures

pub returns-in-Some : goal.returns-in-Some
returns-in-Some c = cut_code_there c.args.digits.now c.requires c.in-Some.ensures.0
