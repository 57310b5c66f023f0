use Rattle.edn_token.proofs.WholeCharacters.{token_front, token_broken}
use Rattle.edn_token.proofs.characters.read_token.Goals as goal

pub returns-in-Ok : goal.returns-in-Ok
returns-in-Ok c = token_front c.args.here.now _ _ c.in-Ok.token.now c.split_token.ensures c.in-Ok.ensures.0 c.in-Ok.ensures.1

pub returns-in-Err : goal.returns-in-Err
returns-in-Err c =
    token_broken c.args.here.now _ _ c.in-Err.at c.first_fault.result c.split_token.ensures c.in-Err.ensures c.first_fault.ensures
