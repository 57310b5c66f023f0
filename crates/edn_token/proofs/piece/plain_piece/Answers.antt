use Rattle.edn_token.proofs.Strings.{plain_is, plain_broken}
use Rattle.edn_token.proofs.piece.plain_piece.Goals as goal

pub returns-in-Ok : goal.returns-in-Ok
returns-in-Ok c = plain_is c.args.here.now _ _ c.in-Ok.s.now c.split_plain.ensures c.requires c.in-Ok.ensures.0 c.in-Ok.ensures.1

pub returns-in-Err : goal.returns-in-Err
returns-in-Err c = plain_broken c.args.here.now _ _ c.in-Err.at c.split_plain.ensures c.in-Err.ensures
