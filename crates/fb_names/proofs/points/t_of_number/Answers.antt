use Rattle.std.proofs.Common.{arith}
use Rattle.fb_names.proofs.TsOfNumbers.{t_of_entity}
use Rattle.fb_names.proofs.points.t_of_number.Goals as goal

pub returns : goal.returns
returns c =
    t_of_entity c.args.n c.t_of_transaction.result
    (omega arith) c.t_of_transaction.ensures.found c.t_of_transaction.ensures.bound c.t_of_transaction.ensures.every
