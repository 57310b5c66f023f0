use Rattle.std.proofs.Common.{[]}
use Rattle.log_sweep.proofs.alone.Known.first.Goals as goal

pub returns : goal.returns
returns c = record { latest = c.with.ensures [] c.none.ensures; schema = c.in_ok-schema.ensures }
