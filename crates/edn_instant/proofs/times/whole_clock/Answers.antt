use Rattle.edn_instant.proofs.TimeParts.{no_whole_clock}
use Rattle.edn_instant.proofs.times.whole_clock.Goals as goal

pub returns-in_err-minutes : goal.returns-in_err-minutes
returns-in_err-minutes c = rw c.from_residual.ensures (no_whole_clock c.args.bytes.now c.in_err-minutes.ensures)
