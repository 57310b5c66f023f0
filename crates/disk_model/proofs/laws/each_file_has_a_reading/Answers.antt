use Rattle.disk_model.proofs.Existence.{some-reading}
use Rattle.disk_model.proofs.laws.each_file_has_a_reading.Goals as goal

pub returns : goal.returns
returns c = some-reading
