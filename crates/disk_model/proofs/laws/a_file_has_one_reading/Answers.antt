use Rattle.disk_model.proofs.Readings.{one-stands, one-fault, not-both}
use Rattle.disk_model.proofs.laws.a_file_has_one_reading.Goals as goal

pub returns-clause-records : goal.returns-clause-records
returns-clause-records c = one-stands

pub returns-clause-fault : goal.returns-clause-fault
returns-clause-fault c = one-fault

pub returns-clause-not_both : goal.returns-clause-not_both
returns-clause-not_both c = not-both
