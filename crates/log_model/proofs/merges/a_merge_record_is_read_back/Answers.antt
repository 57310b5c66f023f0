-- By the lemmas on merge records.
use Rattle.log_model.proofs.Logs.{AreBytes-All}
use Rattle.log_model.proofs.MergeRecords.{IsRecordOf-says, says-IsRecordOf, one_record}
use Rattle.log_model.proofs.merges.a_merge_record_is_read_back.Goals as goal

pub returns-clause-read : goal.returns-clause-read
returns-clause-read c = IsRecordOf-says

pub returns-clause-bytes : goal.returns-clause-bytes
returns-clause-bytes c = λ nodes merge payload all is. says-IsRecordOf nodes merge payload (AreBytes-All payload all) is

pub returns-clause-one : goal.returns-clause-one
returns-clause-one c = one_record
