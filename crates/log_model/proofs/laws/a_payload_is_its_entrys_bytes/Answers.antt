-- By the lemmas on what was written where it is read.
use Rattle.log_model.specs.Values.{read_value}
use Rattle.log_model.proofs.Fields.{found-IsFound}
use Rattle.log_model.proofs.Values.{Wrote-value}
use Rattle.log_model.proofs.Entries.{says-IsPayloadOf, written-entry_bytes}
use Rattle.log_model.proofs.Logs.{AreBytes-All}
use Rattle.log_model.proofs.laws.a_payload_is_its_entrys_bytes.Goals as goal

pub returns-clause-bytes : goal.returns-clause-bytes
returns-clause-bytes c = λ entry payload all is. says-IsPayloadOf payload entry (AreBytes-All payload all) is

pub returns-clause-value : goal.returns-clause-value
returns-clause-value c =
    λ format v bytes rest all is.
    Wrote-value format bytes v rest (AreBytes-All bytes all) (found-IsFound (read_value format bytes) v rest is)

pub returns-clause-written : goal.returns-clause-written
returns-clause-written c = written-entry_bytes
