-- By the lemmas on what is read where it was written.
use Rattle.std.proofs.Common.{refl}
use Rattle.log_model.specs.Payload.{entry_bytes}
use Rattle.log_model.proofs.Values.{Reads-value}
use Rattle.log_model.proofs.Entries.{says-entry_bytes, written-storable}
use Rattle.log_model.proofs.laws.an_entry_is_read_back.Goals as goal

pub returns-clause-written : goal.returns-clause-written
returns-clause-written c =
    λ entry storable.
    says-entry_bytes entry (entry_bytes entry) (record { format = 2; format_is = refl; storable = storable; bytes = refl })

pub returns-clause-either_format : goal.returns-clause-either_format
returns-clause-either_format c = says-entry_bytes

pub returns-clause-value : goal.returns-clause-value
returns-clause-value c = λ format v rest fits. Reads-value format v fits rest

pub returns-clause-storable : goal.returns-clause-storable
returns-clause-storable c = λ entry payload is. written-storable is.format entry is.storable
