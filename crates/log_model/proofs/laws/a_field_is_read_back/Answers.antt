-- By the lemmas on fields.
use Rattle.std.proofs.Common.{◌^◌}
use Rattle.std.proofs.lemmas.Bool.{lt-ltb}
use Rattle.log_model.proofs.Fields.{Reads-u32, Reads-u64, Reads-u128, Reads-i64, Reads-truth, Reads-text}
use Rattle.log_model.proofs.laws.a_field_is_read_back.Goals as goal

pub returns-clause-u32 : goal.returns-clause-u32
returns-clause-u32 c = λ n rest fits. Reads-u32 n (lt-ltb n (2 ^ 32) fits) rest

pub returns-clause-u64 : goal.returns-clause-u64
returns-clause-u64 c = λ n rest fits. Reads-u64 n (lt-ltb n (2 ^ 64) fits) rest

pub returns-clause-u128 : goal.returns-clause-u128
returns-clause-u128 c = λ n rest fits. Reads-u128 n (lt-ltb n (2 ^ 128) fits) rest

pub returns-clause-i64 : goal.returns-clause-i64
returns-clause-i64 c = λ z rest fits. Reads-i64 z fits rest

pub returns-clause-truth : goal.returns-clause-truth
returns-clause-truth c = λ b rest. Reads-truth b rest

pub returns-clause-text : goal.returns-clause-text
returns-clause-text c = λ test text rest fits. Reads-text test text fits rest
