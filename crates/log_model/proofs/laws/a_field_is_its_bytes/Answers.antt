-- By the lemmas on fields.
use Rattle.log_model.specs.Fields.{read_u32, read_u64, read_u128, read_i64, read_truth, read_text}
use Rattle.log_model.proofs.Fields.{found-IsFound, Wrote-u32, Wrote-u64, Wrote-u128, Wrote-i64, Wrote-truth, Wrote-text}
use Rattle.log_model.proofs.Logs.{AreBytes-All}
use Rattle.log_model.proofs.laws.a_field_is_its_bytes.Goals as goal

pub returns-clause-u32 : goal.returns-clause-u32
returns-clause-u32 c = λ bytes rest n all is. (Wrote-u32 bytes n rest (AreBytes-All bytes all) (found-IsFound (read_u32 bytes) n rest is)).0

pub returns-clause-u64 : goal.returns-clause-u64
returns-clause-u64 c = λ bytes rest n all is. (Wrote-u64 bytes n rest (AreBytes-All bytes all) (found-IsFound (read_u64 bytes) n rest is)).0

pub returns-clause-u128 : goal.returns-clause-u128
returns-clause-u128 c =
    λ bytes rest n all is. (Wrote-u128 bytes n rest (AreBytes-All bytes all) (found-IsFound (read_u128 bytes) n rest is)).0

pub returns-clause-i64 : goal.returns-clause-i64
returns-clause-i64 c = λ bytes rest z all is. (Wrote-i64 bytes z rest (AreBytes-All bytes all) (found-IsFound (read_i64 bytes) z rest is)).0

pub returns-clause-truth : goal.returns-clause-truth
returns-clause-truth c =
    λ bytes rest b all is. Wrote-truth bytes b rest (AreBytes-All bytes all) (found-IsFound (read_truth bytes) b rest is)

pub returns-clause-text : goal.returns-clause-text
returns-clause-text c =
    λ test bytes text rest all is.
    Wrote-text test bytes text rest (AreBytes-All bytes all) (found-IsFound (read_text test bytes) text rest is)
