use Rattle.std.proofs.Common.{◌≡◌, ◌++◌, length, take}
use Rattle.std.specs.Prelude.{flat_map}
use Rattle.log_model.specs.Fields.{u32_bytes}
use Rattle.log_model.specs.Nodes.{dated_bytes}
use Rattle.seg_codec.proofs.written.put_datoms.Given as goal

abbrev pub invariant-loop-datom : goal.invariant-loop-datom
invariant-loop-datom l = l.out.items ≡ (l.fn.out.items ++ u32_bytes (length l.datoms)) ++ flat_map dated_bytes (take l.datom-index l.datoms)
