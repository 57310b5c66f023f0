use Rattle.std.proofs.Common.{◌≡◌, ◌++◌, take}
use Rattle.std.specs.Prelude.{flat_map}
use Rattle.log_model.specs.Payload.{datom_bytes}
use Rattle.fb_codec.proofs.entries.put_datoms.Given as goal

abbrev pub invariant-loop-datom : goal.invariant-loop-datom
invariant-loop-datom l = l.out.items ≡ l.fn.out.items ++ flat_map datom_bytes (take l.datom-index l.datoms)
