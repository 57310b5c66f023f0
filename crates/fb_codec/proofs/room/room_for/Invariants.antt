use Rattle.std.proofs.Common.{◌≡◌, ◌^◌, ◌-◌, min, take}
use Rattle.tx_model.specs.Size.{entry_size}
use Rattle.fb_codec.proofs.room.room_for.Given as goal

abbrev pub invariant-loop-datom : goal.invariant-loop-datom
invariant-loop-datom l = l.room ≡ min (entry_size (take l.datom-index l.datoms)) (2 ^ 64 - 1)
