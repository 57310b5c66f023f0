use Rattle.std.proofs.Common.{◌≡◌, ◌++◌, take}
use Rattle.seg_codec.proofs.ids.Ids.add_all.Given as goal

abbrev pub invariant-loop-id : goal.invariant-loop-id
invariant-loop-id l = l.self ≡ l.fn.self ++ take l.id-index l.ids
