use Rattle.std.proofs.Common.{sym, subst}
use Rattle.seg_codec.specs.IdPlaces.{ArePlaced}
use Rattle.seg_codec.proofs.Placing.{placed_none}
use Rattle.seg_codec.proofs.ids.Ids.new.Goals as goal

pub invariant_of-result : goal.invariant_of-result
invariant_of-result c = subst (λ ids. ArePlaced ids c.new-2.result) (sym c.new.ensures.items)
    (placed_none c.new-2.result c.new-2.ensures.empty)
