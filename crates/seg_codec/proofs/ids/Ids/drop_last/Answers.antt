use Rattle.std.proofs.Common.{subst}
use Rattle.seg_codec.specs.IdPlaces.{ArePlaced}
use Rattle.seg_codec.proofs.Placing.{placed_pop}
use Rattle.seg_codec.proofs.ids.Ids.drop_last.Goals as goal

pub invariant_of-self : goal.invariant_of-self
invariant_of-self c =
    placed_pop c.pop.new.self.items c.in-Some.id c.self.inside.places c.remove.new.self
    (subst (λ items. ArePlaced items c.self.inside.places) c.in-Some.ensures.items c.self.invariant) c.remove.ensures.updates
