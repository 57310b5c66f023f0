use Rattle.std.proofs.Common.{◌∙◌}
use Rattle.log_model.specs.Nodes.{ids_in}
use Rattle.log_model.specs.Kept.{nodes_of}
use Rattle.seg_store.proofs.Next.{same_next}
use Rattle.seg_store.proofs.stores.SegStore.next_id.Goals as goal

pub returns-clause-least : goal.returns-clause-least
returns-clause-least g c = λ records keeps.
    c.next_above.ensures.next ∙ same_next c.args.self.now.ids (ids_in (nodes_of records)) keeps.ids
