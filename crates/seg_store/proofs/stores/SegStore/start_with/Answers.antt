use Rattle.std.proofs.Common.{[]}
use Rattle.seg_store.proofs.stores.SegStore.start_with.Goals as goal

pub returns-clause-started : goal.returns-clause-started
returns-clause-started g c = c.in_ok-add.ensures.added [] c.in_ok-reset.ensures.emptied.journal
