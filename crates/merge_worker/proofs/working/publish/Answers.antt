use Rattle.std.proofs.Common.{sym, subst}
use Rattle.fb_model.proofs.Times.{upto-basis}
use Rattle.fb_view.specs.SnapshotModel.{SnapshotModel}
use Rattle.fb_roots.specs.Bases.{IsBaseOf}
use Rattle.merge_worker.proofs.working.publish.Goals as goal

pub rebased-requires-clause-begins : goal.rebased-requires-clause-begins
rebased-requires-clause-begins g c = upto-basis c.last-last.result.now.entries c.basis-basis.ensures.stands.history.lawful

pub returns-clause-trees : goal.returns-clause-trees
returns-clause-trees g c = λ trees n of.
    subst (λ (k : SnapshotModel). IsBaseOf trees k.entries n) (sym c.publish.ensures.last) (c.catch_up.ensures.trees trees n of)
