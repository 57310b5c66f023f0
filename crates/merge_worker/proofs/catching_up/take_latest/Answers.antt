use Rattle.std.proofs.Common.{◌≡◌, ◌∙◌, ◌++◌, ap, sym, subst}
use Rattle.fb_model.specs.Lawful.{IsLawful}
use Rattle.fb_view.specs.SnapshotModel.{SnapshotModel}
use Rattle.merge_worker.proofs.Standing.{of_longer}
use Rattle.merge_worker.proofs.catching_up.take_latest.Goals as goal

pub returns-clause-trees : goal.returns-clause-trees
returns-clause-trees g c = λ trees n of.
    let old = c.args.seat.now in let new = c.begin.new.seat in let seen = c.in_ok-latest.ensures.snapshot in let more = seen.1 in
    let begins : new.last.entries ≡ old.last.entries ++ more.0 = ap (λ (k : SnapshotModel). k.entries) (sym seen.0) ∙ more.1 in
    let first = subst (λ (k : SnapshotModel). IsLawful k.entries) c.last-last.ensures c.basis-basis.ensures.stands.history.lawful in
    let lawful = subst (λ (k : SnapshotModel). IsLawful k.entries) seen.0 c.basis-latest.ensures.stands.history.lawful in
    of_longer trees old.last.entries new.last.entries more.0 n first lawful begins of
