use Rattle.std.proofs.Common.{◌∙◌, ap, subst, sym}
use Rattle.fb_model.specs.Lawful.{IsLawfulAfter}
use Rattle.fb_view.specs.SnapshotModel.{SnapshotModel}
use Rattle.fb_view.proofs.Standing.{room}
use Rattle.fb_view.proofs.snapshot.Snapshot.with_entry.Goals as goal

pub with-requires-2 : goal.with-requires-2
with-requires-2 c =
    room c.parts.inside.entries c.args.entry c.parts.invariant.history.lawful
    (subst (λ h. IsLawfulAfter h c.args.entry)
    (sym (ap (λ (k : SnapshotModel). k.entries) (c.parts.view_is ∙ c.parts-parts.ensures.parts))) c.requires)
