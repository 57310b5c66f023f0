use Rattle.std.proofs.Common.{◌∙◌}
use Rattle.fb_view.proofs.Answering.{holder_told}
use Rattle.fb_view.proofs.facts.SnapshotFacts.holder.Goals as goal

pub returns : goal.returns
returns c =
    c.first_with.ensures.first
    ∙ holder_told c.args.self.now c.first_with.ensures.stands c.args.a c.args.v.now _ c.probe_of_value-probe.ensures
