use Rattle.std.proofs.Common.{◌∙◌, ap}
use Rattle.std.specs.Prelude.{is_some}
use Rattle.fb_view.proofs.Answering.{holds_told}
use Rattle.fb_view.proofs.facts.SnapshotFacts.holds.Goals as goal

pub returns : goal.returns
returns c =
    c.is_some.ensures
    ∙ ap is_some c.first_with.ensures.first
    ∙ holds_told c.args.self.now c.first_with.ensures.stands c.args.e c.args.a c.args.v.now _ c.probe_of_triple-probe.ensures
