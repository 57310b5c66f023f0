use Rattle.fb_view.proofs.Probing.{triple_probe_is}
use Rattle.fb_view.proofs.facts.probe_of_triple.Goals as goal

pub returns : goal.returns
returns c = triple_probe_is c.args.e c.args.a c.args.v.now c.shared.result c.shared.ensures
