use Rattle.fb_names.proofs.RisingInstants.{instants_rise}
use Rattle.fb_names.proofs.laws.instants_rise.Goals as goal

pub returns : goal.returns
returns c = instants_rise
