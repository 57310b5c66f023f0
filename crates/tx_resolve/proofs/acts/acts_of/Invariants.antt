use Rattle.std.proofs.Common.{◌≡◌, map, filter_map}
use Rattle.tx_asks.specs.Acts.{model_act}
use Rattle.tx_resolve.specs.Numbers.{act_of}
use Rattle.tx_resolve.proofs.acts.acts_of.Given as goal

abbrev pub invariant-loop-draft : goal.invariant-loop-draft
invariant-loop-draft l = map model_act l.acts.items ≡ filter_map (act_of l.entities) l.yielded
