use Rattle.std.proofs.Common.{◌≡◌, drop}
use Rattle.edn_form.specs.View.{pairs_of}
use Rattle.pull_model.specs.Tree.{has_key}
use Rattle.fb_pull.specs.Keys.{model_key}
use Rattle.fb_pull.proofs.keys.Key.is_in.Given as goal

abbrev pub invariant-loop-other : goal.invariant-loop-other
invariant-loop-other l = has_key (pairs_of (drop l.other-index l.pairs)) (model_key l.self) ≡ has_key (pairs_of l.pairs) (model_key l.self)
