use Rattle.std.proofs.Common.{◌≡◌, map, filter_map}
use Rattle.tx_asks.specs.Acts.{model_act}
use Rattle.tx_resolve.specs.Numbers.{act_of}
use Rattle.tx_resolve.proofs.acts.acts_of_forms.Given as goal

abbrev pub invariant-loop-drafts : goal.invariant-loop-drafts
invariant-loop-drafts l =
    map (λ acts. map model_act acts.items) l.list.items ≡ map (λ form. filter_map (act_of l.entities) form.items) l.yielded
