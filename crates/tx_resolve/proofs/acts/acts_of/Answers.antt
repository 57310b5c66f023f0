use Rattle.std.proofs.Common.{map, ap, ◌∙◌}
use Rattle.tx_asks.specs.Acts.{model_act}
use Rattle.tx_resolve.specs.Numbers.{act_of}
use Rattle.tx_resolve.proofs.ActLists.{push_some}
use Rattle.tx_resolve.proofs.acts.acts_of.Goals as goal

pub loop-draft-preserved : goal.loop-draft-preserved
loop-draft-preserved c =
    ap (map model_act) c.in_ok-push_some.ensures
    ∙ push_some model_act (act_of c.args.entities.now) c.loop-draft.acts.items c.loop-draft.yielded c.in_ok-act.field-0 c.in-Some.draft
    c.in_ok-act.ensures c.loop-draft.invariant
