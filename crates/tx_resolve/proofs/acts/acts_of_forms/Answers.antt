use Rattle.std.proofs.Common.{Vec, Global, map, filter_map, ap, ◌∙◌}
use Rattle.tx_asks.specs.declared.acts.Act.{Act}
use Rattle.tx_asks.specs.Acts.{model_act}
use Rattle.tx_resolve.specs.declared.drafts.Draft.{Draft}
use Rattle.tx_resolve.specs.Numbers.{act_of}
use Rattle.tx_resolve.proofs.ActLists.{push_same}
use Rattle.tx_resolve.proofs.acts.acts_of_forms.Goals as goal

pub loop-drafts-preserved : goal.loop-drafts-preserved
loop-drafts-preserved c =
    ap (map (λ (acts : Vec Act Global). map model_act acts.items)) c.in_ok-push.ensures.items
    ∙ push_same (λ (acts : Vec Act Global). map model_act acts.items)
    (λ (form : Vec Draft Global). filter_map (act_of c.args.entities.now) form.items) c.loop-drafts.list.items c.loop-drafts.yielded
    c.in_ok-acts_of.field-0 c.in-Some.drafts c.in_ok-acts_of.ensures c.loop-drafts.invariant
