use Rattle.std.proofs.Common.{[], List, subst}
use Rattle.std.proofs.lemmas.Result.{IfOk-weaker}
use Rattle.fb_values.specs.declared.facts.Datom.{Datom}
use Rattle.fb_values.specs.Lists.{list_in}
use Rattle.live_index.specs.Growth.{IsGrown}
use Rattle.fb_view.proofs.Alone.{none_held, single_alone}
use Rattle.fb_view.proofs.sorting.index_of.Goals as goal

pub made_anew-requires-clause-held : goal.made_anew-requires-clause-held
made_anew-requires-clause-held c =
    λ order. none_held c.args.covers.now order (list_in c.empty-empty.result order) (c.empty-empty.ensures order)

pub made_anew-requires-clause-single : goal.made_anew-requires-clause-single
made_anew-requires-clause-single c =
    λ order. single_alone (list_in c.empty-empty.result order) [] c.args.datoms.now (c.empty-empty.ensures order) c.requires

pub returns : goal.returns
returns c =
    IfOk-weaker c.made_anew.result _ _
    (λ live grown order.
    subst (λ (old : List Datom). IsGrown order c.args.covers.now old [] c.args.datoms.now (list_in live order))
    (c.empty-empty.ensures order) (grown order))
    c.made_anew.ensures
