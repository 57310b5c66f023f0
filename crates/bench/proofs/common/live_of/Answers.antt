use Rattle.std.proofs.Common.{List, [], ◌++◌, sym, subst}
use Rattle.std.proofs.lemmas.Result.{IfOk-weaker}
use Rattle.fb_values.specs.declared.facts.Datom.{Datom}
use Rattle.fb_values.specs.Lists.{list_in}
use Rattle.live_index.specs.Samples.{AreSamples}
use Rattle.live_index.proofs.Samples.{none, both, no_twins, grown}
use Rattle.bench.specs.Rising.{LiveRises}
use Rattle.bench.proofs.common.live_of.Goals as goal

pub made_anew-requires-clause-single : goal.made_anew-requires-clause-single
made_anew-requires-clause-single c = λ order.
    let empty : List Datom = list_in c.empty.result order in
    no_twins (empty ++ [] ++ c.args.samples.now)
    (both (empty ++ []) c.args.samples.now (both empty [] (subst AreSamples (sym (c.empty.ensures order)) none) none) c.requires)

pub returns : goal.returns
unfolding LiveRises
returns c =
    IfOk-weaker c.made_anew-2.result _ _
    (λ live g order. (
      (g order).rising,
      grown order c.args.covers.now (list_in c.empty.result order) [] c.args.samples.now (list_in live order)
          (subst AreSamples (sym (c.empty.ensures order)) none) none c.requires (g order),
    ))
    c.made_anew-2.ensures
