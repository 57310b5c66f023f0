use Rattle.std.proofs.Common.{List, ap, subst, sym}
use Rattle.std.specs.Prelude.{IsTrue}
use Rattle.std.proofs.lemmas.Result.{IfOk-weaker}
use Rattle.std.proofs.lemmas.List.Elements.{All-nil}
use Rattle.fb_values.specs.declared.facts.Datom.{Datom}
use Rattle.live_index.specs.Growth.{is_held}
use Rattle.seg_tree.specs.Nodes.{tree_datoms}
use Rattle.seg_merge.specs.Merged.{AreHeld}
use Rattle.seg_merge.proofs.Samples.{none_rising}
use Rattle.bench.specs.Rising.{TreesAreHeld, TreesRise}
use Rattle.bench.proofs.segments.trees.no_roots.Goals as goal

pub returns-clause-rise : goal.returns-clause-rise
unfolding TreesRise
returns-clause-rise c =
    IfOk-weaker c.empty.result _ _ (λ roots none order. none_rising order _ (ap tree_datoms (none order))) c.empty.ensures

pub returns-clause-held : goal.returns-clause-held
unfolding TreesAreHeld
returns-clause-held c =
    IfOk-weaker c.empty.result _ _
    (λ roots none coverage order. subst (λ (ds : List Datom). AreHeld coverage order ds) (sym (ap tree_datoms (none order)))
    (All-nil (λ d. IsTrue (is_held coverage order d))))
    c.empty.ensures
