use Rattle.std.proofs.Common.{◌<◌, length, map, subst, arith}
use Rattle.std.specs.Prelude.{All}
use Rattle.std.specs.Arc.{arc_value}
use Rattle.std.proofs.lemmas.List.{take_all}
use Rattle.seg_tree.specs.Nodes.{DirectoryNode}
use Rattle.seg_tree.proofs.Making.{all_more}
use Rattle.seg_store.specs.Counts.{HasFewLeaves}
use Rattle.seg_store.proofs.counts.know_directories.Goals as goal

pub loop-directory-preserved : goal.loop-directory-preserved
loop-directory-preserved c =
    all_more HasFewLeaves arc_value c.args.directories.now c.loop-directory.directory-index c.directory-item.result
    c.loop-directory-test.true
    c.directory-item.is c.loop-directory.invariant (
      subst (λ (d : DirectoryNode). 0 < length d.leaves) c.deref.ensures c.leaves.ensures.some,
      subst (λ (d : DirectoryNode). length d.leaves < 513) c.deref.ensures (omega (arith, c.leaves.ensures.few)),
    )

pub returns : goal.returns
returns c =
    subst (λ l. All HasFewLeaves (map arc_value l)) (take_all c.loop-directory.directory-index c.args.directories.now
    c.loop-directory-test.false)
    c.loop-directory.invariant
