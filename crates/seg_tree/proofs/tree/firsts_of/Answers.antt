use Rattle.std.proofs.Common.{◌≡◌, ◌+◌, ◌<◌, ◌++◌, ◌∷◌, [], List, map, take, length, subst, sym, ap, ◌∙◌, arith}
use Rattle.std.specs.Arc.{arc_value}
use Rattle.fb_values.specs.declared.facts.Datom.{Datom}
use Rattle.seg_tree.specs.Chunks.{BeginsWith, AreFirsts}
use Rattle.seg_tree.specs.Nodes.{DirectoryNode, leaf_datoms, StartsFull}
use Rattle.seg_tree.proofs.Making.{firsts_more, all_more}
use Rattle.seg_tree.proofs.tree.firsts_of.Goals as goal

pub loop-directory-preserved : goal.loop-directory-preserved
loop-directory-preserved c =
    let items = c.args.directories.now.items in
    let k = c.loop-directory.directory-index in
    let directory = c.directory-item.result in
    let there : k < length c.deref-directory-items.result.now = omega arith in
    let within = rw c.deref-directory-items.ensures.value at there in
    let is = rw c.deref-directory-items.ensures.value at c.directory-item.is in
    let begins : BeginsWith (leaf_datoms (arc_value directory).leaves) c.first.result.now =
    subst (λ (d : DirectoryNode). BeginsWith (leaf_datoms d.leaves) c.first.result.now) c.deref.ensures c.first.ensures.begins in
    let starts : StartsFull (arc_value directory) = subst StartsFull c.deref.ensures c.first.ensures.starts in
    let more =
    firsts_more arc_value (λ (d : DirectoryNode). leaf_datoms d.leaves) items k directory c.loop-directory.firsts.items c.first.result.now
    within is c.loop-directory.invariant.firsts begins in
    let pushed : c.push.new.self.items ≡ c.loop-directory.firsts.items ++ c.first.result.now ∷ [] =
    c.in_ok-push.ensures.items ∙ ap (λ (d : Datom). c.loop-directory.firsts.items ++ d ∷ []) c.in_ok-copy.ensures in
    record {
      firsts =
          subst (λ (hs : List Datom). AreFirsts hs (map (λ (d : DirectoryNode). leaf_datoms d.leaves) (map arc_value (take (k + 1) items))))
          (sym pushed) more;
      starts = all_more StartsFull arc_value items k directory within is c.loop-directory.invariant.starts starts;
    }
