use Rattle.std.proofs.Common.{◌≡◌, ◌+◌, ◌<◌, ◌++◌, ◌∷◌, [], List, map, take, length, subst, sym, ap, ◌∙◌, arith}
use Rattle.std.specs.Arc.{arc_value}
use Rattle.fb_values.specs.declared.facts.Datom.{Datom}
use Rattle.seg_tree.specs.Chunks.{BeginsWith, AreFirsts}
use Rattle.seg_tree.specs.Nodes.{LeafNode}
use Rattle.seg_tree.proofs.Making.{firsts_more}
use Rattle.seg_tree.proofs.nodes.firsts_of.Goals as goal

pub loop-leaf-preserved : goal.loop-leaf-preserved
loop-leaf-preserved c =
    let items = c.args.leaves.now.items in
    let k = c.loop-leaf.leaf-index in
    let leaf = c.leaf-item.result in
    let there : k < length c.deref-leaf-items.result.now = omega arith in
    let within = rw c.deref-leaf-items.ensures.value at there in
    let is = rw c.deref-leaf-items.ensures.value at c.leaf-item.is in
    let begins : BeginsWith (arc_value leaf).datoms c.first.result.now =
    subst (λ (l : LeafNode). BeginsWith l.datoms c.first.result.now) c.deref.ensures c.first.ensures in
    let more =
    firsts_more arc_value
    (λ (l : LeafNode). l.datoms) items k leaf c.loop-leaf.firsts.items c.first.result.now within is c.loop-leaf.invariant begins in
    let pushed : c.push.new.self.items ≡ c.loop-leaf.firsts.items ++ c.first.result.now ∷ [] =
    c.in_ok-push.ensures.items ∙ ap (λ (d : Datom). c.loop-leaf.firsts.items ++ d ∷ []) c.in_ok-copy.ensures in
    subst (λ (hs : List Datom). AreFirsts hs (map (λ (l : LeafNode). l.datoms) (map arc_value (take (k + 1) items)))) (sym pushed) more
