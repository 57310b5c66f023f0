use Rattle.std.proofs.Common.{◌<◌, length, sym, subst, arith}
use Rattle.std.specs.Prelude.{Contains}
use Rattle.std.specs.Arc.{arc_value}
use Rattle.std.proofs.lemmas.List.Elements.{All-contains}
use Rattle.std.proofs.lemmas.Iterator.Adapters.{YieldsList-from_vec}
use Rattle.std.proofs.lemmas.Iterator.Consumers.{YieldsList-turn}
use Rattle.seg_tree.specs.Nodes.{LeafNode}
use Rattle.seg_tree.specs.Built.{Build}
use Rattle.seg_merge.specs.Plans.{Planned}
use Rattle.seg_merge.proofs.Pieces.{kept_contains}
use Rattle.seg_merge.proofs.plan.Plan.build.Goals as goal

pub keep-requires : goal.keep-requires
keep-requires c =
    let pieces = c.self.inside.pieces in
    let leaf = c.in-Kept.leaf in
    let gives = c.into_iter-piece-iterator.ensures.into_iter_gives in
    let yields = YieldsList-from_vec {s = c.into_iter-piece-iterator.result} pieces.items gives.0 (omega (arith, gives.1, pieces.ok.0)) in
    let turn =
    YieldsList-turn yields c.loop-piece.yielded _ c.loop-piece.yielded_by c.next.result c.next.new.self c.in-Some.piece c.in-Some.is
    c.next.ensures.steps in
    let there = kept_contains pieces.items c.in-Some.piece leaf (length c.loop-piece.yielded, turn.0, sym turn.1) c.in-Kept.is in
    let kept : Contains c.args.self.kept (arc_value leaf) =
    subst (λ (p : Planned). Contains p.kept (arc_value leaf)) c.self.view_is there in
    let less : (arc_value leaf).id < c.args.first =
    All-contains (λ (l : LeafNode). l.id < c.args.first) c.args.self.kept (arc_value leaf) c.requires.older kept in
    subst (λ (b : Build). (arc_value leaf).id < b.first) (sym c.loop-piece.invariant) less
