use Rattle.std.proofs.Common.{◌≡◌, ◌<◌, ◌++◌, ◌∷◌, [], List, map, subst, sym, ap, ◌∙◌}
use Rattle.std.specs.Prelude.{IfOk}
use Rattle.std.specs.Arc.{arc_value}
use Rattle.std.proofs.lemmas.List.{map-append}
use Rattle.seg_tree.specs.Nodes.{LeafNode}
use Rattle.seg_tree.specs.Built.{Build, build_of, IsGrowing}
use Rattle.seg_tree.proofs.Growing.{growing_kept, build_kept}
use Rattle.seg_tree.proofs.build.Builder.keep.Goals as goal

pub settled-requires-clause-growing : goal.settled-requires-clause-growing
settled-requires-clause-growing c =
    let b = c.self.inside in
    let ds = map arc_value b.directories.items in
    let ls = map arc_value b.leaves.items in
    let leaf = arc_value c.args.leaf in
    let pushed : map arc_value c.push.new.self.items ≡ ls ++ leaf ∷ [] =
    ap (map arc_value) c.in_ok-push.ensures.items ∙ map-append arc_value b.leaves.items (c.args.leaf ∷ []) in
    let below : leaf.id < b.first = subst (λ (s : Build). leaf.id < s.first) (sym c.self.view_is) c.requires in
    subst (λ (all : List LeafNode). IsGrowing b.first b.next ds all) (sym pushed)
    (growing_kept b.first b.next ds ls leaf below c.self.invariant.0)

pub returns : goal.returns
returns c =
    let b = c.self.inside in
    let ds = map arc_value b.directories.items in
    let ls = map arc_value b.leaves.items in
    let leaf = arc_value c.args.leaf in
    let pushed : map arc_value c.push.new.self.items ≡ ls ++ leaf ∷ [] =
    ap (map arc_value) c.in_ok-push.ensures.items ∙ map-append arc_value b.leaves.items (c.args.leaf ∷ []) in
    let below : leaf.id < b.first = subst (λ (s : Build). leaf.id < s.first) (sym c.self.view_is) c.requires in
    let same =
    ap (λ (all : List LeafNode). build_of b.first ds all) pushed
    ∙ build_kept b.first ds ls leaf below
    ∙ ap (λ (s : Build). record s { datoms = s.datoms ++ leaf.datoms; kept = s.kept ++ leaf ∷ [] }) c.self.view_is in
    subst (λ (s : Build). IfOk c.settled.result (λ build. build ≡ s)) same c.settled.ensures
