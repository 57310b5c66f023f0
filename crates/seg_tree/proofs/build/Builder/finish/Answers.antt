use Rattle.std.proofs.Common.{◌≡◌, [], List, map, subst, sym, ◌∙◌}
use Rattle.std.specs.Arc.{arc_value}
use Rattle.seg_tree.specs.Nodes.{DirectoryNode}
use Rattle.seg_tree.specs.Built.{Build, build_of, IsBuilt}
use Rattle.seg_tree.proofs.Growing.{is_built}
use Rattle.seg_tree.proofs.build.Builder.finish.Goals as goal

pub returns : goal.returns
returns c =
    let whole = c.in_ok-whole.whole in
    let ds = map arc_value whole.directories.items in
    let built = is_built c.self.inside.first whole.next ds c.in_ok-whole.ensures.growing in
    let same : build_of c.self.inside.first ds [] ≡ c.args.self = c.in_ok-whole.ensures.same ∙ c.self.view_is in
    let at = subst (λ (b : Build). IsBuilt b ds whole.next) same built in
    subst (λ (tree : List DirectoryNode). IsBuilt c.args.self tree whole.next) (sym c.in_ok-tree.ensures) at
