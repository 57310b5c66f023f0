use Rattle.std.proofs.Common.{◌≡◌, false, map, subst, ◌∙◌}
use Rattle.std.specs.Arc.{arc_value}
use Rattle.log_model.specs.Nodes.{Directory, Nodes, is_among}
use Rattle.seg_tree.specs.Nodes.{DirectoryNode}
use Rattle.seg_codec.specs.InFile.{IsDirectoryOf}
use Rattle.seg_codec.proofs.InNodes.{directory_among, directory_at}
use Rattle.seg_codec.proofs.nodes.Nodes.directory.Goals as goal

pub returns-in-None-clause-none : goal.returns-in-None-clause-none
returns-in-None-clause-none c =
    let n = c.self.inside in
    subst (λ (nodes : Nodes). is_among (map (λ (d : Directory). d.id) nodes.directories) c.args.id ≡ false) c.self.view_is
    (directory_among (map arc_value n.leaves.items)
    (map arc_value n.directories.items) n.leaf_ids n.directory_ids c.self.invariant c.args.id ∙ c.in-None.ensures.none)

pub returns-in-Some-clause-some : goal.returns-in-Some-clause-some
returns-in-Some-clause-some c =
    let n = c.self.inside in
    let found = c.in-Some.ensures.some in
    subst (λ (nodes : Nodes). IsDirectoryOf nodes c.args.id (arc_value {X = DirectoryNode} c.index.result.now)) c.self.view_is
    (directory_at arc_value n.directories.items c.in-Some.place c.index.result.now
    (map arc_value n.leaves.items) n.leaf_ids n.directory_ids c.self.invariant
    c.len.ensures.distinct c.len-2.ensures.distinct c.len-2.ensures.small c.args.id found.0 found.1 c.index.ensures)
