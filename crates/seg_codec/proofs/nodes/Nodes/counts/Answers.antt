use Rattle.std.proofs.Common.{map, subst}
use Rattle.std.specs.Arc.{arc_value}
use Rattle.log_model.specs.Nodes.{Nodes, ids_in}
use Rattle.seg_codec.specs.InFile.{AreWhole}
use Rattle.seg_codec.proofs.Among.{AreOnce}
use Rattle.seg_codec.proofs.InNodes.{nodes_once, nodes_whole}
use Rattle.seg_codec.proofs.nodes.Nodes.counts.Goals as goal

pub returns-clause-distinct : goal.returns-clause-distinct
returns-clause-distinct c =
    subst (λ (n : Nodes). AreOnce (ids_in n)) c.self.view_is
    (nodes_once (map arc_value c.self.inside.leaves.items)
    (map arc_value c.self.inside.directories.items) c.self.inside.leaf_ids c.self.inside.directory_ids c.self.invariant
    c.len.ensures.distinct c.len-2.ensures.distinct)

pub returns-clause-whole : goal.returns-clause-whole
returns-clause-whole c =
    subst AreWhole c.self.view_is (nodes_whole (map arc_value c.self.inside.leaves.items)
    (map arc_value c.self.inside.directories.items) c.self.inside.leaf_ids c.self.inside.directory_ids c.self.invariant)
