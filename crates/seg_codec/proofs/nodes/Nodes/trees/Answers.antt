use Rattle.seg_codec.specs.Answers.{ids_of}
use Rattle.seg_codec.proofs.Passing.{known_eavt, known_aevt, known_avet, known_vaet, four_distinct, trees_found}
use Rattle.seg_codec.proofs.nodes.Nodes.trees.Goals as goal

pub tree_of-requires : goal.tree_of-requires
tree_of-requires c = known_eavt c.args.self.now (ids_of c.args.roots.now) c.requires

pub tree_of-requires-2 : goal.tree_of-requires-2
tree_of-requires-2 c = known_aevt c.args.self.now (ids_of c.args.roots.now) c.requires

pub tree_of-requires-3 : goal.tree_of-requires-3
tree_of-requires-3 c = known_avet c.args.self.now (ids_of c.args.roots.now) c.requires

pub tree_of-requires-4 : goal.tree_of-requires-4
tree_of-requires-4 c = known_vaet c.args.self.now (ids_of c.args.roots.now) c.requires

pub invariant_of-result : goal.invariant_of-result
invariant_of-result c = record {
  distinct = four_distinct c.args.self.now
      (ids_of c.args.roots.now) c.requires c.in_ok-eavt.eavt c.in_ok-aevt.aevt c.in_ok-avet.avet c.in_ok-vaet.vaet
      c.in_ok-eavt.ensures c.in_ok-aevt.ensures c.in_ok-avet.ensures c.in_ok-vaet.ensures;
}

pub returns : goal.returns
returns c = trees_found c.args.self.now
    (ids_of c.args.roots.now) _ c.in_ok-eavt.ensures c.in_ok-aevt.ensures c.in_ok-avet.ensures c.in_ok-vaet.ensures
