use Rattle.std.proofs.Common.{◌+◌, ◌≤◌, ◌<◌, ◌∙◌, ℕ, sym, ap, length, take}
use Rattle.std.proofs.lemmas.Option.{slice_get_past, slice_get_within}
use Rattle.seg_tree.specs.Nodes.{tree_datoms}
use Rattle.seg_tree.specs.Ranks.{rank}
use Rattle.seg_tree.proofs.InLeaves.{rank_no_leaf}
use Rattle.seg_tree.proofs.InTrees.{rank_here, rank_over, root_of}
use Rattle.seg_tree.proofs.tree.Root.settled.Goals as goal

pub returns-then-leaf-len : goal.returns-then-leaf-len
returns-then-leaf-len c =
    let within : c.args.leaf < length c.args.directory.now.leaves = rw (← c.len.ensures) c.if-leaf-len.true in
    rank_here c.args.self.now c.args.at c.args.leaf c.args.datom c.args.directory.now c.requires.there (c.requires.inside within)

pub behind-requires : goal.behind-requires
behind-requires c = slice_get_within c.args.self.now c.args.at c.args.directory.now c.requires.there

pub returns-else-leaf-len : goal.returns-else-leaf-len
returns-else-leaf-len c =
    let past : length c.args.directory.now.leaves ≤ c.args.leaf = rw (← c.len.ensures) c.if-leaf-len.false in
    ap (λ (k : ℕ). rank c.args.self.now (record { directory = k; leaf = 0; datom = 0 })) c.behind.ensures
    ∙ rank_over c.self.inside.firsts.items c.args.self.now c.args.at c.args.directory.now
    (root_of c.self.view_is c.self.invariant) c.requires.there
    ∙ ap (λ n. length (tree_datoms (take c.args.at c.args.self.now)) + n)
    (sym (rank_no_leaf c.args.directory.now.leaves c.args.leaf c.args.datom (slice_get_past c.args.directory.now.leaves c.args.leaf past)))
