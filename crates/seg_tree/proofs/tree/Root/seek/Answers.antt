use Rattle.std.proofs.Common.{◌+◌, ◌-◌, ◌<◌, ◌^◌, ◌∙◌, sym, ap, arith, length, take, List}
use Rattle.std.specs.List.{All}
use Rattle.fb_values.specs.declared.facts.Datom.{Datom}
use Rattle.fb_search.specs.Places.{place_of}
use Rattle.fb_search.proofs.Below.{place_of-le-length}
use Rattle.seg_tree.specs.Nodes.{LeafNode, DirectoryNode, tree_datoms}
use Rattle.seg_tree.proofs.Pieces.{firsts_length}
use Rattle.seg_tree.proofs.Seeks.{rising_firsts, place_of-none}
use Rattle.seg_tree.proofs.InLeaves.{is_there, all_read}
use Rattle.seg_tree.proofs.InTrees.{parts, length-parts, rank_first, seek_directory, rising_part, root_of}
use Rattle.seg_tree.proofs.tree.Root.seek.Goals as goal

pub lower_bound-behind-requires : goal.lower_bound-behind-requires
lower_bound-behind-requires g c =
    let root = root_of c.self.view_is c.self.invariant in
    rw c.deref.ensures.value
    (rising_firsts c.args.probe.now.order c.self.inside.firsts.items (parts c.args.self.now) root.firsts_are c.requires)

pub returns-then-behind-eq0-clause-place : goal.returns-then-behind-eq0-clause-place
returns-then-behind-eq0-clause-place g c =
    let root = root_of c.self.view_is c.self.invariant in
    let found = c.lower_bound-behind.ensures.value ∙ ap (λ (ds : List Datom). place_of c.args.probe.now ds) c.deref.ensures.value in
    rank_first c.self.inside.firsts.items c.args.self.now root
    ∙ sym
    (place_of-none c.args.probe.now c.self.inside.firsts.items (parts c.args.self.now) root.firsts_are (sym found ∙ c.if-behind-eq0.true))

pub returns-then-behind-eq0-clause-cost : goal.returns-then-behind-eq0-clause-cost
returns-then-behind-eq0-clause-cost g c = λ d l k small.
    let root = root_of c.self.view_is c.self.invariant in
    let n = firsts_length c.self.inside.firsts.items (parts c.args.self.now) root.firsts_are in
    let within : length c.deref.result.now < 2 ^ d =
    rw c.deref.ensures.value (omega (arith, n, length-parts c.args.self.now, small.directories)) in
    omega (arith, c.lower_bound-behind.ensures.cost d within)

pub seek-leaf-requires : goal.seek-leaf-requires
seek-leaf-requires g c =
    rising_part c.args.probe.now c.args.self.now (c.lower_bound-behind.result - 1) c.in-Some.directory.now c.requires
    (sym c.in-Some.ensures)

pub settled-requires-clause-there : goal.settled-requires-clause-there
settled-requires-clause-there g c = sym c.in-Some.ensures

pub returns-clause-place : goal.returns-clause-place
returns-clause-place g c =
    let root = root_of c.self.view_is c.self.invariant in
    let found = c.lower_bound-behind.ensures.value ∙ ap (λ (ds : List Datom). place_of c.args.probe.now ds) c.deref.ensures.value in
    c.settled.ensures
    ∙ ap (λ n. length (tree_datoms (take (c.lower_bound-behind.result - 1) c.args.self.now)) + n) c.seek-leaf.ensures.place
    ∙ sym (seek_directory c.args.probe.now c.self.inside.firsts.items c.args.self.now c.lower_bound-behind.result c.in-Some.directory.now
    root c.requires found (omega (arith, c.if-behind-eq0.false)) (sym c.in-Some.ensures))

pub returns-clause-cost : goal.returns-clause-cost
returns-clause-cost g c = λ d l k small.
    let root = root_of c.self.view_is c.self.invariant in
    let n = firsts_length c.self.inside.firsts.items (parts c.args.self.now) root.firsts_are in
    let within : length c.deref.result.now < 2 ^ d =
    rw c.deref.ensures.value (omega (arith, n, length-parts c.args.self.now, small.directories)) in
    let read = sym c.in-Some.ensures in
    let leaves =
    all_read (λ (x : DirectoryNode). length x.leaves < 2 ^ l) c.args.self.now
    (c.lower_bound-behind.result - 1) c.in-Some.directory.now small.leaves read in
    let datoms =
    all_read (λ (x : DirectoryNode). All (λ (leaf : LeafNode). length leaf.datoms < 2 ^ k) x.leaves) c.args.self.now
    (c.lower_bound-behind.result - 1) c.in-Some.directory.now small.datoms read in
    omega (arith, c.lower_bound-behind.ensures.cost d within, c.seek-leaf.ensures.cost l k leaves datoms)

pub unreachable-requires : goal.unreachable-requires
unreachable-requires g c =
    let root = root_of c.self.view_is c.self.invariant in
    let n = firsts_length c.self.inside.firsts.items (parts c.args.self.now) root.firsts_are in
    let le = place_of-le-length c.args.probe.now c.self.inside.firsts.items in
    let found = c.lower_bound-behind.ensures.value ∙ ap (λ (ds : List Datom). place_of c.args.probe.now ds) c.deref.ensures.value in
    is_there c.args.self.now (c.lower_bound-behind.result - 1)
    (omega (arith, n, le, found, c.if-behind-eq0.false, length-parts c.args.self.now)) c.in-None.ensures
