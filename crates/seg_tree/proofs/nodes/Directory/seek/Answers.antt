use Rattle.std.proofs.Common.{◌≡◌, ◌+◌, ◌-◌, ◌<◌, ◌≤◌, ◌^◌, ◌∙◌, sym, ap, arith, length, take, List}
use Rattle.fb_values.specs.declared.facts.Datom.{Datom}
use Rattle.fb_search.specs.Places.{place_of}
use Rattle.fb_search.proofs.Below.{place_of-le-length}
use Rattle.seg_tree.specs.Chunks.{joined}
use Rattle.seg_tree.specs.Nodes.{LeafNode}
use Rattle.seg_tree.specs.Ranks.{leaf_rank}
use Rattle.seg_tree.proofs.Pieces.{firsts_length, chunk_rank-first}
use Rattle.seg_tree.proofs.Seeks.{rising_firsts, place_of-none}
use Rattle.seg_tree.proofs.InLeaves.{pieces, length-pieces, rank_inside, rank_within, rank_over, inside_start, seek_leaf, rising_leaf}
use Rattle.seg_tree.proofs.InLeaves.{firsts_of, is_there, all_read, full}
use Rattle.seg_tree.proofs.nodes.Directory.seek.Goals as goal

pub lower_bound-behind-requires : goal.lower_bound-behind-requires
lower_bound-behind-requires g c =
    let h = firsts_of c.self.inside.firsts.items c.self.view_is c.self.invariant.firsts_are in
    rw c.deref.ensures.value (rising_firsts c.args.probe.now.order c.self.inside.firsts.items (pieces c.args.self.now.leaves) h c.requires)

pub returns-then-behind-eq0-clause-place : goal.returns-then-behind-eq0-clause-place
returns-then-behind-eq0-clause-place g c =
    let h = firsts_of c.self.inside.firsts.items c.self.view_is c.self.invariant.firsts_are in
    let found = c.lower_bound-behind.ensures.value ∙ ap (λ (ds : List Datom). place_of c.args.probe.now ds) c.deref.ensures.value in
    chunk_rank-first c.self.inside.firsts.items (pieces c.args.self.now.leaves) h
    ∙ sym (place_of-none c.args.probe.now c.self.inside.firsts.items (pieces c.args.self.now.leaves) h (sym found ∙ c.if-behind-eq0.true))

pub returns-then-behind-eq0-clause-inside : goal.returns-then-behind-eq0-clause-inside
returns-then-behind-eq0-clause-inside g c =
    inside_start c.self.inside.firsts.items c.args.self.now.leaves 0
    (firsts_of c.self.inside.firsts.items c.self.view_is c.self.invariant.firsts_are)

pub returns-then-behind-eq0-clause-cost : goal.returns-then-behind-eq0-clause-cost
returns-then-behind-eq0-clause-cost g c = λ l k few short.
    let h = firsts_of c.self.inside.firsts.items c.self.view_is c.self.invariant.firsts_are in
    let n = firsts_length c.self.inside.firsts.items (pieces c.args.self.now.leaves) h in
    let within : length c.deref.result.now < 2 ^ l =
    rw c.deref.ensures.value (omega (arith, n, length-pieces c.args.self.now.leaves, few)) in
    omega (arith, c.lower_bound-behind.ensures.cost l within)

pub lower_bound-datom-requires : goal.lower_bound-datom-requires
lower_bound-datom-requires g c =
    rw c.datoms.ensures.datoms (rising_leaf c.args.probe.now c.args.self.now.leaves
    (c.lower_bound-behind.result - 1) c.in-Some.leaf.now c.requires (sym c.in-Some.ensures))

pub returns-then-datom-datoms-clause-place : goal.returns-then-datom-datoms-clause-place
returns-then-datom-datoms-clause-place g c =
    let h = firsts_of c.self.inside.firsts.items c.self.view_is c.self.invariant.firsts_are in
    let p = c.args.probe.now in
    let leaves = c.args.self.now.leaves in
    let leaf = c.in-Some.leaf.now in
    let behind = c.lower_bound-behind.result in
    let read = sym c.in-Some.ensures in
    let found = c.lower_bound-behind.ensures.value ∙ ap (λ (ds : List Datom). place_of p ds) c.deref.ensures.value in
    let at = c.lower_bound-datom.ensures.value ∙ ap (λ (ds : List Datom). place_of p ds) c.datoms.ensures.datoms in
    let within : c.lower_bound-datom.result < length leaf.datoms = rw (← c.datoms-in-Some.ensures.datoms) c.if-datom-datoms.true in
    let some : 0 < behind = omega (arith, c.if-behind-eq0.false) in
    rank_inside leaves (behind - 1) c.lower_bound-datom.result leaf read within
    ∙ ap (λ n. length (joined (take (behind - 1) (pieces leaves))) + n) at
    ∙ sym (seek_leaf p c.self.inside.firsts.items leaves behind leaf h c.requires found some read)

pub returns-then-datom-datoms-clause-inside : goal.returns-then-datom-datoms-clause-inside
returns-then-datom-datoms-clause-inside g c = λ there.
    let within : c.lower_bound-datom.result < length c.in-Some.leaf.now.datoms =
    rw (← c.datoms-in-Some.ensures.datoms) c.if-datom-datoms.true in
    rank_within c.args.self.now.leaves (c.lower_bound-behind.result - 1) c.lower_bound-datom.result c.in-Some.leaf.now
    (sym c.in-Some.ensures) within

pub returns-then-datom-datoms-clause-cost : goal.returns-then-datom-datoms-clause-cost
returns-then-datom-datoms-clause-cost g c = λ l k few short.
    let h = firsts_of c.self.inside.firsts.items c.self.view_is c.self.invariant.firsts_are in
    let n = firsts_length c.self.inside.firsts.items (pieces c.args.self.now.leaves) h in
    let within : length c.deref.result.now < 2 ^ l =
    rw c.deref.ensures.value (omega (arith, n, length-pieces c.args.self.now.leaves, few)) in
    let small =
    all_read (λ (leaf : LeafNode). length leaf.datoms < 2 ^ k) c.args.self.now.leaves
    (c.lower_bound-behind.result - 1) c.in-Some.leaf.now short (sym c.in-Some.ensures) in
    let inside : length c.datoms.result.now < 2 ^ k = rw c.datoms.ensures.datoms small in
    omega (arith, c.lower_bound-behind.ensures.cost l within, c.lower_bound-datom.ensures.cost k inside)

pub returns-else-datom-datoms-clause-place : goal.returns-else-datom-datoms-clause-place
returns-else-datom-datoms-clause-place g c =
    let h = firsts_of c.self.inside.firsts.items c.self.view_is c.self.invariant.firsts_are in
    let p = c.args.probe.now in
    let leaves = c.args.self.now.leaves in
    let leaf = c.in-Some.leaf.now in
    let behind = c.lower_bound-behind.result in
    let read = sym c.in-Some.ensures in
    let found = c.lower_bound-behind.ensures.value ∙ ap (λ (ds : List Datom). place_of p ds) c.deref.ensures.value in
    let at = c.lower_bound-datom.ensures.value ∙ ap (λ (ds : List Datom). place_of p ds) c.datoms.ensures.datoms in
    let past : length leaf.datoms ≤ c.lower_bound-datom.result = rw (← c.datoms-in-Some.ensures.datoms) c.if-datom-datoms.false in
    let some : 0 < behind = omega (arith, c.if-behind-eq0.false) in
    let same : behind ≡ (behind - 1) + 1 = omega arith in
    ap (λ b. leaf_rank leaves b 0) same
    ∙ rank_over c.self.inside.firsts.items leaves (behind - 1) leaf h read
    ∙ ap (λ n. length (joined (take (behind - 1) (pieces leaves))) + n) (sym (full p leaf.datoms c.lower_bound-datom.result at past))
    ∙ sym (seek_leaf p c.self.inside.firsts.items leaves behind leaf h c.requires found some read)

pub returns-else-datom-datoms-clause-inside : goal.returns-else-datom-datoms-clause-inside
returns-else-datom-datoms-clause-inside g c =
    inside_start c.self.inside.firsts.items c.args.self.now.leaves c.lower_bound-behind.result
    (firsts_of c.self.inside.firsts.items c.self.view_is c.self.invariant.firsts_are)

pub returns-else-datom-datoms-clause-cost : goal.returns-else-datom-datoms-clause-cost
returns-else-datom-datoms-clause-cost g c = λ l k few short.
    let h = firsts_of c.self.inside.firsts.items c.self.view_is c.self.invariant.firsts_are in
    let n = firsts_length c.self.inside.firsts.items (pieces c.args.self.now.leaves) h in
    let within : length c.deref.result.now < 2 ^ l =
    rw c.deref.ensures.value (omega (arith, n, length-pieces c.args.self.now.leaves, few)) in
    let small =
    all_read (λ (leaf : LeafNode). length leaf.datoms < 2 ^ k) c.args.self.now.leaves
    (c.lower_bound-behind.result - 1) c.in-Some.leaf.now short (sym c.in-Some.ensures) in
    let inside : length c.datoms.result.now < 2 ^ k = rw c.datoms.ensures.datoms small in
    omega (arith, c.lower_bound-behind.ensures.cost l within, c.lower_bound-datom.ensures.cost k inside)

pub unreachable-requires : goal.unreachable-requires
unreachable-requires g c =
    let h = firsts_of c.self.inside.firsts.items c.self.view_is c.self.invariant.firsts_are in
    let n = firsts_length c.self.inside.firsts.items (pieces c.args.self.now.leaves) h in
    let le = place_of-le-length c.args.probe.now c.self.inside.firsts.items in
    let found = c.lower_bound-behind.ensures.value ∙ ap (λ (ds : List Datom). place_of c.args.probe.now ds) c.deref.ensures.value in
    is_there c.args.self.now.leaves (c.lower_bound-behind.result - 1)
    (omega (arith, n, le, found, c.if-behind-eq0.false, length-pieces c.args.self.now.leaves)) c.in-None.ensures
