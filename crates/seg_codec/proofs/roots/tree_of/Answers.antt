use Rattle.std.proofs.Common.{◌<◌, ◌≤◌, length, map, get_or, sym, ap, subst, arith}
use Rattle.std.specs.Prelude.{IsTrue}
use Rattle.std.specs.Arc.{arc_value}
use Rattle.log_model.specs.Nodes.{Directory, is_among}
use Rattle.seg_codec.specs.Answers.{AreFound}
use Rattle.seg_codec.proofs.Finding.{found_none, found_more, found_all}
use Rattle.seg_codec.proofs.roots.tree_of.Goals as goal

pub loop-id-init : goal.loop-id-init
loop-id-init c = found_none c.args.nodes.now (map arc_value c.in_ok-directories.directories.items)
    (ap (map arc_value) c.in_ok-directories.ensures.items)

pub add_found-requires : goal.add_found-requires
add_found-requires c =
    let there : c.loop-id.id-index < length c.deref-id-items.result.now = omega arith in
    let within = rw c.deref-id-items.ensures.value at there in
    subst (λ l. IsTrue (is_among (map (λ (d : Directory). d.id) c.args.nodes.now.directories) (get_or l c.loop-id.id-index 0)))
    (sym c.deref-id-items.ensures.value) (c.requires c.loop-id.id-index 0 within)

pub loop-id-preserved : goal.loop-id-preserved
loop-id-preserved c =
    let there : c.loop-id.id-index < length c.deref-id-items.result.now = omega arith in
    let within = rw c.deref-id-items.ensures.value at there in
    let one = c.in_ok-add_found.ensures in
    found_more c.args.nodes.now c.args.ids.now.items c.loop-id.id-index (map arc_value c.loop-id.directories.items)
    (map arc_value c.add_found.new.directories.items) _ one.0 within
    (ap (λ l. get_or l c.loop-id.id-index 0) c.deref-id-items.ensures.value) one.1 one.2 c.loop-id.invariant

pub returns : goal.returns
returns c =
    let past : length c.deref-id-items.result.now ≤ c.loop-id.id-index = omega arith in
    subst (AreFound c.args.nodes.now c.args.ids.now.items) (sym c.in_ok-tree.ensures)
    (found_all c.args.nodes.now c.args.ids.now.items c.loop-id.id-index (map arc_value c.loop-id.directories.items)
    (rw c.deref-id-items.ensures.value at past) c.loop-id.invariant)
