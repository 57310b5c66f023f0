use Rattle.std.proofs.Common.{refl, ◌∙◌, sym, arith}
use Rattle.edn_core.proofs.Stacks.{depth-tag, depth-deeper, room-is}
use Rattle.edn_core.proofs.construct.has_room.Goals as goal
use Rattle.edn_core.proofs.construct.has_room.Goals.{then-not-is_tag, else-not-is_tag}

pub loop-frame-init : goal.loop-frame-init
loop-frame-init c = record { is = refl; small = omega arith }

pub loop-frame-preserved : goal.loop-frame-preserved
loop-frame-preserved c =
    let fs = c.args.frames.now in
    let i = c.loop-frame.frame-index in
    let f = c.frame-item.result in
    let within = c.loop-frame-test.true in
    let so_far = c.loop-frame.invariant.is in
    let small = c.loop-frame.invariant.small in
    elim c.if-not-is_tag.branch [
      | then-not-is_tag w ↦
          let deeper = depth-deeper fs i f within c.frame-item.is (sym c.is_tag.ensures ∙ w.if-not-is_tag.true) in
          record { is = omega (arith, w.depth-is, deeper, so_far); small = omega (arith, w.depth-is, small) }
      | else-not-is_tag w ↦
          let same = depth-tag fs i f within c.frame-item.is (sym c.is_tag.ensures ∙ w.if-not-is_tag.false) in
          record { is = omega (arith, w.depth-is, same, so_far); small = omega (arith, w.depth-is, small) }
    ]

pub returns : goal.returns
returns c bytes =
    room-is bytes c.args.frames.now c.loop-frame.depth c.loop-frame.frame-index
    (omega (arith, c.loop-frame-test.false)) c.loop-frame.invariant.is
