use Rattle.std.proofs.Common.{◌+◌, ◌-◌, ◌/◌, arith}
use Rattle.tx_after.proofs.Searching.{entities-rise, place_behind, place_upto, place_of-le-length}
use Rattle.tx_after.proofs.parts.place_of.Goals as goal

pub loop-from-init : goal.loop-from-init
loop-from-init c =
    record { ends = omega arith; within = omega arith; behind = omega arith; upto = place_of-le-length c.args.e c.args.changes.now }

pub loop-from-preserved-then-changes-middle : goal.loop-from-preserved-then-changes-middle
loop-from-preserved-then-changes-middle c =
    let at = c.index-changes-middle in
    let middle = c.loop-from.from + (c.loop-from.to - c.loop-from.from) / 2 in
    record {
      ends = omega arith;
      within = omega arith;
      behind = omega (
        arith,
        place_behind c.args.e c.args.changes.now middle at.result (entities-rise c.args.changes.now c.requires)
            (omega arith) c.if-changes-middle.true,
      );
      upto = omega arith;
    }

pub loop-from-preserved : goal.loop-from-preserved
loop-from-preserved c =
    let at = c.index-changes-middle in
    let middle = c.loop-from.from + (c.loop-from.to - c.loop-from.from) / 2 in
    record {
      ends = omega arith;
      within = omega arith;
      behind = omega arith;
      upto = place_upto c.args.e c.args.changes.now middle at.result (omega arith) c.if-changes-middle.false;
    }
