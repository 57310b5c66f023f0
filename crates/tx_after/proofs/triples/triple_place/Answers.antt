use Rattle.std.proofs.Common.{◌+◌, ◌-◌, ◌/◌, ◌∙◌, ap, sym, arith}
use Rattle.fb_values.specs.declared.indexes.Order.TheVariants.{Eavt}
use Rattle.tx_after.specs.Places.{is_lower}
use Rattle.tx_after.proofs.Orders.{apart_at_t}
use Rattle.tx_after.proofs.Telling.{place_behind, place_upto, place-le-length}
use Rattle.tx_after.proofs.triples.triple_place.Goals as goal

pub loop-from-init : goal.loop-from-init
loop-from-init c = record {
  ends = omega arith;
  within = omega arith;
  behind = omega arith;
  upto = place-le-length c.args.e c.args.a c.args.v.now c.args.changes.now;
}

pub loop-from-preserved-then-is_lower : goal.loop-from-preserved-then-is_lower
loop-from-preserved-then-is_lower c =
    let at = c.index-changes-middle in
    let middle = c.loop-from.from + (c.loop-from.to - c.loop-from.from) / 2 in
    let rise = apart_at_t Eavt c.requires.t c.args.changes.now c.requires.rising c.requires.of_t in
    record {
      ends = omega arith;
      within = omega arith;
      behind = omega (
        arith,
        place_behind c.args.e c.args.a c.args.v.now c.args.changes.now middle at.result rise (omega arith)
            (ap (is_lower c.args.e c.args.a c.args.v.now) (sym at.is) ∙ sym c.is_lower.ensures ∙ c.if-is_lower.true),
      );
      upto = omega arith;
    }

pub loop-from-preserved : goal.loop-from-preserved
loop-from-preserved c =
    let at = c.index-changes-middle in
    let middle = c.loop-from.from + (c.loop-from.to - c.loop-from.from) / 2 in
    record {
      ends = omega arith;
      within = omega arith;
      behind = omega arith;
      upto =
          place_upto c.args.e c.args.a c.args.v.now c.args.changes.now middle at.result (omega arith)
          (ap (is_lower c.args.e c.args.a c.args.v.now) (sym at.is) ∙ sym c.is_lower.ensures ∙ c.if-is_lower.false);
    }
