use Rattle.std.proofs.Common.{◌+◌, ◌-◌, ◌/◌, sym, ◌∙◌, arith, rules, w64}
use mir.Val.{SFits}
use Rattle.std.proofs.lemmas.Int.{to_z-of_z}
use Rattle.fb_names.proofs.RisingInstants.{early_is_counted, late_is_not_counted, counted_are_entries}
use Rattle.fb_names.proofs.instants.count_early.Goals as goal

pub loop-from-init : goal.loop-from-init
loop-from-init c =
    record {
      ends = omega arith;
      within = omega arith;
      behind = omega arith;
      upto = omega (arith, counted_are_entries c.args.early c.args.entries.now);
    }

pub loop-from-preserved-then-has : goal.loop-from-preserved-then-has
loop-from-preserved-then-has c =
    let fits : SFits w64 c.at.result.now.instant = search rules in
    let told = simp to_z-of_z at c.has.ensures in
    let counted =
    early_is_counted c.args.early c.args.entries.now
    (c.loop-from.from + (c.loop-from.to - c.loop-from.from) / 2) c.at.result.now c.requires c.at.ensures (sym told ∙ c.if-has.true) in
    record {
      ends = omega arith;
      within = omega arith;
      behind = omega (arith, counted);
      upto = omega arith;
    }

pub loop-from-preserved : goal.loop-from-preserved
loop-from-preserved c =
    let fits : SFits w64 c.at.result.now.instant = search rules in
    let told = simp to_z-of_z at c.has.ensures in
    let counted =
    late_is_not_counted c.args.early c.args.entries.now
    (c.loop-from.from + (c.loop-from.to - c.loop-from.from) / 2) c.at.result.now c.requires c.at.ensures (sym told ∙ c.if-has.false) in
    record {
      ends = omega arith;
      within = omega arith;
      behind = omega arith;
      upto = omega (arith, counted);
    }
