use Rattle.std.proofs.Common.{◌+◌, ◌-◌, ◌/◌, ◌≡◌, true, false, arith}
use Rattle.fb_search.specs.Places.{is_below}
use Rattle.fb_search.proofs.Below.{place_of-le-length, place_behind, place_upto, half_digits}
use Rattle.fb_search.proofs.Own.{as_many, held_at}
use Rattle.fb_search.proofs.search.lower_bound.Goals as goal

pub loop-from-init : goal.loop-from-init
loop-from-init g c =
    let ds = g.H.HoldsDatom.datoms c.args.holders.now in
    let long = as_many g.H.HoldsDatom.held ds c.args.holders.now (g.met.H.HoldsDatom.one_each c.args.holders.now) in
    record {
      ends = omega arith;
      within = omega arith;
      behind = omega arith;
      upto = omega (arith, place_of-le-length c.args.probe.now ds, long);
      left = λ digits within. (digits, omega arith, omega arith);
    }

pub loop-from-preserved-then-is_below : goal.loop-from-preserved-then-is_below
loop-from-preserved-then-is_below g c =
    let at = c.index-holders-middle in
    let held = g.H.HoldsDatom.held in
    let ds = g.H.HoldsDatom.datoms c.args.holders.now in
    let each = g.met.H.HoldsDatom.one_each c.args.holders.now in
    let long = as_many held ds c.args.holders.now each in
    let here : is_below c.args.probe.now (held at.result) ≡ true = cc in
    let below = held_at held c.args.probe.now ds c.args.holders.now _ at.result true each at.is here in
    record {
      ends = omega arith;
      within = omega arith;
      behind = omega (arith, place_behind c.args.probe.now ds _ (held at.result) c.requires (omega (arith, long)) below);
      upto = omega arith;
      left = λ digits within.
          let before = c.loop-from.invariant.left digits within in
          let half =
          half_digits _ (c.loop-from.to - (c.loop-from.from + (c.loop-from.to - c.loop-from.from) / 2 + 1)) before.0 (omega arith) before.1
          (omega arith) in
          (half.0, half.1, omega arith);
    }

pub loop-from-preserved : goal.loop-from-preserved
loop-from-preserved g c =
    let at = c.index-holders-middle in
    let held = g.H.HoldsDatom.held in
    let ds = g.H.HoldsDatom.datoms c.args.holders.now in
    let each = g.met.H.HoldsDatom.one_each c.args.holders.now in
    let long = as_many held ds c.args.holders.now each in
    let here : is_below c.args.probe.now (held at.result) ≡ false = cc in
    let above = held_at held c.args.probe.now ds c.args.holders.now _ at.result false each at.is here in
    record {
      ends = omega arith;
      within = omega arith;
      behind = omega arith;
      upto = place_upto c.args.probe.now ds _ (held at.result) (omega (arith, long)) above;
      left = λ digits within.
          let before = c.loop-from.invariant.left digits within in
          let half =
          half_digits _ (c.loop-from.from + (c.loop-from.to - c.loop-from.from) / 2 - c.loop-from.from) before.0 (omega arith) before.1
          (omega arith) in
          (half.0, half.1, omega arith);
    }
