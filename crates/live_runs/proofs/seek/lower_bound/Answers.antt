use Rattle.std.proofs.Common.{◌+◌, ◌-◌, ◌/◌, ◌≡◌, true, false, refl, arith}
use Rattle.std.proofs.lemmas.List.{length-map}
use Rattle.fb_search.specs.Places.{is_below}
use Rattle.fb_search.proofs.Below.{place_of-le-length, place_behind, place_upto, half_digits}
use Rattle.fb_search.proofs.Own.{held_at}
use Rattle.live_runs.specs.Members.{datom_by, held_by}
use Rattle.live_runs.proofs.seek.lower_bound.Goals as goal

pub loop-from-init : goal.loop-from-init
loop-from-init g c =
    let held = datom_by g.N.Numbered.member_of c.args.table.now in
    let ds = held_by g.N.Numbered.member_of c.args.table.now c.args.others.now in
    record {
      ends = omega arith;
      within = omega arith;
      behind = omega arith;
      upto = omega (arith, place_of-le-length c.args.aim.now ds, length-map c.args.others.now held);
      left = λ digits within. (digits, omega arith, omega arith);
    }

pub loop-from-preserved-then-is_above : goal.loop-from-preserved-then-is_above
loop-from-preserved-then-is_above g c =
    let at = c.index-others-middle in
    let held = datom_by g.N.Numbered.member_of c.args.table.now in
    let p = c.args.aim.now in
    let ds = held_by g.N.Numbered.member_of c.args.table.now c.args.others.now in
    let long = length-map c.args.others.now held in
    let here : is_below p (held at.result) ≡ true = cc in
    let below = held_at held p ds c.args.others.now _ at.result true refl at.is here in
    record {
      ends = omega arith;
      within = omega arith;
      behind = omega (arith, place_behind p ds _ (held at.result) c.requires.rising (omega (arith, long)) below);
      upto = omega arith;
      left = λ digits within.
          let before = c.loop-from.invariant.left digits within in
          let half =
          half_digits _ (c.loop-from.to - (c.loop-from.from + (c.loop-from.to - c.loop-from.from) / 2 + 1)) before.0 (omega arith) before.1
          (omega arith) in
          (half.0, half.1, omega arith);
    }

pub loop-from-preserved : goal.loop-from-preserved
loop-from-preserved g c =
    let at = c.index-others-middle in
    let held = datom_by g.N.Numbered.member_of c.args.table.now in
    let p = c.args.aim.now in
    let ds = held_by g.N.Numbered.member_of c.args.table.now c.args.others.now in
    let long = length-map c.args.others.now held in
    let here : is_below p (held at.result) ≡ false = cc in
    let above = held_at held p ds c.args.others.now _ at.result false refl at.is here in
    record {
      ends = omega arith;
      within = omega arith;
      behind = omega arith;
      upto = place_upto p ds _ (held at.result) (omega (arith, long)) above;
      left = λ digits within.
          let before = c.loop-from.invariant.left digits within in
          let half =
          half_digits _ (c.loop-from.from + (c.loop-from.to - c.loop-from.from) / 2 - c.loop-from.from) before.0 (omega arith) before.1
          (omega arith) in
          (half.0, half.1, omega arith);
    }
