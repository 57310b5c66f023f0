use Rattle.std.proofs.Common.{length, ap, sym, subst, arith}
use Rattle.edn_token.specs.Gaps.{Blanks, no_blanks}
use Rattle.edn_token.proofs.Gaps.{skip_more, skip_line, skip_ends, skip_broken, skip_short, run_short}
use Rattle.edn_token.proofs.gap.skip_blanks.Goals as goal

pub returns-in_default : goal.returns-in_default
returns-in_default c =
    skip_ends c.args.here.now _
    (skip_more c.args.here.now _ _ _ c.loop-line.invariant c.split_blank.ensures) c.split_blank.ensures.stops c.in_default.ensures

pub returns-in-Err : goal.returns-in-Err
returns-in-Err c =
    skip_broken c.args.here.now _ c.in-Some.line.now c.in-Err.at
    (skip_more c.args.here.now _ _ _ c.loop-line.invariant c.split_blank.ensures) c.in-Some.ensures c.in-Err.ensures

pub loop-line-preserved : goal.loop-line-preserved
loop-line-preserved c =
    subst (Blanks c.args.here.now) (sym c.split_at.ensures.back) (skip_line c.args.here.now _ _ _
    (skip_more c.args.here.now _ _ _ c.loop-line.invariant c.split_blank.ensures) c.in-Some.ensures c.in-Ok.ensures.1)

pub loop-line-smaller : goal.loop-line-smaller
loop-line-smaller c =
    omega (arith, c.split_at.ensures.back_len, ap length c.in-Some.ensures, run_short _ _ _ c.split_blank.ensures)

pub loop-line-init : goal.loop-line-init
loop-line-init c = no_blanks

pub overflow_sub-result : goal.overflow_sub-result
overflow_sub-result c = skip_short c.args.here.now _ (skip_more c.args.here.now _ _ _ c.loop-line.invariant c.split_blank.ensures)

pub overflow_sub-result-in-Err : goal.overflow_sub-result-in-Err
overflow_sub-result-in-Err c =
    omega (
      arith,
      ap length c.in-Some.ensures,
      skip_short c.args.here.now _ (skip_more c.args.here.now _ _ _ c.loop-line.invariant c.split_blank.ensures),
    )
