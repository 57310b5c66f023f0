use Rattle.std.proofs.Common.{inr, arith}
use Rattle.fb_run.proofs.loading.said_further.Goals as goal

pub returns-in-Some-clause-said : goal.returns-in-Some-clause-said
returns-in-Some-clause-said g c =
    inr (record {
      success = grind (arith, c.if-status-eq0.true);
      kept = c.in-Some.last;
      last_is = c.in-Some.is;
      sums_up = c.printed.ensures.sums_up;
    })
