use Rattle.std.proofs.Common.{◌≡◌, ◌∙◌, length, arith}
use Rattle.seg_agree.proofs.Counting.{total_with, totals_more}
use Rattle.seg_agree.proofs.totals.totals_of.Goals as goal

pub loop-t-preserved : goal.loop-t-preserved
loop-t-preserved c =
    let total = total_with c.args.entries.now c.loop-t.t c.loop-t.total c.in_ok-total.total c.at-entry.result.now c.at-entry.ensures
    c.loop-t.invariant.total (omega (arith, c.in_ok-total.ensures, c.len.ensures)) in
    let more = totals_more c.args.entries.now c.loop-t.totals.items _ c.loop-t.t c.in_ok-total.total c.in_ok-push.ensures.items
    c.loop-t.invariant.long c.loop-t.invariant.each total in
    record { total = total; long = more.0; each = more.1 }

pub returns : goal.returns
returns c =
    let at_end : c.loop-t.t ≡ length c.args.entries.now = omega (arith, c.len-len.ensures) in
    record {
      long = c.loop-t.invariant.long ∙ at_end;
      each = λ t within. c.loop-t.invariant.each t (omega (arith, within, at_end));
    }
