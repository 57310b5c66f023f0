use Rattle.std.proofs.Common.{arith}
use Rattle.seg_store.proofs.Counting.{counted_writable}
use Rattle.seg_store.proofs.counts.check_counts.Goals as goal

pub returns : goal.returns
returns c =
    counted_writable c.args.roots.now c.in_ok-eavt.eavt c.in_ok-aevt.aevt c.in_ok-avet.avet c.in_ok-vaet.vaet
    c.in_ok-eavt.ensures c.in_ok-aevt.ensures c.in_ok-avet.ensures c.in_ok-vaet.ensures
    (omega (arith, c.next_id.ensures.next, c.next_id.ensures.small)) c.requires
    (omega (arith, c.if-leaves-gt-MOST.false, c.sum-leaves.ensures))
    (omega (arith, c.if-directories-gt-MOST.false, c.sum-directories.ensures))
