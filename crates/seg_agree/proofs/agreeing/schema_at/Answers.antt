use Rattle.seg_agree.proofs.Entries.{schema_with}
use Rattle.seg_agree.proofs.agreeing.schema_at.Goals as goal

pub loop-t-preserved : goal.loop-t-preserved
loop-t-preserved c =
    schema_with c.args.entries.now c.loop-t.t c.at-in-loop-t.result.now c.loop-t.schema c.in_ok-schema-2.schema c.at-in-loop-t.ensures
    c.in_ok-schema-2.ensures c.loop-t.invariant
