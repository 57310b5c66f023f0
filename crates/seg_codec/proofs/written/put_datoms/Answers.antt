use Rattle.std.proofs.Common.{◌++◌, length}
use Rattle.log_model.specs.Fields.{u32_bytes}
use Rattle.log_model.specs.Nodes.{dated_bytes}
use Rattle.seg_codec.proofs.Rows.{written_more}
use Rattle.seg_codec.proofs.written.put_datoms.Goals as goal

pub loop-datom-preserved : goal.loop-datom-preserved
loop-datom-preserved c =
    written_more dated_bytes c.args.datoms.now c.loop-datom.datom-index c.datom-item.result
    (c.args.out.now.items ++ u32_bytes (length c.args.datoms.now)) c.loop-datom.out.items c.put_dated.new.out.items
    c.loop-datom-test.true c.datom-item.is c.loop-datom.invariant c.in_ok-put_dated.ensures
