use Rattle.std.proofs.Common.{◌∙◌, ap, max, min, length}
use Rattle.fb_scan.specs.Logs.{part}
use Rattle.fb_scan.proofs.Log.{part-transactions}
use Rattle.fb_scan.proofs.txs.tx_range.Goals as goal

pub returns : goal.returns
returns c =
    ap (λ from. part c.entries-entries.result.now from c.min.result) c.max.ensures
    ∙ ap (part c.entries-entries.result.now (max c.args.from 1)) (c.min.ensures ∙ ap (min c.args.to) c.len.ensures)
    ∙ ap (λ h. part h (max c.args.from 1) (min c.args.to (length h))) c.entries-entries.ensures.entries
    ∙ part-transactions c.args.snapshot.now.entries c.args.from c.args.to c.entries-entries.ensures.stands.history.lawful
