use Rattle.std.proofs.Common.{◌∙◌, ◌<◌, sym, arith}
use Rattle.fb_scan.proofs.Log.{part_next}
use Rattle.fb_scan.proofs.txs.Txs.next.Goals as goal

pub returns : goal.returns
returns c =
    let before : c.self.inside.from < c.self.inside.to = omega arith in
    sym c.self.view_is
    ∙ part_next c.self.inside.entries.now c.self.inside.from c.self.inside.to c.at-entry.result.now before c.at-entry.ensures
