use Rattle.std.proofs.Common.{◌≡◌, ◌-◌, ◌∙◌, ap, length, Some, sym}
use Rattle.std.specs.List.{slice_get}
use Rattle.fb_core.specs.Cores.{last_of}
use Rattle.fb_core.proofs.Histories.{last_of-is}
use Rattle.fb_core.proofs.accepting.Draft.entry.Goals as goal

pub returns : goal.returns
returns c =
    let read : slice_get c.entries-entries.result.now (length c.entries-entries.result.now - 1) ≡ Some c.at.result.now =
    ap (λ n. slice_get c.entries-entries.result.now (n - 1)) (sym c.len.ensures) ∙ c.at.ensures in
    sym (ap last_of (sym c.entries-entries.ensures.entries) ∙ last_of-is c.entries-entries.result.now c.at.result.now read)
