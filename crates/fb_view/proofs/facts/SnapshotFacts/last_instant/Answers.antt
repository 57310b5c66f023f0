use Rattle.std.proofs.Common.{◌≡◌, ◌-◌, ◌∙◌, ap, length, rules, Some, sym}
use Rattle.std.specs.List.{slice_get}
use Rattle.fb_model.specs.History.{last_instant}
use Rattle.fb_view.proofs.Lists.{last_instant_is}
use Rattle.fb_view.proofs.facts.SnapshotFacts.last_instant.Goals as goal

pub returns : goal.returns
returns c =
    let read : slice_get c.entries-entries.result.now (length c.entries-entries.result.now - 1) ≡ Some c.at.result.now =
    ap (λ n. slice_get c.entries-entries.result.now (n - 1)) (sym c.len.ensures) ∙ c.at.ensures in
    let is : last_instant c.args.self.now.entries ≡ c.at.result.now.instant =
    ap last_instant (sym c.entries-entries.ensures.entries) ∙ last_instant_is c.entries-entries.result.now c.at.result.now read in
    rw is (search rules)
