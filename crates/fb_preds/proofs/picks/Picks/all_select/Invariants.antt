use Rattle.std.proofs.Common.{drop}
use Rattle.std.specs.Prelude.{◌↔◌}
use Rattle.fb_preds.specs.Selecting.{SelectedByAll}
use Rattle.fb_preds.proofs.picks.Picks.all_select.Given as goal

abbrev pub invariant-loop-place : goal.invariant-loop-place
invariant-loop-place g l =
    let Selects = g.T.FilterTable.selects_at l.self.table.now in
    SelectedByAll Selects (drop l.place-index l.self.places.items) l.d ↔ SelectedByAll Selects l.self.places.items l.d
