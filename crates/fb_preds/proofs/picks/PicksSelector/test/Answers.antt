use Rattle.fb_preds.proofs.Naming.{selected_by_names}
use Rattle.fb_preds.proofs.picks.PicksSelector.test.Goals as goal

pub returns : goal.returns
returns g c =
    let picks = c.args.self.now in
    let table = picks.table.now in
    selected_by_names (g.T.FilterTable.place_of table) (g.T.FilterTable.name_at table)
    (g.T.FilterTable.selects_at table) picks.places.items c.args.d.now _ picks.are_found c.all_select.ensures
