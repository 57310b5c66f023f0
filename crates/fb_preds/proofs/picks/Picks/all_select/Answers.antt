use Rattle.std.proofs.Common.{◌<◌, List, ℕ, length, arith, subst, sym}
use Rattle.std.specs.Prelude.{slice_index_or}
use Rattle.fb_preds.specs.Naming.{IsFound}
use Rattle.fb_preds.proofs.Naming.{AreFound-at}
use Rattle.fb_preds.proofs.picks.Picks.all_select.Goals as goal

pub select-requires : goal.select-requires
select-requires g c =
    let table = c.args.self.now.table.now in
    let k = c.loop-place.place-index in
    let places = c.deref-place-items.ensures.value in
    subst (λ (places : List ℕ). IsFound (g.T.FilterTable.place_of table) (g.T.FilterTable.name_at table) (slice_index_or places k 0))
    (sym places)
    (AreFound-at (g.T.FilterTable.place_of table) (g.T.FilterTable.name_at table) c.args.self.now.places.items k 0 c.args.self.now.are_found
    (subst (λ (places : List ℕ). k < length places) places (omega arith)))
