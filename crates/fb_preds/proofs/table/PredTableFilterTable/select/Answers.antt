use Rattle.fb_preds.specs.Table.{name_at}
use Rattle.fb_preds.proofs.Naming.{last_place-name}
use Rattle.fb_preds.proofs.table.PredTableFilterTable.select.Goals as goal

pub test-requires : goal.test-requires
test-requires g c =
    (last_place-name (name_at c.args.self.now.filters.items c.args.place) c.args.self.now.filters.items c.args.place c.requires).1
