use Rattle.fb_preds.proofs.Naming.{found_named}
use Rattle.fb_preds.proofs.table.PredTableFilterTable.place.Goals as goal

pub returns-clause-name : goal.returns-clause-name
returns-clause-name g c = found_named c.args.name.now c.args.self.now.filters.items c.find.result c.find.ensures.last
