use Rattle.std.proofs.Common.{to_z, of_z, w64}
use Rattle.edn_form.specs.View.{form_of}
use Rattle.fb_with.proofs.GoingOn.{lawful_entry}
use Rattle.fb_with.proofs.steps.decided.Goals as goal

pub returns-clause-lawful : goal.returns-clause-lawful
returns-clause-lawful g c =
    lawful_entry c.decide.result c.args.snapshot.now.entries (form_of c.args.asked.now) (g.G.Guard.bars c.args.guard.now)
    (to_z w64 (of_z w64 c.args.now))
    c.an_accepted_entry_is_lawful.ensures c.schema.ensures.stands.history.lawful c.decide.ensures.accepted
