use Rattle.std.proofs.Common.{pos}
use Rattle.edn_form.specs.View.{form_of}
use Rattle.test_engine.specs.Guards.{empty_text_bar}
use Rattle.test_engine.proofs.engine.transact.Goals as goal

pub record-requires : goal.record-requires
record-requires c =
    c.an_accepted_entry_is_lawful.ensures c.args.snapshot.now.entries (form_of c.args.data.now)
    (λ before changes. empty_text_bar c.args.guard.now.bars changes) (pos 1704067200000)
    c.in-Ok.accepted.entry c.in-Ok.accepted.tempids.items c.schema.ensures.stands.history.lawful c.in-Ok.ensures.accepted
