use Rattle.std.proofs.Common.{pos}
use Rattle.edn_form.specs.View.{form_of}
use Rattle.tx_model.specs.Step.{no_guard}
use Rattle.bench.proofs.deciding.with_form.Goals as goal

pub with_entry-requires : goal.with_entry-requires
with_entry-requires c =
    c.an_accepted_entry_is_lawful.ensures c.args.snapshot.now.entries (form_of c.args.form.now) no_guard
    (pos 1704067200000) c.in-Ok.accepted.entry c.in-Ok.accepted.tempids.items
    c.schema.ensures.stands.history.lawful c.in-Ok.ensures.accepted
