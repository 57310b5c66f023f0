use Rattle.std.below.core.specs.declared.int.i64.TheConstants.{MIN}
use Rattle.edn_form.specs.View.{form_of}
use Rattle.fb_core.proofs.supposing.supposed.Goals as goal

pub with_entry-requires : goal.with_entry-requires
with_entry-requires g c =
    let done = c.in_ok-accepted.accepted in
    c.an_accepted_entry_is_lawful.ensures c.args.before.now.entries (form_of c.args.asked.now) (g.G.Guard.bars c.args.guard.now) MIN
    done.entry done.tempids.items c.schema.ensures.stands.history.lawful c.in_ok-accepted.ensures.accepted

pub returns-clause-supposed : goal.returns-clause-supposed
returns-clause-supposed g c =
    let done = c.in_ok-accepted.accepted in (
      done.entry,
      c.in_ok-with_entry.ensures.entries,
      c.an_accepted_entry_is_lawful.ensures c.args.before.now.entries (form_of c.args.asked.now) (g.G.Guard.bars c.args.guard.now) MIN
          done.entry done.tempids.items c.schema.ensures.stands.history.lawful c.in_ok-accepted.ensures.accepted,
      (done.tempids.items, c.in_ok-accepted.ensures.accepted),
    )
