use Rattle.std.proofs.Common.{to_z, of_z, w64}
use Rattle.edn_form.specs.View.{form_of}
use Rattle.fb_core.proofs.shared.Core.decide.Goals as goal

pub drafted-requires : goal.drafted-requires
drafted-requires g c =
    c.an_accepted_entry_is_lawful.ensures c.args.self.now.snapshot.entries (form_of c.args.asked.now) (g.G.Guard.bars c.args.guard.now)
    (to_z w64 (of_z w64 c.args.now))
    c.in_ok-accepted.accepted.entry c.in_ok-accepted.accepted.tempids.items
    c.accepted.ensures.stands.snapshot.history.lawful c.in_ok-accepted.ensures.accepted
