use Rattle.std.proofs.Common.{refl}
use Rattle.fb_journal.proofs.GoingOver.{behind_front, reads-none, passed}
use Rattle.fb_journal.proofs.readings.Reading.pass.Goals as goal

pub returns-clause-passed : goal.returns-clause-passed
returns-clause-passed g c =
    let d = g.D.Disk in
    let old = c.args.self.now in
    let next = c.args.next in
    let front = c.args.front.now in (
      behind_front (d.bytes old.disk) next.place.at next.len front,
      λ mark disk records has begins.
          passed d.bytes d.images d.moment d.images_since mark disk records old next front c.requires begins has _
          (reads-none d.bytes d.images d.moment d.images_since old.disk old.window (g.met.D.Disk.only_now old.disk)) refl
          g.met.D.Disk.counts_now refl refl,
    )
