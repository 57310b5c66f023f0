use Rattle.std.proofs.Common.{[], inr, refl, ◌∙◌, subst}
use Rattle.fb_journal.specs.Readings.{IsFirstFault}
use Rattle.fb_journal.specs.declared.starts.StartFault.{StartFault}
use Rattle.disk_model.specs.Disk.{IfKnown}
use Rattle.disk_model.specs.Journal.{segments_mark, JournalBreaks}
use Rattle.seg_store.proofs.newest.not_opened.Goals as goal

pub returns-in-BadLog-clause-opened : goal.returns-in-BadLog-clause-opened
returns-in-BadLog-clause-opened g c = λ told why same file was.
    let breaks : IfKnown told (λ f. JournalBreaks segments_mark [] f c.in-BadLog.nth c.in-BadLog.at) =
    subst (λ (fault : StartFault). IsFirstFault segments_mark told [] fault) c.in-BadLog.is why in
    (file, same c.in-BadLog.nth c.in-BadLog.at c.in-BadLog.is ∙ was, inr ((breaks file was).0, refl))
