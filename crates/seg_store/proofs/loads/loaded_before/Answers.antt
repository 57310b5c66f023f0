use Rattle.std.proofs.Common.{Vec, List, [], inr, refl, sym, subst, rules}
use Rattle.std.specs.declared.alloc.Global.{Global}
use Rattle.std.proofs.lemmas.Result.{IfOk-weaker}
use Rattle.fb_journal.specs.Readings.{IsFirstFault}
use Rattle.disk_model.specs.Disk.{IfKnown}
use Rattle.disk_model.specs.Journal.{segments_mark, JournalBreaks}
use Rattle.fb_journal.specs.declared.starts.StartFault.{StartFault}
use Rattle.seg_store.specs.declared.loads.KeptTrees.{KeptTrees}
use Rattle.seg_store.specs.Loads.{AreKept}
use Rattle.seg_store.proofs.Loading.{loaded_anew}
use Rattle.seg_store.proofs.loads.loaded_before.Goals as goal

none_kept : AreKept [] []
none_kept = record { roots = refl; there = search rules }

pub returns-in-BadLog-clause-loaded : goal.returns-in-BadLog-clause-loaded
returns-in-BadLog-clause-loaded g c =
    let d = g.D.Disk in
    IfOk-weaker c.anew.result _ _
    (λ loaded is. λ told why.
    let breaks : IfKnown told (λ file. JournalBreaks segments_mark [] file c.in-BadLog.nth c.in-BadLog.at) =
    subst (λ (fault : StartFault). IsFirstFault segments_mark told [] fault) c.in-BadLog.is why in
    loaded_anew d.bytes d.images told [] loaded
    (λ file was. inr (c.in-BadLog.nth, c.in-BadLog.at, breaks file was))
    (subst (λ (kept : Vec KeptTrees Global). AreKept [] kept.items) (sym is.1)
    (subst (λ (items : List KeptTrees). AreKept [] items) (sym c.new.ensures.items) none_kept))
    (λ file was. inr (c.in-BadLog.nth, c.in-BadLog.at, breaks file was)) is.0)
    c.anew.ensures.anew
