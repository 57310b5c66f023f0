use Rattle.std.proofs.Common.{[], ◌⊎◌, ◌∙◌, ◌<◌, ◌≤◌, ◌*◌, ◌^◌, length, sym, ap, subst}
use Rattle.std.proofs.lemmas.Result.{IfOk-weaker, IfErr-weaker, MatchResult-from_both}
use Rattle.disk_model.specs.Disk.{IfKnown, LeavesOnly}
use Rattle.log_model.specs.Log.{IsLogOf}
use Rattle.fb_journal.specs.Journals.{StaysKnown}
use Rattle.fb_journal.specs.Readings.{LeavesBegun}
use Rattle.disk_log.specs.Logs.{disk_in, count_in, KeepsHistory}
use Rattle.seg_tree.specs.Ids.{next_above}
use Rattle.seg_tree.specs.Indexes.{root_ids}
use Rattle.seg_store.specs.Stores.{disk_in as segments_in, next_in, node_count, StoreKeeps}
use Rattle.seg_store.specs.Trees.{root_of}
use Rattle.seg_store.specs.Keeping.{HasGreatNode, FitsStore}
use Rattle.fb_model.specs.History.{basis}
use Rattle.fb_recover.specs.Openings.{AreNumberedFromOne, AreOfFile, HasCoverage, AgreesWithNone, HasFault, HasRoot, HasRecordsOf, IsMostlyDead}
use Rattle.fb_recover.proofs.Joining.{log-counts, log-spares, behind-cause, behind-spares, behind-apart, log-stays}
use Rattle.fb_recover.proofs.reopening.reopen.Goals as goal

pub returns-in-Ok-clause-history : goal.returns-in-Ok-clause-history
returns-in-Ok-clause-history g c =
    IfOk-weaker c.opened_on.result _ _
    (λ o is. λ file told. subst (IsLogOf file) (sym is.joined.entries) (c.in-Ok.ensures.history file told))
    c.opened_on.ensures.opened

pub returns-in-Ok-clause-core : goal.returns-in-Ok-clause-core
returns-in-Ok-clause-core g c = IfOk-weaker c.opened_on.result _ _ (λ o is. is.joined.core) c.opened_on.ensures.opened

pub returns-in-Ok-clause-recovered : goal.returns-in-Ok-clause-recovered
returns-in-Ok-clause-recovered g c = IfOk-weaker c.opened_on.result _ _ (λ o is. is.joined.recovered) c.opened_on.ensures.opened

pub returns-in-Ok-clause-covered : goal.returns-in-Ok-clause-covered
returns-in-Ok-clause-covered g c = IfOk-weaker c.opened_on.result _ _ (λ o is. is.joined.covered) c.opened_on.ensures.opened

pub returns-in-Ok-clause-coverage : goal.returns-in-Ok-clause-coverage
returns-in-Ok-clause-coverage g c =
    IfOk-weaker c.opened_on.result _ _
    (λ o is. λ file told.
    let j = is.joined in
    subst (λ h. HasCoverage h o.covered file) (sym j.entries)
    (subst (λ n. HasCoverage c.in-Ok.logged.entries n file) (sym (j.covered ∙ j.c)) (is.is.coverage file told)))
    c.opened_on.ensures.opened

pub returns-in-Ok-clause-fits : goal.returns-in-Ok-clause-fits
returns-in-Ok-clause-fits g c =
    let d = g.D.Disk in
    IfOk-weaker c.opened_on.result _ _
    (λ o is.
    let j = is.joined in
    subst (λ store. FitsStore d.bytes d.images store o.core.snapshot.roots) (sym j.store)
    (subst (FitsStore d.bytes d.images is.based.store) (sym j.roots) is.is.fits))
    c.opened_on.ensures.opened

pub returns-in-Ok-clause-root : goal.returns-in-Ok-clause-root
returns-in-Ok-clause-root g c =
    let d = g.D.Disk in
    IfOk-weaker c.opened_on.result _ _
    (λ o is. λ file told.
    let j = is.joined in
    subst (λ h. HasFault file ⊎ AgreesWithNone h file ⊎ HasRoot d.bytes d.images o.store (root_of o.core.snapshot.roots o.covered))
    (sym j.entries)
    (subst (λ n. HasFault file ⊎ AgreesWithNone c.in-Ok.logged.entries file
    ⊎ HasRoot d.bytes d.images o.store (root_of o.core.snapshot.roots n)) (sym (j.covered ∙ j.c))
    (subst (λ roots. HasFault file ⊎ AgreesWithNone c.in-Ok.logged.entries file
    ⊎ HasRoot d.bytes d.images o.store (root_of roots is.based.trees.c)) (sym j.roots)
    (subst (λ store. HasFault file ⊎ AgreesWithNone c.in-Ok.logged.entries file
    ⊎ HasRoot d.bytes d.images store (root_of is.based.trees.roots is.based.trees.c)) (sym j.store) (is.is.root file told)))))
    c.opened_on.ensures.opened

pub returns-in-Ok-clause-below : goal.returns-in-Ok-clause-below
returns-in-Ok-clause-below g c =
    IfOk-weaker c.opened_on.result _ _
    (λ o is. λ file told.
    let j = is.joined in
    subst (λ h. HasFault file ⊎ AgreesWithNone h file ⊎ (next_above (root_ids o.core.snapshot.roots) ≤ next_in o.store)) (sym j.entries)
    (subst (λ roots. HasFault file ⊎ AgreesWithNone c.in-Ok.logged.entries file ⊎ (next_above (root_ids roots) ≤ next_in o.store))
    (sym j.roots)
    (subst (λ store. HasFault file ⊎ AgreesWithNone c.in-Ok.logged.entries file
    ⊎ (next_above (root_ids is.based.trees.roots) ≤ next_in store)) (sym j.store) (is.is.below file told))))
    c.opened_on.ensures.opened

pub returns-in-Ok-clause-room : goal.returns-in-Ok-clause-room
returns-in-Ok-clause-room g c =
    let d = g.D.Disk in
    IfOk-weaker c.opened_on.result _ _
    (λ o is.
    let j = is.joined in
    subst (λ store. (node_count store ≤ 2 * length (root_ids o.core.snapshot.roots))
    ⊎ IfKnown (d.bytes c.args.segments) (HasRecordsOf d.bytes d.images store)) (sym j.store)
    (subst (λ roots. (node_count is.based.store ≤ 2 * length (root_ids roots))
    ⊎ IfKnown (d.bytes c.args.segments) (HasRecordsOf d.bytes d.images is.based.store)) (sym j.roots) is.is.room))
    c.opened_on.ensures.opened

pub returns-in-Ok-clause-still : goal.returns-in-Ok-clause-still
returns-in-Ok-clause-still g c =
    let d = g.D.Disk in
    IfOk-weaker c.opened_on.result _ _
    (λ o is. λ file told.
    let j = is.joined in
    subst (λ h. HasFault file ⊎ AgreesWithNone h file ⊎ IsMostlyDead o.core.snapshot.roots file ⊎ HasRecordsOf d.bytes d.images o.store file)
    (sym j.entries)
    (subst (λ roots. HasFault file ⊎ AgreesWithNone c.in-Ok.logged.entries file ⊎ IsMostlyDead roots file
    ⊎ HasRecordsOf d.bytes d.images o.store file) (sym j.roots)
    (subst (λ store. HasFault file ⊎ AgreesWithNone c.in-Ok.logged.entries file ⊎ IsMostlyDead is.based.trees.roots file
    ⊎ HasRecordsOf d.bytes d.images store file) (sym j.store) (is.is.still file told))))
    c.opened_on.ensures.opened

pub returns-in-Ok-clause-ids : goal.returns-in-Ok-clause-ids
returns-in-Ok-clause-ids g c =
    IfOk-weaker c.opened_on.result _ _
    (λ o is. subst (λ roots. AreNumberedFromOne roots ⊎ AreOfFile (g.D.Disk.bytes c.args.segments) roots) (sym is.joined.roots) is.is.ids)
    c.opened_on.ensures.opened

pub returns-in-Ok-clause-great : goal.returns-in-Ok-clause-great
returns-in-Ok-clause-great g c =
    let d = g.D.Disk in
    IfOk-weaker c.opened_on.result _ _
    (λ o is. subst (λ roots. IfKnown (d.bytes c.args.segments) (λ file. 2 ^ 61 < next_above (root_ids roots) → HasGreatNode file))
    (sym is.joined.roots) is.is.great)
    c.opened_on.ensures.opened

pub returns-in-Ok-clause-anew : goal.returns-in-Ok-clause-anew
returns-in-Ok-clause-anew g c =
    let d = g.D.Disk in
    IfOk-weaker c.opened_on.result _ _
    (λ o is. λ file told none.
    let j = is.joined in
    let first = is.is.anew file told (subst (λ h. AgreesWithNone h file) j.entries none) in
    (subst AreNumberedFromOne (sym j.roots) first.0, subst (StoreKeeps d.bytes d.images []) (sym j.store) first.1))
    c.opened_on.ensures.opened

pub returns-in-Ok-clause-keeps : goal.returns-in-Ok-clause-keeps
returns-in-Ok-clause-keeps g c =
    let d = g.D.Disk in
    IfOk-weaker c.opened_on.result _ _
    (λ o is.
    let j = is.joined in
    subst (λ log. KeepsHistory d.bytes d.images d.faults d.moment d.images_since log o.core.snapshot.entries log) (sym j.log)
    (subst (λ h. KeepsHistory d.bytes d.images d.faults d.moment d.images_since c.in-Ok.logged.log h c.in-Ok.logged.log) (sym j.entries)
    c.in-Ok.ensures.keeps))
    c.opened_on.ensures.opened

pub returns-in-Ok-clause-count : goal.returns-in-Ok-clause-count
returns-in-Ok-clause-count g c =
    IfOk-weaker c.opened_on.result _ _
    (λ o is. let j = is.joined in
    ap count_in j.log ∙ c.in-Ok.ensures.count ∙ ap basis (sym j.entries) ∙ sym j.recovered)
    c.opened_on.ensures.opened

pub returns-in-Ok-clause-known : goal.returns-in-Ok-clause-known
returns-in-Ok-clause-known g c =
    IfOk-weaker c.opened_on.result _ _
    (λ o is. λ file told.
    let later = c.in-Ok.ensures.known file told in
    (later.0, ap (λ log. g.D.Disk.bytes (disk_in log)) is.joined.log ∙ later.1))
    c.opened_on.ensures.opened

pub returns-in-Ok-clause-segments_known : goal.returns-in-Ok-clause-segments_known
returns-in-Ok-clause-segments_known g c =
    let d = g.D.Disk in
    IfOk-weaker c.opened_on.result _ _
    (λ o is. subst (λ store. StaysKnown (d.bytes c.args.segments) (d.bytes (segments_in store))) (sym is.joined.store) is.is.stays)
    c.opened_on.ensures.opened

pub returns-in-Ok-clause-why_not : goal.returns-in-Ok-clause-why_not
returns-in-Ok-clause-why_not g c =
    IfErr-weaker c.opened_on.result _ _
    (λ s is. λ file told. behind-cause s.fault c.in-Ok.logged.entries file is.fault (c.in-Ok.ensures.history file told))
    c.opened_on.ensures.stopped

pub returns-in-Ok-clause-counted : goal.returns-in-Ok-clause-counted
returns-in-Ok-clause-counted g c =
    let d = g.D.Disk in
    MatchResult-from_both c.opened_on.result _ _
    (IfOk-weaker c.opened_on.result _ _ (λ o is. ap (λ log. d.faults (disk_in log)) is.joined.log ∙ c.in-Ok.ensures.counted)
    c.opened_on.ensures.opened)
    (IfErr-weaker c.opened_on.result _ _
    (λ s is. behind-spares s.fault (d.faults c.args.log) (d.faults s.log) is.fault (ap d.faults is.log ∙ c.in-Ok.ensures.counted))
    c.opened_on.ensures.stopped)

pub returns-in-Ok-clause-segments_counted : goal.returns-in-Ok-clause-segments_counted
returns-in-Ok-clause-segments_counted g c =
    MatchResult-from_both c.opened_on.result _ _
    (IfOk-weaker c.opened_on.result _ _ (λ o is. is.counted) c.opened_on.ensures.opened)
    (IfErr-weaker c.opened_on.result _ _ (λ s is. is.counted) c.opened_on.ensures.stopped)

pub returns-in-Ok-clause-untouched : goal.returns-in-Ok-clause-untouched
returns-in-Ok-clause-untouched g c =
    IfErr-weaker c.opened_on.result _ _ (λ s is. λ log. absurd (behind-apart s.fault is.fault log)) c.opened_on.ensures.stopped

pub returns-in-Ok-clause-any_moment : goal.returns-in-Ok-clause-any_moment
returns-in-Ok-clause-any_moment g c = λ file told.
    let d = g.D.Disk in
    subst (λ now. LeavesBegun d.bytes d.images d.moment d.images_since c.args.log now)
    (sym
    (log-stays d.bytes d.images d.faults c.in-Ok.logged c.args.segments c.opened_on.result c.opened_on.ensures.opened
    c.opened_on.ensures.stopped))
    (rw c.in-Ok.is at c.open_log.ensures.any_moment) file told

pub returns-in-Ok-clause-any_moment_stands : goal.returns-in-Ok-clause-any_moment_stands
returns-in-Ok-clause-any_moment_stands g c =
    let d = g.D.Disk in
    IfOk-weaker c.opened_on.result _ _
    (λ o is. λ file told.
    let j = is.joined in
    subst (λ log. LeavesOnly d.moment d.images_since c.args.log (disk_in log)
    (λ image. d.images c.args.log image ⊎ IsLogOf image o.core.snapshot.entries)) (sym j.log)
    (subst (λ h. LeavesOnly d.moment d.images_since c.args.log (disk_in c.in-Ok.logged.log)
    (λ image. d.images c.args.log image ⊎ IsLogOf image h)) (sym j.entries)
    (c.in-Ok.ensures.any_moment_stands file told)))
    c.opened_on.ensures.opened

pub returns-in-Err-clause-counted : goal.returns-in-Err-clause-counted
returns-in-Err-clause-counted g c = log-counts c.in-Err.field-0.fault _ _ c.in-Err.ensures.counted

pub returns-in-Err-clause-segments_counted : goal.returns-in-Err-clause-segments_counted
returns-in-Err-clause-segments_counted g c = log-spares c.in-Err.field-0.fault _ _ _ c.in-Err.ensures.counted
