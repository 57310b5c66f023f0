use Rattle.std.proofs.Common.{refl, ap, sym, subst, ◌∙◌, map, List}
use Rattle.fb_values.specs.declared.facts.Entry.{Entry}
use Rattle.fb_model.specs.Lawful.{IsLawful}
use Rattle.command_line.specs.Views.{names_in}
use Rattle.disk_log.specs.Logs.{disk_in, count_in}
use Rattle.fb_view.specs.SnapshotModel.{SnapshotModel}
use Rattle.fb_core.specs.declared.shared.CoreParts.{CoreParts}
use Rattle.fb_conn.specs.Seats.{begun_of}
use Rattle.fb_run.specs.Outside.{disks_of}
use Rattle.seg_store.specs.Stores.{disk_in as segments_in}
use Rattle.fb_run.specs.Merging.{TreesStand, LeavesTrees}
use Rattle.fb_run.specs.Running.{LeavesLog}
use Rattle.fb_run.proofs.Causing.{says_same}
use Rattle.fb_run.proofs.Running.{closes_of, torn_at, leaves_log}
use Rattle.fb_run.proofs.Settling.{stand_later, leaves_trees}
use Rattle.fb_run.proofs.ending.closed.Goals as goal

pub settled-end-requires-clause-stand : goal.settled-end-requires-clause-stand
settled-end-requires-clause-stand g c κs within =
    let closed = c.close-core in
    let longer = closed.ensures.last in
    let last = c.args.worker.seat.last in
    let lawful = subst (λ (k : SnapshotModel). IsLawful k.entries) c.last.ensures c.basis-basis.ensures.stands.history.lawful in
    subst (λ n. TreesStand c.args.worker.trees closed.result.core.snapshot.entries n) (sym closed.ensures.covered)
    (stand_later c.args.worker.trees last.entries closed.result.core.snapshot.entries longer.0 _ lawful
    closed.ensures.stands.snapshot.history.lawful longer.1 c.requires.can_work.1)

pub returns-clause-closes : goal.returns-clause-closes
returns-clause-closes g c =
    let whole = c.into_parts-snapshot.ensures in let settled = c.settled-end.ensures in
    closes_of _ _ c.close-core.result.core c.into_parts-snapshot.result _ _ c.close-core.result.stopped
    (ap (λ (p : CoreParts). p.snapshot.entries) whole ∙ settled.entries) (ap (λ (p : CoreParts). p.authors) whole ∙ settled.authors) refl
    refl c.requires.worker.1
    (torn_at (disks_of g.D.Disk.bytes g.D.Disk.faults g.D.Disk.images g.D.Disk.moment g.D.Disk.images_since) (begun_of c.args.conn)
    c.close-core.result.log c.close-core.result.core.snapshot.entries c.close-core.result.stopped c.close-core.result.torn
    c.close-core.ensures.stands.snapshot.history.lawful c.close-core.ensures.log) c.close-core.ensures.teller c.close-core.ensures.stands
    c.close-core.ensures.each_t
    c.close-core.ensures.by_sessions c.close-core.ensures.taken

pub returns-clause-log : goal.returns-clause-log
returns-clause-log g c =
    let disks = disks_of g.D.Disk.bytes g.D.Disk.faults g.D.Disk.images g.D.Disk.moment g.D.Disk.images_since in
    let begun = begun_of c.args.conn in
    let closed = c.close-core.result in
    let same = ap (λ (p : CoreParts). p.snapshot.entries) c.into_parts-snapshot.ensures ∙ c.settled-end.ensures.entries in
    let left = leaves_log disks begun closed.log c.into_disk.result c.into_disk.ensures.kept c.into_disk.ensures.broke
    closed.core.snapshot.entries closed.stopped closed.torn c.close-core.ensures.log in
    record {
      log = c.into_disk.result;
      log_is = refl;
      left = subst (λ (h : List Entry). LeavesLog disks (count_in begun) (disk_in begun) h closed.torn c.into_disk.result) (sym same) left;
    }

pub returns-clause-ends : goal.returns-clause-ends
returns-clause-ends g c = λ begun none merged.
    let disks = disks_of g.D.Disk.bytes g.D.Disk.faults g.D.Disk.images g.D.Disk.moment g.D.Disk.images_since in
    let at = c.args.command.now.options.merge_at in
    let core = c.settled-end.new.core in
    let left = leaves_trees disks at begun c.settled-end.new.trees c.settled-end.result core.snapshot
    (c.settled-end.ensures.settled begun none merged) c.settled-end.ensures.stand in
    let end = c.without_session.ensures.said in
    record {
      end = c.settled-end.result;
      says = says_same _ _ _ _ _ _ c.settled-end.result _ _ _ _ (ap names_in c.as_slice.ensures.value)
          (ap (map (λ s. s.end)) c.as_slice-2.ensures.value) c.stop_in.ensures end.0 end.1 c.said-status.ensures;
      last = c.into_parts-snapshot.result.snapshot;
      last_is = refl;
      segments = c.give_back.result;
      segments_is = refl;
      trees = subst (λ d. LeavesTrees disks at begun c.settled-end.result c.into_parts-snapshot.result.snapshot d) (sym c.give_back.ensures)
          (subst (λ (p : CoreParts). LeavesTrees disks at begun c.settled-end.result p.snapshot (segments_in c.settled-end.new.trees.store))
          (sym c.into_parts-snapshot.ensures) left);
    }
