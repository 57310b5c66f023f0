use Rattle.std.proofs.Common.{◌≡◌}
use Rattle.board_rule.specs.Calls.{view_of}
use Rattle.fb_conn.specs.Seats.{IsWorkerOf}
use Rattle.fb_roots.specs.declared.bases.Base.{Base}
use Rattle.fb_roots.specs.Bases.{IsBaseOf}
use Rattle.merge_worker.specs.Work.{IsOldOrKept, AreAhead, AreOldOrKept, start_of, IsSameWorker}
use Rattle.merge_worker.proofs.working.work.Given as goal

abbrev pub invariant-loop : goal.invariant-loop
invariant-loop g l = record {
  can_next : (goal.iterator-loop g).can_next l.iterator';
  is_finite : (goal.iterator-loop g).is_finite l.iterator';
  seat : IsWorkerOf l.conn l.seat;
  same : IsSameWorker (view_of l.initial.seat.board) (view_of l.seat.board);
  base : IsBaseOf l.base l.seat.last.entries (view_of l.seat.board).covered;
  ahead : AreAhead l.ahead l.seat.last.entries;
  fits : g.T.RootStore.fits l.store (start_of l.base l.ahead).roots;
  goes : (begun : _) → g.T.RootStore.goes begun l.initial.store → g.T.RootStore.goes begun l.store;
  faults : g.T.RootStore.faults l.store ≡ g.T.RootStore.faults l.initial.store;
  kept : (begun : _) → g.T.RootStore.goes begun l.initial.store
      → IsOldOrKept (g.T.RootStore.keeps begun) l.initial.base l.store l.base;
  stays : (begun : _) (older : Base) → g.T.RootStore.goes begun l.initial.store
      → g.T.RootStore.keeps begun older l.initial.store → g.T.RootStore.keeps begun older l.store;
  ahead_kept : (begun : _) → g.T.RootStore.goes begun l.initial.store
      → AreOldOrKept (g.T.RootStore.keeps begun) l.initial.ahead l.store l.ahead;
}
