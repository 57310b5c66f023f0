-- The rows of the entities so far.
use Rattle.std.proofs.Common.{◌≡◌, map, take}
use Rattle.std.specs.Prelude.{All}
use Rattle.fb_db.specs.Seen.{window_of}
use Rattle.tuple_model.specs.Seen.{AreMembers}
use Rattle.fb_tuples.specs.Lent.{tuple_lent}
use Rattle.fb_tuples.proofs.reach.rows_at.Given as goal

abbrev pub invariant-loop-e : goal.invariant-loop-e
invariant-loop-e g l = record {
  entities : map (λ row. row.e) l.rows.items ≡ take l.e-index l.fn.entities;
  members : All (λ row. AreMembers l.fn.db.snapshot.entries (window_of l.fn.db) (g.S.Selector.selects l.fn.db.filter) row.e l.fn.attrs (tuple_lent row.tuple.items)) l.rows.items;
}
