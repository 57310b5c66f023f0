use Rattle.std.proofs.Common.{List, take, sym, subst, arith}
use Rattle.fb_values.specs.declared.facts.Entry.{Entry}
use Rattle.fb_view.specs.declared.growth.Recent.{Recent}
use Rattle.fb_view.specs.SnapshotModel.{model_snapshot, Stands}
use Rattle.fb_view.proofs.Beginnings.{next_of}
use Rattle.fb_view.proofs.Lists.{take-next}
use Rattle.fb_view.proofs.growth.Recent.with_each.Goals as goal

pub loop-t-init : goal.loop-t-init
loop-t-init c = record {
  later = c.requires.from.0;
  within = c.requires.from.1;
  stands =
      subst (λ (r : Recent). Stands (model_snapshot (take c.args.from c.args.entries.now) r c.args.older.now)) (sym c.in_ok-recent.ensures)
      c.requires.stands;
}

pub with-requires : goal.with-requires
with-requires c =
    let h = c.args.entries.now in let inv = c.loop-t.invariant in
    (take c.loop-t.t h, record { stands = inv.stands; next = next_of h c.loop-t.t c.at.result.now c.requires.lawful inv.later c.at.ensures })

pub loop-t-preserved : goal.loop-t-preserved
loop-t-preserved c =
    let h = c.args.entries.now in let inv = c.loop-t.invariant in let entry = c.at.result.now in
    record {
      later = omega arith;
      within = omega (arith, c.len-t-end.ensures, c.loop-t-test.true);
      stands =
          subst (λ (l : List Entry). Stands (model_snapshot l c.in_ok-recent-2.recent c.args.older.now))
          (sym (take-next h c.loop-t.t entry c.at.ensures))
          (c.in_ok-recent-2.ensures (take c.loop-t.t h)
          (record { stands = inv.stands; next = next_of h c.loop-t.t entry c.requires.lawful inv.later c.at.ensures }));
    }
