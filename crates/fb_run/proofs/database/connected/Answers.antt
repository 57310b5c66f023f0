use Rattle.std.proofs.Common.{sym, subst}
use Rattle.board_rule.specs.Calls.{view_of}
use Rattle.fb_roots.specs.Bases.{IsBaseOf}
use Rattle.fb_run.proofs.Running.{is_made}
use Rattle.fb_run.proofs.database.connected.Goals as goal

pub returns-in-Ok-new-clause-made : goal.returns-in-Ok-new-clause-made
returns-in-Ok-new-clause-made g c = let e = c.in-Ok-new.ensures in is_made _ _ _ _ _ _ e.count.0 e.seats e.worker

pub returns-in-Ok-new-clause-worker : goal.returns-in-Ok-new-clause-worker
returns-in-Ok-new-clause-worker g c =
    let w = c.in-Ok-new.ensures.worker in let base = c.in-Ok.base in
    let core = c.args.directory.core.snapshot in
    let of_core = subst (λ s. IsBaseOf base s.entries s.covered) c.snapshot.ensures.snapshot c.in-Ok.ensures.stand in (
      w.0,
      record {
        base = subst (λ h. IsBaseOf base h (view_of c.in-Ok-new.field-0.worker.board).covered) (sym w.4)
            (subst (λ n. IsBaseOf base core.entries n) (sym w.2) of_core);
        ahead = tt;
      },
    )
