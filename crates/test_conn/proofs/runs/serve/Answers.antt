use Rattle.std.proofs.Common.{List, ℕ, sym, subst}
use Rattle.fb_values.specs.declared.facts.Entry.{Entry}
use Rattle.fb_view.specs.SnapshotModel.{SnapshotModel}
use Rattle.fb_roots.specs.Bases.{IsBaseOf}
use Rattle.test_conn.proofs.runs.serve.Goals as goal

pub ask_all-asked-requires : goal.ask_all-asked-requires
ask_all-asked-requires g c =
    let made = c.in-Ok.ensures in (made.count.0, λ k seat at. let own = made.seats k seat at in (own.0, own.1))

pub merge_rest-merged-requires-clause-base : goal.merge_rest-merged-requires-clause-base
merge_rest-merged-requires-clause-base g c κs within =
    let base = c.in_ok-base.base in let made = c.in-Ok.ensures.worker in let core = c.of-core.result in
    let own : IsBaseOf base core.snapshot.entries core.snapshot.covered =
    subst (λ (k : SnapshotModel). IsBaseOf base k.entries k.covered) c.snapshot.ensures.snapshot c.in_ok-base.ensures.stand in
    subst (λ (n : ℕ). IsBaseOf base c.in-Ok.field-0.worker.last.entries n) (sym made.2)
    (subst (λ (h : List Entry). IsBaseOf base h core.snapshot.covered) (sym made.4) own)

pub close-requires-clause-seats : goal.close-requires-clause-seats
close-requires-clause-seats g c = λ k seat at. let own = c.ask_all-asked.ensures.1 k seat at in (own.0.0, own.1)
