use Rattle.std.proofs.Common.{◌≡◌, ℕ, false, ◌&&◌, not, drop}
use Rattle.std.specs.Prelude.{IfSome}
use Rattle.std.specs.List.{list_any}
use Rattle.fb_values.specs.declared.facts.Datom.{Datom}
use Rattle.tx_after.specs.After.{after}
use Rattle.fb_checks.specs.Checks.{has}
use Rattle.fb_checks.proofs.entities.lacks_asked.Given as goal

abbrev pub invariant-loop-d : goal.invariant-loop-d
invariant-loop-d l = record {
  so_far :
      list_any (λ (d : Datom). has (after l.before.entries l.changes) d.e l.asked.marker
      && not (has (after l.before.entries l.changes) d.e l.asked.needed)) (drop l.d-index l.changes)
      ≡ list_any (λ (d : Datom). has (after l.before.entries l.changes) d.e l.asked.marker
      && not (has (after l.before.entries l.changes) d.e l.asked.needed)) l.changes;
  last :
      IfSome l.last (λ (e : ℕ). (has (after l.before.entries l.changes) e l.asked.marker
      && not (has (after l.before.entries l.changes) e l.asked.needed)) ≡ false);
}
