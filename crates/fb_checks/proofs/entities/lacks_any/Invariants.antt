use Rattle.std.proofs.Common.{◌≡◌, drop}
use Rattle.std.specs.List.{list_any}
use Rattle.fb_values.specs.declared.facts.Datom.{Datom}
use Rattle.tx_after.specs.After.{after}
use Rattle.fb_checks.specs.Checks.{lacks, need_of}
use Rattle.fb_checks.proofs.entities.lacks_any.Given as goal

abbrev pub invariant-loop-need : goal.invariant-loop-need
invariant-loop-need l =
    list_any (λ need. list_any (λ (d : Datom). lacks l.before.schema (after l.before.entries l.changes) d.e (need_of need)) l.changes)
    (drop l.need-index l.needs)
    ≡ list_any (λ need. list_any (λ (d : Datom). lacks l.before.schema (after l.before.entries l.changes) d.e (need_of need)) l.changes) l.needs
