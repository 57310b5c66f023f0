-- None of the entities so far shares its tuple, the last one among them.
use Rattle.std.proofs.Common.{◌≡◌, ℕ, false, drop}
use Rattle.std.specs.Prelude.{IfSome}
use Rattle.std.specs.List.{list_any}
use Rattle.fb_values.specs.declared.facts.Datom.{Datom}
use Rattle.fb_tuple_guard.specs.Sought.{is_shared_after}
use Rattle.fb_tuple_guard.proofs.sharing.are_shared.Given as goal

abbrev pub invariant-loop-d : goal.invariant-loop-d
invariant-loop-d l = record {
  so_far :
      list_any (λ (d : Datom). is_shared_after l.tuples d.e) (drop l.d-index l.tuples.changes.now)
      ≡ list_any (λ (d : Datom). is_shared_after l.tuples d.e) l.tuples.changes.now;
  last : IfSome l.last (λ (e : ℕ). is_shared_after l.tuples e ≡ false);
}
