use Rattle.std.proofs.Common.{◌≡◌, ◌≤◌, List, length, drop}
use Rattle.std.specs.Prelude.{filter, nat_eq}
use Rattle.fb_values.specs.declared.facts.Datom.{Datom}
use Rattle.fb_schema.specs.Parts.{description_of}
use Rattle.fb_schema.proofs.installed.attribute_of.Given as goal

abbrev pub invariant-loop-i : goal.invariant-loop-i
invariant-loop-i l = record {
  in_range : l.i ≤ length l.own;
  said : (facts : List Datom) → l.own ≡ filter (λ d. nat_eq d.e l.e) facts → l.said ≡ description_of (drop l.i l.own) l.e;
}

abbrev pub decreases-loop-i : goal.decreases-loop-i
decreases-loop-i l = l.i
