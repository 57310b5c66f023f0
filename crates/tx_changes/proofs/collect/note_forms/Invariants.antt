use Rattle.std.proofs.Common.{◌≡◌, ◌++◌, drop}
use Rattle.tx_sweep.specs.Sweep.{acts_of}
use Rattle.tx_changes.specs.Asked.{KnowsValues}
use Rattle.tx_changes.specs.Noted.{noted_from}
use Rattle.tx_changes.proofs.collect.note_forms.Given as goal

abbrev pub invariant-loop-place : goal.invariant-loop-place
invariant-loop-place g l = record {
  known : KnowsValues (g.F.Facts.history l.facts) l.notes.learnt;
  so_far : l.notes.noted.items ++ noted_from (g.F.Facts.history l.facts) l.schema l.place (acts_of (drop l.place l.forms))
      ≡ l.fn.notes.noted.items ++ noted_from (g.F.Facts.history l.facts) l.schema 0 (acts_of l.forms);
}
