use Rattle.std.proofs.Common.{◌≡◌, ◌++◌, map, drop}
use Rattle.std.specs.Prelude.{flat_map}
use Rattle.tx_asks.specs.Acts.{model_act}
use Rattle.tx_changes.specs.Asked.{KnowsValues}
use Rattle.tx_changes.specs.Noted.{noted_by}
use Rattle.tx_changes.proofs.collect.note_form.Given as goal

abbrev pub invariant-loop-act : goal.invariant-loop-act
invariant-loop-act g l = record {
  known : KnowsValues (g.F.Facts.history l.facts) l.notes.learnt;
  so_far : l.notes.noted.items ++ flat_map (noted_by (g.F.Facts.history l.facts) l.schema l.place) (map model_act (drop l.act-index l.acts))
      ≡ l.fn.notes.noted.items ++ flat_map (noted_by (g.F.Facts.history l.facts) l.schema l.place) (map model_act l.acts);
}
