use Rattle.std.proofs.Common.{◌+◌, drop, Result}
use Rattle.std.specs.List.{zip}
use Rattle.edn_form.specs.View.{forms_of}
use Rattle.fb_values.specs.declared.indexes.Probe.{Probe}
use Rattle.fb_db.specs.Seen.{window_of}
use Rattle.read_refusals.specs.declared.reasons.Refusal.{Refusal}
use Rattle.read_model.specs.Components.{AreRead, no_component, parts_of}
use Rattle.fb_names.proofs.probes.components.Given as goal

-- what is read from here on comes to the answer
abbrev pub invariant-loop-place : goal.invariant-loop-place
invariant-loop-place g l =
    (answer : Result Probe Refusal)
    → AreRead l.fn.db.snapshot.entries (window_of l.fn.db) (g.S.Selector.selects l.fn.db.filter) l.probe (l.place + 2)
    (drop l.place (zip (parts_of l.fn.order) (forms_of l.fn.given))) answer
    → AreRead l.fn.db.snapshot.entries (window_of l.fn.db) (g.S.Selector.selects l.fn.db.filter) (no_component l.fn.order) 2
    (zip (parts_of l.fn.order) (forms_of l.fn.given)) answer
