use Rattle.std.proofs.Common.{◌++◌, List, map, refl, ap, ◌∙◌}
use Rattle.std.proofs.lemmas.Result.{on_ok_weaker}
use Rattle.fb_values.specs.declared.facts.Value.{Value}
use Rattle.tx_sweep.specs.Sweep.{value_at}
use Rattle.tx_sweep.proofs.Sweeping.{was_there, sweeps_values_again, sweeps_values}
use Rattle.tx_sweep.proofs.sweep.sweep_values.Goals as goal

pub returns-then-not-branch : goal.returns-then-not-branch
returns-then-not-branch g c = λ swept.
    let h = g.F.Facts.history c.args.facts.now in
    sweeps_values_again h c.args.place c.args.e c.args.a c.args.found.now (record c.args.found.now { pairs = c.insert.new.self }) swept
    (λ x. refl)
    (λ x b. c.in_ok-insert.ensures.updates.0 (x, b)) (was_there _ _ c.in_ok-insert.ensures.added c.if-not-branch.true) refl

pub returns : goal.returns
returns g c = λ swept.
    let h = g.F.Facts.history c.args.facts.now in
    on_ok_weaker c.push_values.result
    (λ items. sweeps_values c.the_lists_are_the_rising_ones.ensures h c.args.place c.args.e c.args.a c.args.found.now
    (record { visited = c.args.found.now.visited; pairs = c.insert.new.self; askings = c.push_values.new.askings }) swept (λ x. refl)
    (λ x b. c.in_ok-insert.ensures.updates.0 (x, b))
    (items ∙ ap (λ (vs : List Value). c.args.found.now.askings.items ++ map (value_at c.args.place c.args.e c.args.a) vs)
    c.in_ok-values_of.ensures))
    c.push_values.ensures
