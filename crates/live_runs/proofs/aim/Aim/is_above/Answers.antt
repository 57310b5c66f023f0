use Rattle.std.proofs.Common.{◌∙◌, sym, subst}
use Rattle.fb_values.specs.declared.indexes.Probe.{Probe}
use Rattle.live_runs.specs.Seeks.{IsSoughtBy}
use Rattle.live_runs.proofs.Seeking.{told_below}
use Rattle.live_runs.proofs.aim.Aim.is_above.Goals as goal

pub returns-then-is_below : goal.returns-then-is_below
returns-then-is_below c =
    sym (told_below c.args.self.now c.args.table.now c.self.inside.sought c.args.m.now
    (subst (λ (p : Probe). IsSoughtBy p c.self.inside.sought) c.self.view_is c.self.invariant) c.requires
    (sym c.is_below.ensures ∙ c.if-is_below.true))
