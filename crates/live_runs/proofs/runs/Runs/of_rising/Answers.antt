use Rattle.std.proofs.Common.{◌≡◌, ◌∙◌, ◌++◌, List, length, ap}
use Rattle.live_runs.specs.declared.members.Member.{Member}
use Rattle.live_runs.specs.declared.settled.Settled.{Settled}
use Rattle.live_runs.proofs.Running.{rising_runs}
use Rattle.live_runs.proofs.runs.Runs.of_rising.Goals as goal

pub returns-clause-runs : goal.returns-clause-runs
returns-clause-runs c =
    λ order table single are.
    let parts_are : c.in_ok-parts.parts ≡ c.args.members.now =
    c.in_ok-parts.ensures ∙ ap (λ (l : List Member). l ++ c.args.members.now) c.empty.ensures in
    (rising_runs order table c.new.result.items c.in_ok-new.field-0.middle.items c.in_ok-new.field-0.parts c.args.members.now c.len-len.result
    single are c.new.ensures.items
    (ap (λ (s : Settled). s.middle.items) c.in_ok-new.ensures ∙ c.in_ok-settled.ensures.middle)
    (ap (λ (s : Settled). s.parts) c.in_ok-new.ensures ∙ c.in_ok-settled.ensures.parts ∙ parts_are)
    (c.len-len.ensures ∙ ap length parts_are)).0

pub returns-clause-datoms : goal.returns-clause-datoms
returns-clause-datoms c =
    λ order table single are.
    let parts_are : c.in_ok-parts.parts ≡ c.args.members.now =
    c.in_ok-parts.ensures ∙ ap (λ (l : List Member). l ++ c.args.members.now) c.empty.ensures in
    (rising_runs order table c.new.result.items c.in_ok-new.field-0.middle.items c.in_ok-new.field-0.parts c.args.members.now c.len-len.result
    single are c.new.ensures.items
    (ap (λ (s : Settled). s.middle.items) c.in_ok-new.ensures ∙ c.in_ok-settled.ensures.middle)
    (ap (λ (s : Settled). s.parts) c.in_ok-new.ensures ∙ c.in_ok-settled.ensures.parts ∙ parts_are)
    (c.len-len.ensures ∙ ap length parts_are)).1
