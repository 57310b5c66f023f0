use Rattle.std.proofs.Common.{◌≡◌, ◌∙◌, ◌∷◌, List, length, sym, ap, subst, arith}
use Rattle.std.proofs.lemmas.Option.{get_or_from_slice_get}
use Rattle.fb_values.specs.declared.facts.Datom.{Datom}
use Rattle.fb_values.specs.declared.indexes.Probe.{Probe}
use Rattle.live_runs.specs.Changed.{from_probe}
use Rattle.live_runs.specs.Mates.{IsMateIn, is_mate, triple_of}
use Rattle.live_runs.specs.Members.{datom_of, nothing}
use Rattle.live_runs.specs.Runs.{runs_datoms}
use Rattle.live_runs.specs.Walks.{left_of}
use Rattle.live_runs.proofs.Mating.{first_does_not, first_mates, none_mates}
use Rattle.live_runs.proofs.runs.Runs.mate_by.Goals as goal

pub returns-in_err-number : goal.returns-in_err-number
returns-in_err-number g c =
    let from : left_of c.walk_from-walk.result
    ≡ from_probe (triple_of c.args.order c.args.d.now) (runs_datoms c.args.order c.args.table.now c.args.self.now) =
    c.walk_from-walk.ensures.datoms
    ∙ ap (λ (p : Probe). from_probe p (runs_datoms p.order c.args.table.now c.args.self.now)) c.of_triple-aim.ensures in
    subst (IsMateIn c.args.table.now (runs_datoms c.args.order c.args.table.now c.args.self.now) c.args.d.now) (sym c.from_residual.ensures)
    (none_mates c.args.order c.args.table.now c.args.self.now c.args.d.now c.requires.runs (sym from ∙ c.in_err-number.ensures.first.0))

pub returns-then-is_mate : goal.returns-then-is_mate
returns-then-is_mate g c =
    let d = c.args.d.now in
    let number = c.in_ok-number.number in
    let at : datom_of c.args.table.now c.in_ok-number.number ≡ c.at.result.now =
    get_or_from_slice_get c.args.table.now c.in_ok-number.number c.at.result.now nothing c.at.ensures in
    let from : left_of c.walk_from-walk.result
    ≡ from_probe (triple_of c.args.order c.args.d.now) (runs_datoms c.args.order c.args.table.now c.args.self.now) =
    c.walk_from-walk.ensures.datoms
    ∙ ap (λ (p : Probe). from_probe p (runs_datoms p.order c.args.table.now c.args.self.now)) c.of_triple-aim.ensures in
    let first = sym from
    ∙ c.in_ok-number.ensures.first.1
    ∙ ap (λ (l : List Datom). datom_of l c.in_ok-number.number ∷ left_of c.next_number.new.self) c.walk_from-walk.ensures.table in
    first_mates c.args.order c.args.table.now c.args.self.now d c.requires.runs number (left_of c.next_number.new.self)
    (omega (arith, c.in_ok-number.ensures.first.0, ap length c.walk_from-walk.ensures.table)) first
    (ap (is_mate d) at ∙ sym c.is_mate.ensures ∙ c.if-is_mate.true)

pub returns-else-is_mate : goal.returns-else-is_mate
returns-else-is_mate g c =
    let d = c.args.d.now in
    let number = c.in_ok-number.number in
    let at : datom_of c.args.table.now c.in_ok-number.number ≡ c.at.result.now =
    get_or_from_slice_get c.args.table.now c.in_ok-number.number c.at.result.now nothing c.at.ensures in
    let from : left_of c.walk_from-walk.result
    ≡ from_probe (triple_of c.args.order c.args.d.now) (runs_datoms c.args.order c.args.table.now c.args.self.now) =
    c.walk_from-walk.ensures.datoms
    ∙ ap (λ (p : Probe). from_probe p (runs_datoms p.order c.args.table.now c.args.self.now)) c.of_triple-aim.ensures in
    let first = sym from
    ∙ c.in_ok-number.ensures.first.1
    ∙ ap (λ (l : List Datom). datom_of l c.in_ok-number.number ∷ left_of c.next_number.new.self) c.walk_from-walk.ensures.table in
    first_does_not c.args.order c.args.table.now c.args.self.now d c.requires.runs number (left_of c.next_number.new.self) first
    (ap (is_mate d) at ∙ sym c.is_mate.ensures ∙ c.if-is_mate.false)
