use Rattle.std.proofs.Common.{◌≡◌, ◌∙◌, ◌-◌, ◌<◌, ◌≤◌, false, not, List, drop, length, length-drop, take, refl, sym, ap, subst, arith}
use Rattle.std.specs.List.{list_any}
use Rattle.std.proofs.lemmas.List.{take_all}
use Rattle.fb_values.specs.declared.facts.Datom.{Datom}
use Rattle.fb_model.proofs.Members.{any_member}
use Rattle.live_runs.specs.Members.{datom_of}
use Rattle.live_index.proofs.Retractions.{in_them, none_more}
use Rattle.live_index.proofs.Spans.{datom_at, next_number, number_within}
use Rattle.live_index.proofs.retracting.has_retraction.Goals as goal

pub loop-number-init : goal.loop-number-init
loop-number-init c =
    let none : 0 ≡ c.args.first - c.args.first = omega arith in
    subst (λ n. list_any (λ d. not d.added) (take n (drop c.args.first c.args.table.now)) ≡ false) none refl

pub returns-then-not-adds : goal.returns-then-not-adds
returns-then-not-adds c =
    let table = c.args.table.now in
    let first = c.args.first in
    let number = c.loop-number.number in
    let low : first ≤ number = c.loop-number.auto.number in
    let high : number < length table = omega (arith, c.loop-number-test.true, c.count_of-count.ensures) in
    let item = datom_of table number in
    let within = number_within table first number low high in
    let is = datom_at table first number low high in
    sym (any_member (λ d. not d.added) (drop first table) item (in_them (drop first table) (number - first) item within is)
    (ap not (sym c.adds.ensures ∙ c.if-not-adds.true)))

pub loop-number-preserved : goal.loop-number-preserved
loop-number-preserved c =
    let table = c.args.table.now in
    let first = c.args.first in
    let number = c.loop-number.number in
    let low : first ≤ number = c.loop-number.auto.number in
    let high : number < length table = omega (arith, c.loop-number-test.true, c.count_of-count.ensures) in
    let item = datom_of table number in
    let within = number_within table first number low high in
    let is = datom_at table first number low high in
    subst (λ n. list_any (λ d. not d.added) (take n (drop first table)) ≡ false) (sym (next_number first number low))
    (none_more (drop first table) (number - first) item within is c.loop-number.invariant
    (ap not (sym c.adds.ensures ∙ c.if-not-adds.false)))

pub returns : goal.returns
returns c =
    let table = c.args.table.now in
    let first = c.args.first in
    let n = c.loop-number.number - first in
    sym (subst (λ (ds : List Datom). list_any (λ d. not d.added) ds ≡ false)
    (take_all n (drop first table) (omega (arith, c.loop-number-test.false, c.count_of-count.ensures, length-drop first table)))
    c.loop-number.invariant)

pub adds-requires : goal.adds-requires
adds-requires c = omega (arith, c.loop-number-test.true, c.count_of-count.ensures)
