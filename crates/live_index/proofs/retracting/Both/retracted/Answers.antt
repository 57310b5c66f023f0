use Rattle.std.proofs.Common.{◌≡◌, ◌-◌, ◌<◌, ◌≤◌, List, drop, length, length-drop, take, sym, subst, arith}
use Rattle.std.proofs.lemmas.List.{take_all}
use Rattle.fb_values.specs.declared.facts.Datom.{Datom}
use Rattle.fb_values.specs.declared.indexes.Order.TheVariants.{Eavt}
use Rattle.fb_values.specs.Lists.{list_in}
use Rattle.live_runs.specs.Members.{datom_of}
use Rattle.live_index.specs.Ending.{IsRetracted}
use Rattle.live_index.specs.Lists.{lists_of}
use Rattle.live_index.proofs.Retractions.{may-next, retracted-next, retracted-none}
use Rattle.live_index.proofs.Spans.{datom_at, next_number, number_within}
use Rattle.live_index.proofs.retracting.Both.retracted.Goals as goal

pub loop-number-init : goal.loop-number-init
loop-number-init c =
    let none : 0 ≡ c.args.first - c.args.first = omega arith in
    record {
      holding = c.requires.holding;
      past = c.requires.past;
      retracted = λ order.
          let h = list_in (lists_of c.args.table.now c.args.self.holding) order in
          let p = list_in (lists_of c.args.table.now c.args.self.past) order in
          subst (λ n. IsRetracted order c.args.covers.now h p (take n (drop c.args.first c.args.table.now)) h p) none
          (retracted-none order c.args.covers.now h p);
    }

pub with_change-requires-clause-may : goal.with_change-requires-clause-may
with_change-requires-clause-may c = λ order.
    let table = c.args.table.now in
    let first = c.args.first in
    let number = c.loop-number.number in
    let low : first ≤ number = c.loop-number.auto.number in
    let high : number < length table = omega (arith, c.loop-number-test.true, c.count_of-count.ensures) in
    may-next order Eavt c.args.covers.now (list_in (lists_of table c.args.self.holding) order)
    (list_in (lists_of table c.args.self.past) order) (drop first table) (list_in (lists_of table c.loop-number.both.holding) order)
    (list_in (lists_of table c.loop-number.both.past) order) (number - first) (datom_of table number) c.requires.rising
    (c.requires.may order) (c.loop-number.invariant.retracted order) (number_within table first number low high)
    (datom_at table first number low high)

pub loop-number-preserved : goal.loop-number-preserved
loop-number-preserved c =
    let table = c.args.table.now in
    let first = c.args.first in
    let number = c.loop-number.number in
    let low : first ≤ number = c.loop-number.auto.number in
    let high : number < length table = omega (arith, c.loop-number-test.true, c.count_of-count.ensures) in
    record {
      holding = c.in_ok-both.ensures.holding;
      past = c.in_ok-both.ensures.past;
      retracted = λ order.
          let h = list_in (lists_of table c.args.self.holding) order in
          let p = list_in (lists_of table c.args.self.past) order in
          let new = list_in (lists_of table c.in_ok-both.both.holding) order in
          let gone = list_in (lists_of table c.in_ok-both.both.past) order in
          subst (λ n. IsRetracted order c.args.covers.now h p (take n (drop first table)) new gone) (sym (next_number first number low))
          (retracted-next order Eavt c.args.covers.now h p (drop first table) (list_in (lists_of table c.loop-number.both.holding) order)
          (list_in (lists_of table c.loop-number.both.past) order) (number - first) (datom_of table number) c.requires.rising
          (c.requires.may order) (c.loop-number.invariant.retracted order) (number_within table first number low high)
          (datom_at table first number low high) new gone (c.in_ok-both.ensures.retracted order));
    }

pub returns : goal.returns
returns c =
    let table = c.args.table.now in
    let first = c.args.first in
    let n = c.loop-number.number - first in
    record {
      holding = c.loop-number.invariant.holding;
      past = c.loop-number.invariant.past;
      retracted = λ order.
          subst (λ (ds : List Datom). IsRetracted order c.args.covers.now (list_in (lists_of table c.args.self.holding) order)
          (list_in (lists_of table c.args.self.past) order) ds (list_in (lists_of table c.loop-number.both.holding) order)
          (list_in (lists_of table c.loop-number.both.past) order))
          (take_all n (drop first table) (omega (arith, c.loop-number-test.false, c.count_of-count.ensures, length-drop first table)))
          (c.loop-number.invariant.retracted order);
    }

pub with_change-requires-clause-within : goal.with_change-requires-clause-within
with_change-requires-clause-within c = omega (arith, c.loop-number-test.true, c.count_of-count.ensures)
