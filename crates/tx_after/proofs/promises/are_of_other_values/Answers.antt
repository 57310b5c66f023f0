use Rattle.std.proofs.Common.{◌-◌, ◌&&◌, ◌∙◌, drop, ap, sym, subst, arith}
use Rattle.std.proofs.lemmas.Bool.{and_from}
use Rattle.tx_after.specs.Promises as promises
use Rattle.tx_after.proofs.Drops.{drop_before}
use Rattle.tx_after.proofs.Promising.{not_values}
use Rattle.tx_after.proofs.promises.are_of_other_values.Goals as goal

pub returns-then-not-is_first : goal.returns-then-not-is_first
returns-then-not-is_first c =
    let i = c.loop-i.i in
    let facts = c.args.facts.now in
    let d = c.index-facts-i.result in
    let rest = drop i facts in
    let first = drop_before facts i d (omega arith) c.loop-i.invariant.in_range c.index-facts-i.is in
    let met = sym (c.in_ok-is_first.ensures.first rest c.loop-i.invariant.has_met) ∙ c.if-not-is_first.true in
    not_values (i - 1) facts
    (ap promises.are_of_other_values first ∙ ap (λ b. b && promises.are_of_other_values rest) met)

pub loop-i-preserved : goal.loop-i-preserved
loop-i-preserved c =
    let i = c.loop-i.i in
    let facts = c.args.facts.now in
    let d = c.index-facts-i.result in
    let rest = drop i facts in
    let first = drop_before facts i d (omega arith) c.loop-i.invariant.in_range c.index-facts-i.is in
    let new = sym (c.in_ok-is_first.ensures.first rest c.loop-i.invariant.has_met) ∙ c.if-not-is_first.false in
    record {
      in_range = omega (arith, c.loop-i.invariant.in_range);
      apart = ap promises.are_of_other_values first ∙ and_from _ _ new c.loop-i.invariant.apart;
      has_met = subst (promises.HasValues c.meet.new.met) (sym first) (c.in_ok-is_first.ensures.met rest c.loop-i.invariant.has_met);
    }
