use Rattle.std.proofs.Common.{◌≡◌, ◌∙◌, ◌+◌, Some, None, drop, ap, sym}
use Rattle.std.proofs.lemmas.List.{take_rest}
use Rattle.log_sweep.specs.Groups.{lent}
use Rattle.log_sweep.specs.Sweeps.{stepped}
use Rattle.log_sweep.proofs.Grouped.{swept-on, swept-off, stepped-few}
use Rattle.log_sweep.proofs.sweep.keeps_swept.Goals as goal

pub loop-i-preserved : goal.loop-i-preserved
loop-i-preserved c =
    let law = c.args.law in
    let schema = c.args.schema.now in
    let sorted = c.args.sorted.now in
    let i = c.loop-i.i in
    let n = c.loop-i.standing in
    let d = c.index-sorted-i.result in
    let steps : stepped law schema n d.now (lent (drop (i + 1) sorted)) ≡ Some c.in-Some.next =
    ap (λ l. stepped law schema n d.now (lent l)) (sym (take_rest sorted (i + 1))) ∙ sym c.step.ensures ∙ c.in-Some.is in
    record {
      few = stepped-few law schema n d.now (lent (drop (i + 1) sorted)) c.in-Some.next i c.loop-i.invariant.few steps;
      left = swept-on law schema sorted i n d c.loop-i-test.true c.index-sorted-i.is c.in-Some.next steps ∙ c.loop-i.invariant.left;
    }

pub returns-in-None : goal.returns-in-None
returns-in-None c =
    let law = c.args.law in
    let schema = c.args.schema.now in
    let sorted = c.args.sorted.now in
    let i = c.loop-i.i in
    let n = c.loop-i.standing in
    let d = c.index-sorted-i.result in
    let steps : stepped law schema n d.now (lent (drop (i + 1) sorted)) ≡ None =
    ap (λ l. stepped law schema n d.now (lent l)) (sym (take_rest sorted (i + 1))) ∙ sym c.step.ensures ∙ c.in-None.is in
    sym (swept-off law schema sorted i n d c.loop-i-test.true c.index-sorted-i.is steps) ∙ c.loop-i.invariant.left
