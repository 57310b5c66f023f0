use Rattle.std.proofs.Common.{cond, eqb, true, ap, sym, ◌∙◌, get_or, arith}
use Rattle.std.proofs.lemmas.List.{take_all}
use Rattle.std.specs.List.{list_any}
use Rattle.std.specs.Map.{keys_of}
use Rattle.fb_covers.proofs.Keys.{held-put, any-more}
use Rattle.fb_covers.proofs.set_of.Goals as goal

pub loop-a-preserved : goal.loop-a-preserved
loop-a-preserved c = λ a.
    let i = c.loop-a.a-index in
    ap (λ m. list_any (λ b. eqb a b) (keys_of m)) c.in_ok-set-2.ensures
    ∙ held-put (get_or c.args.attributes.now i 0) tt c.loop-a.set a
    ∙ ap (cond (eqb (get_or c.args.attributes.now i 0) a) true) (c.loop-a.invariant a)
    ∙ sym (any-more c.args.attributes.now i a (omega arith))

pub returns : goal.returns
returns c = λ a. c.loop-a.invariant a ∙ ap (list_any (λ b. eqb a b)) (take_all c.loop-a.a-index c.args.attributes.now c.loop-a-test.false)
