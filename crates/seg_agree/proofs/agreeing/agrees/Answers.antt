use Rattle.std.proofs.Common.{◌∙◌, sym, arith}
use Rattle.std.proofs.lemmas.Bool.{true≢false}
use Rattle.std.proofs.lemmas.Result.{IfOk-weaker}
use Rattle.seg_agree.proofs.Trees.{four_trees, by_entity_of, by_value_of, goes_no_farther}
use Rattle.seg_agree.proofs.agreeing.agrees.Goals as goal

pub returns-then-c-len : goal.returns-then-c-len
returns-then-c-len c = (
  (λ is. absurd (true≢false (sym is))),
  (λ stands. absurd (goes_no_farther c.args.entries.now c.args.c c.args.roots.now c.requires.lawful
      (omega (arith, c.if-c-len.true, c.len.ensures)) stands)),
)

pub returns-then-not-stands : goal.returns-then-not-stands
returns-then-not-stands c = (
  (λ is. absurd (true≢false (sym is))),
  (λ stands. absurd (true≢false
      (sym (c.in_ok-stands.ensures.1 (by_entity_of c.args.entries.now c.args.c c.args.roots.now stands)) ∙ c.if-not-stands.true))),
)

pub returns : goal.returns
returns c =
    IfOk-weaker c.by_value.result _ _
    (λ is both. (
      (λ yes. four_trees c.args.entries.now c.args.c c.args.roots.now c.requires.lawful
          (omega (arith, c.if-c-len.false, c.len.ensures)) (c.in_ok-stands.ensures.0 c.if-not-stands.false) (both.0 yes)),
      (λ stands. both.1 (by_value_of c.args.entries.now c.args.c c.args.roots.now stands)),
    )) c.by_value.ensures
