use Rattle.std.proofs.Common.{◌∙◌, sym, arith}
use Rattle.std.proofs.lemmas.Bool.{true≢false}
use Rattle.std.proofs.lemmas.List.{nil_from_length}
use Rattle.seg_agree.proofs.Descending.{nothing_passed, passed_more, found_newest, none_newest}
use Rattle.seg_agree.proofs.newest.newest_agreeing.Goals as goal

pub loop-trees-init : goal.loop-trees-init
loop-trees-init c = nothing_passed c.args.entries.now c.args.kept.items

pub returns-then-branch : goal.returns-then-branch
returns-then-branch c =
    found_newest c.args.entries.now c.args.kept.items c.loop-trees.older.items c.pop.new.self.items c.in-Some.trees c.loop-trees.invariant
    c.in-Some.ensures.items (c.in_ok-agrees.ensures.0 c.if-branch.true)

pub loop-trees-preserved : goal.loop-trees-preserved
loop-trees-preserved c =
    passed_more c.args.entries.now c.args.kept.items c.loop-trees.older.items c.pop.new.self.items c.in-Some.trees c.loop-trees.invariant
    c.in-Some.ensures.items (λ agrees. true≢false (sym (c.in_ok-agrees.ensures.1 agrees) ∙ c.if-branch.false))

pub returns : goal.returns
returns c =
    none_newest c.args.entries.now c.args.kept.items c.loop-trees.older.items c.loop-trees.invariant
    (nil_from_length c.loop-trees.older.items (omega (arith, c.loop-trees.older.ok.0, c.in_default.ensures.cases.0)))
