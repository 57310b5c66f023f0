use Rattle.std.proofs.Common.{◌∙◌, ap, sym, refl, subst, drop}
use Rattle.std.specs.Option.{option_copied}
use Rattle.std.proofs.lemmas.Bool.{true≢false}
use Rattle.seg_tree.specs.Nodes.{tree_datoms}
use Rattle.seg_tree.specs.Ranks.{rank}
use Rattle.seg_agree.specs.Indexes.{IsPartOf, past}
use Rattle.seg_agree.proofs.Walking.{goes, stops, falls, at_end}
use Rattle.seg_agree.proofs.index.Index.has_all.Goals as goal

pub loop-d-init : goal.loop-d-init
loop-d-init c part =
    subst (λ n. IsPartOf (past c.args.self.now) c.args.self.now.order (drop n (tree_datoms c.args.tree.now))) c.start-place.ensures part

pub returns-then-not-goes_on : goal.returns-then-not-goes_on
returns-then-not-goes_on c = (
  (λ is. absurd (true≢false (sym is))),
  (λ part. absurd (stops (past c.args.self.now) c.args.self.now.order (tree_datoms c.args.tree.now)
      (rank c.args.tree.now c.loop-d.place) (rank c.args.tree.now c.next-next.result) c.in-Some.d.now (option_copied c.at-ahead.result)
      c.goes_on.result (sym c.at.ensures ∙ ap option_copied c.in-Some.is) c.next-next.ensures c.at-ahead.ensures c.goes_on.ensures
      c.if-not-goes_on.true part)),
)

pub loop-d-smaller : goal.loop-d-smaller
loop-d-smaller c =
    falls (past c.args.self.now) c.args.self.now.order (tree_datoms c.args.tree.now)
    (rank c.args.tree.now c.loop-d.place) (rank c.args.tree.now c.next-next.result) c.in-Some.d.now (option_copied c.at-ahead.result)
    c.goes_on.result (sym c.at.ensures ∙ ap option_copied c.in-Some.is) c.next-next.ensures c.at-ahead.ensures c.goes_on.ensures

pub loop-d-preserved : goal.loop-d-preserved
loop-d-preserved c part =
    c.loop-d.invariant (goes (past c.args.self.now) c.args.self.now.order (tree_datoms c.args.tree.now)
    (rank c.args.tree.now c.loop-d.place) (rank c.args.tree.now c.next-next.result) c.in-Some.d.now (option_copied c.at-ahead.result)
    c.goes_on.result (sym c.at.ensures ∙ ap option_copied c.in-Some.is) c.next-next.ensures c.at-ahead.ensures c.goes_on.ensures
    c.if-not-goes_on.false part)

pub returns : goal.returns
returns c = (
  (λ _. c.loop-d.invariant (at_end (past c.args.self.now) c.args.self.now.order (tree_datoms c.args.tree.now)
      (rank c.args.tree.now c.loop-d.place) (sym c.at.ensures ∙ ap option_copied c.in_default.is))),
  (λ _. refl),
)
