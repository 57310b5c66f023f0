use Rattle.std.proofs.Common.{◌∙◌, ◌+◌, ap, sym, length, map, arith}
use Rattle.std.specs.Arc.{arc_value}
use Rattle.std.proofs.lemmas.Bool.{true≢false, eqb-true, eq-eqb}
use Rattle.seg_tree.specs.Nodes.{DirectoryNode, leaf_datoms, tree_datoms}
use Rattle.seg_agree.proofs.Walking.{directories_step, none_left}
use Rattle.seg_agree.proofs.walks.has_len.Goals as goal

pub loop-directory-init : goal.loop-directory-init
loop-directory-init c = ap (λ t. c.args.len + length (tree_datoms t)) c.directories-directory-items.ensures

pub returns-then-more-left : goal.returns-then-more-left
returns-then-more-left c =
    let step = directories_step arc_value c.directories-directory-items.result.now c.loop-directory.directory-index c.directory-item.result
    c.loop-directory-test.true c.directory-item.is in
    let own = c.len_of-more.ensures ∙ ap (λ (d : DirectoryNode). length (leaf_datoms d.leaves)) c.deref.ensures in (
      (λ is. absurd (true≢false (sym is))),
      (λ is. absurd (omega (arith, is, c.loop-directory.invariant, step, own, c.if-more-left.true))),
    )

pub loop-directory-preserved : goal.loop-directory-preserved
loop-directory-preserved c =
    let step = directories_step arc_value c.directories-directory-items.result.now c.loop-directory.directory-index c.directory-item.result
    c.loop-directory-test.true c.directory-item.is in
    let own = c.len_of-more.ensures ∙ ap (λ (d : DirectoryNode). length (leaf_datoms d.leaves)) c.deref.ensures in
    omega (arith, c.loop-directory.invariant, step, own, c.if-more-left.false)

pub returns : goal.returns
returns c =
    let nothing = ap (λ l. length (tree_datoms (map arc_value l)))
    (none_left c.directories-directory-items.result.now c.loop-directory.directory-index c.loop-directory-test.false) in (
      (λ is. omega (arith, eqb-true c.loop-directory.left 0 is, c.loop-directory.invariant, nothing)),
      (λ is. eq-eqb c.loop-directory.left 0 (omega (arith, is, c.loop-directory.invariant, nothing))),
    )
