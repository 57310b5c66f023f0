use Rattle.std.proofs.Common.{◌∙◌, sym}
use Rattle.std.proofs.lemmas.Bool.{true≢false}
use Rattle.seg_tree.specs.Nodes.{tree_datoms}
use Rattle.seg_agree.specs.Indexes.{past}
use Rattle.seg_agree.proofs.Walking.{part_of_index}
use Rattle.seg_agree.proofs.index.Index.is.Goals as goal

pub returns-then-has_len : goal.returns-then-has_len
returns-then-has_len c = (
  (λ is. let part = c.has_all.ensures.0 is in
      c.a_counted_list_is_the_index.ensures.counted c.args.self.now.entries.now c.args.self.now.c c.args.self.now.order
      (tree_datoms c.args.tree.now) part.rising part.indexed (c.has_len.ensures.0 c.if-has_len.true ∙ c.requires.len)),
  (λ whole. c.has_all.ensures.1 (part_of_index (past c.args.self.now) c.args.self.now.order (tree_datoms c.args.tree.now) whole)),
)

pub returns-else-has_len : goal.returns-else-has_len
returns-else-has_len c = (
  (λ is. absurd (true≢false (sym is ∙ c.if-has_len.false))),
  (λ whole. absurd (true≢false (sym (c.has_len.ensures.1
      (c.a_counted_list_is_the_index.ensures.len c.args.self.now.entries.now c.args.self.now.c c.args.self.now.order
      (tree_datoms c.args.tree.now) c.requires.history.lawful whole ∙ sym c.requires.len)) ∙ c.if-has_len.false))),
)
