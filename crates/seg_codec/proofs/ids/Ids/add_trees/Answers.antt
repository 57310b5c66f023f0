use Rattle.std.proofs.Common.{◌<◌, ◌^◌, ◌++◌, ap, sym, subst, ◌∙◌, arith}
use Rattle.std.specs.Prelude.{All}
use Rattle.std.proofs.lemmas.Result.{on_ok_weaker}
use Rattle.seg_codec.proofs.Among.{AreOnce}
use Rattle.seg_codec.proofs.LackingIds.{once_with, small_with}
use Rattle.seg_codec.proofs.ids.Ids.add_trees.Goals as goal

pub add_all-requires-clause-distinct : goal.add_all-requires-clause-distinct
add_all-requires-clause-distinct c =
    subst (λ l. AreOnce (c.args.self.now ++ l)) (sym (c.deref.ensures.value ∙ c.in_ok-lacking.ensures))
    (once_with c.args.self.now c.args.trees.now c.next_id.ensures.distinct c.len.ensures.distinct)

pub add_all-requires-clause-small : goal.add_all-requires-clause-small
add_all-requires-clause-small c =
    subst (All (λ id. id < 2 ^ 62)) (sym (c.deref.ensures.value ∙ c.in_ok-lacking.ensures))
    (small_with c.args.self.now c.args.trees.now (omega (arith, c.next_id.ensures.next, c.next_id.ensures.small)))

pub returns-clause-added : goal.returns-clause-added
returns-clause-added c =
    on_ok_weaker c.add_all.result (λ last. last ∙ ap (λ l. c.args.self.now ++ l) (c.deref.ensures.value ∙ c.in_ok-lacking.ensures))
    c.add_all.ensures.added
