use Rattle.std.proofs.Common.{◌∙◌, ◌++◌, ◌∷◌, [], ap, sym, subst}
use Rattle.std.specs.Prelude.{All, IfOk}
use Rattle.std.proofs.lemmas.Result.{IfOk-weaker}
use Rattle.seg_codec.specs.Trees.{AreStorable}
use Rattle.seg_store.specs.Trees.{HaveStorableDatoms}
use Rattle.test_codec.proofs.Dated.{IsDated, hi, hi_dated, none_dated, trees_dated, values_of}
use Rattle.test_codec.proofs.trees.hi_trees.Goals as goal

storable : (c : goal.After-of-2) → IfOk c.of-2.result HaveStorableDatoms
storable c =
    let text = c.in_ok-of.field-0 in
    let one = c.in_ok-push.ensures.items ∙ ap (λ ds. ds ++ hi text ∷ []) c.new-eavt.ensures.items in
    IfOk-weaker c.of-2.result _ _
    (λ trees lists.
    trees_dated trees _ lists (subst (All IsDated) (sym one) (hi_dated text c.in_ok-of.ensures))
    (none_dated _ c.new.ensures.items) (none_dated _ c.new-2.ensures.items) (none_dated _ c.new-3.ensures.items))
    c.of-2.ensures.lists

pub returns-clause-storable : goal.returns-clause-storable
returns-clause-storable c = storable c

pub returns-clause-values : goal.returns-clause-values
returns-clause-values c = IfOk-weaker c.of-2.result HaveStorableDatoms AreStorable values_of (storable c)
