-- The plans of the four trees.
-- This project's own choice.
use Rattle.std.specs.Prelude.{ℕ, List, ◌++◌}
use Rattle.fb_values.specs.declared.indexes.Order.{Order}
use Rattle.fb_values.specs.declared.indexes.Order.TheVariants.{Eavt, Aevt, Avet, Vaet}
use Rattle.seg_tree.specs.Ids.{leaf_ids}
use Rattle.seg_merge.specs.Plans.{Planned}
use Rattle.seg_merge.specs.declared.merge.Plans.{Plans}

abbrev pub plan_in : Plans → Order → Planned
plan_in plans Eavt = plans.eavt
plan_in plans Aevt = plans.aevt
plan_in plans Avet = plans.avet
plan_in plans Vaet = plans.vaet

-- the ids of the leaves that they keep
abbrev pub kept_ids : Plans → List ℕ
kept_ids plans =
    ((leaf_ids plans.eavt.kept ++ leaf_ids plans.aevt.kept) ++ leaf_ids plans.avet.kept)
    ++ leaf_ids plans.vaet.kept
