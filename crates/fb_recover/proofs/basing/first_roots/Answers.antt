use Rattle.std.proofs.Common.{[], ◌∷◌, ◌∙◌, sym, subst}
use Rattle.std.proofs.lemmas.Result.{IfOk-weaker}
use Rattle.fb_model.specs.FirstEntry.{first_entry}
use Rattle.view_model.specs.Stands.{RootStands}
use Rattle.seg_tree.specs.Indexes.{trees_of}
use Rattle.seg_tree.specs.declared.roots.Roots.{Roots}
use Rattle.fb_recover.specs.Openings.{AreNumberedFromOne}
use Rattle.fb_recover.proofs.Trees.{first-roots}
use Rattle.fb_recover.proofs.basing.first_roots.Goals as goal

pub returns-clause-stands : goal.returns-clause-stands
returns-clause-stands c =
    let first = c.in_ok-first.first in let made = c.in_ok-first.ensures in
    IfOk-weaker c.share.result _ _
    (λ roots is. subst (λ (r : Roots). RootStands (trees_of r) (first_entry ∷ []) 0) (sym (is ∙ c.roots-roots.ensures.roots))
    (first-roots (trees_of first.roots) first.entries first.covered made.entries made.covered made.stands.history.roots_stand))
    c.share.ensures

pub returns-clause-ids : goal.returns-clause-ids
returns-clause-ids c =
    IfOk-weaker c.share.result _ _
    (λ roots is. subst (λ (r : Roots). AreNumberedFromOne r) (sym (is ∙ c.roots-roots.ensures.roots)) c.in_ok-first.ensures.ids)
    c.share.ensures
