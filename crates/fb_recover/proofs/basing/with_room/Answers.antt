use Rattle.std.proofs.Common.{ℕ, ◌≤◌, [], ◌∷◌, List, sym, subst}
use Rattle.std.specs.Prelude.{Contains}
use Rattle.log_model.specs.Kept.{KeptRoot}
use Rattle.seg_codec.proofs.Among.{member_here}
use Rattle.seg_tree.specs.Ids.{next_above}
use Rattle.seg_tree.specs.Indexes.{root_ids}
use Rattle.seg_store.specs.Trees.{root_of}
use Rattle.seg_store.proofs.Numbering.{below_with}
use Rattle.fb_recover.proofs.basing.with_room.Goals as goal

pub returns-in-Ok-clause-root : goal.returns-in-Ok-clause-root
returns-in-Ok-clause-root g c = λ before.
    let new = c.in-Ok.ensures.renewed in
    let root = root_of c.args.trees.roots c.args.trees.c in
    (new.0 ∷ [], new.1, subst (λ (roots : List KeptRoot). Contains roots root) (sym new.2.roots) (member_here root []))

pub returns-in-Ok-clause-below : goal.returns-in-Ok-clause-below
returns-in-Ok-clause-below g c = λ before.
    let roots = c.args.trees.roots in
    subst (λ (ids : List ℕ). next_above (root_ids roots) ≤ next_above ids) (sym c.in-Ok.ensures.ids) (below_with [] roots)
