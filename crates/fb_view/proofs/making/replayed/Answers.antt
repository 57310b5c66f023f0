use Rattle.std.proofs.Common.{◌≡◌, ◌∙◌, ℕ, ap, arith, sym, subst}
use Rattle.fb_covers.specs.Coverage.{Coverage}
use Rattle.fb_model.specs.History.{upto}
use Rattle.fb_model.proofs.LawfulHistories.{IsLawful-length}
use Rattle.fb_values.specs.Lists.{list_in}
use Rattle.fb_values.specs.Rising.{IsRising}
use Rattle.fb_values.proofs.Rising.{rising_from}
use Rattle.fb_schema.specs.Described.{SchemaStands}
use Rattle.fb_schema.specs.Tables.{HasCoverage}
use Rattle.view_model.specs.Stands.{RootStands}
use Rattle.seg_tree.specs.Indexes.{trees_of}
use Rattle.seg_tree.specs.declared.roots.Roots.{Roots}
use Rattle.seg_tree.proofs.Indexes.{list_in-trees_of}
use Rattle.fb_view.specs.SnapshotModel.{AreWhole, Stands, model_snapshot}
use Rattle.fb_view.specs.declared.growth.Older.{Older}
use Rattle.fb_view.proofs.Beginnings.{whole_of}
use Rattle.fb_view.proofs.making.replayed.Goals as goal

pub of-requires : goal.of-requires
of-requires c =
    λ order. subst (IsRising order) (list_in-trees_of c.args.roots order)
    (rising_from order (list_in (trees_of c.args.roots) order) (c.requires.roots.trees order).rising)

pub replayed-requires-clause-within : goal.replayed-requires-clause-within
replayed-requires-clause-within c =
    let counted = IsLawful-length c.args.entries c.requires.lawful in
    let bound = c.requires.roots.bound in
    let covered : c.get.result.now.covered ≡ c.args.c = ap (λ (o : Older). o.covered) c.get.ensures ∙ c.in_ok-older.ensures.covered in
    omega (arith, counted, bound, covered)

pub replayed-requires-clause-stands : goal.replayed-requires-clause-stands
replayed-requires-clause-stands c =
    let older = c.in_ok-older.older in
    let covered : older.covered ≡ c.args.c = c.in_ok-older.ensures.covered in
    let roots = subst (λ (r : Roots). RootStands (trees_of r) c.args.entries c.args.c) (sym c.in_ok-older.ensures.roots) c.requires.roots in
    let has =
    subst (λ (held : Coverage). HasCoverage held c.args.schema)
    (sym (c.in_ok-older.ensures.held ∙ c.in_ok-held.ensures)) c.covers.ensures in
    let whole =
    whole_of c.args.entries c.args.c c.args.schema older c.requires.lawful roots covered c.requires.schema has
    c.in_ok-older.ensures.facts in
    subst (λ (o : Older). Stands (model_snapshot (upto c.args.entries o.covered) c.fresh.result o)) (sym c.get.ensures)
    (c.fresh.ensures.stands (upto c.args.entries older.covered) older
    (subst (λ (n : ℕ). SchemaStands c.args.schema (upto c.args.entries n)) (sym covered) c.requires.schema)
    (subst (λ (n : ℕ). AreWhole (upto c.args.entries n) older) (sym covered) whole))
