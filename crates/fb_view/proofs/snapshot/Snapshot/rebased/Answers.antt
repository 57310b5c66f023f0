use Rattle.std.proofs.Common.{◌∙◌, subst, sym}
use Rattle.view_model.specs.Stands.{RootStands}
use Rattle.seg_tree.specs.Indexes.{trees_of}
use Rattle.fb_view.proofs.Beginnings.{roots_from}
use Rattle.fb_view.proofs.snapshot.Snapshot.rebased.Goals as goal

pub replayed-requires-clause-roots : goal.replayed-requires-clause-roots
replayed-requires-clause-roots c =
    let same = c.in_ok-entries.ensures ∙ c.entries.ensures.entries in
    subst (λ h. RootStands (trees_of c.args.roots) h c.basis.result) (sym same)
    (subst (λ n. RootStands (trees_of c.args.roots) c.args.self.now.entries n) (sym c.basis.ensures.basis)
    (roots_from (trees_of c.args.roots) c.args.self.now.entries c.args.begin.now.entries c.entries.ensures.stands.history.lawful
    c.basis.ensures.stands.history.lawful c.requires.begins c.requires.roots))
