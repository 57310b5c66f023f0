use Rattle.std.proofs.Common.{◌∙◌, sym, ap, List}
use Rattle.std.specs.List.{slice_get}
use Rattle.fb_values.specs.declared.facts.Datom.{Datom}
use Rattle.seg_tree.proofs.InLeaves.{at_leaf, at_no_leaf}
use Rattle.seg_tree.proofs.nodes.Directory.at.Goals as goal

pub returns-in-None : goal.returns-in-None
returns-in-None c = sym (at_no_leaf c.args.self.now.leaves c.args.leaf c.args.datom (sym c.in-None.ensures))

pub returns-in-Some : goal.returns-in-Some
returns-in-Some c =
    c.nth.ensures
    ∙ ap (λ (xs : List Datom). slice_get xs c.args.datom) c.datoms.ensures.datoms
    ∙ sym (at_leaf c.args.self.now.leaves c.args.leaf c.args.datom c.in-Some.leaf.now (sym c.in-Some.ensures))
