use Rattle.std.proofs.Common.{◌∙◌, sym}
use Rattle.seg_tree.proofs.InTrees.{at_directory, at_no_directory}
use Rattle.seg_tree.proofs.tree.Root.at.Goals as goal

pub returns-in-None : goal.returns-in-None
returns-in-None c = sym (at_no_directory c.args.self.now c.args.place (sym c.in-None.ensures))

pub returns-in-Some : goal.returns-in-Some
returns-in-Some c = c.at.ensures ∙ sym (at_directory c.args.self.now c.args.place c.in-Some.directory.now (sym c.in-Some.ensures))
