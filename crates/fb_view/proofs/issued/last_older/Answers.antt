use Rattle.std.proofs.Common.{◌-◌, ◌∙◌, ap, length, sym}
use Rattle.std.specs.Arc.{arc_value}
use Rattle.std.specs.List.{slice_get}
use Rattle.fb_view.proofs.Users.{last_in_tree, at_last}
use Rattle.fb_view.proofs.issued.last_older.Goals as goal

pub returns : goal.returns
returns c =
    c.last-3.ensures.value
    ∙ ap (λ ds. slice_get ds (length ds - 1)) c.datoms.ensures.datoms
    ∙ sym (last_in_tree c.args.tree.now c.deref.result.now c.deref-2.result.now
    (at_last arc_value c.directories.result.now c.args.tree.now c.in_ok-directory.directory.now c.deref.result.now c.directories.ensures
    c.in_ok-directory.ensures.value c.deref.ensures)
    (at_last arc_value c.leaves.result.now c.deref.result.now.leaves c.in_ok-leaf.leaf.now c.deref-2.result.now c.leaves.ensures.leaves
    c.in_ok-leaf.ensures.value c.deref-2.ensures)
    c.datoms.ensures.some)
