use Rattle.std.proofs.Common.{◌-◌, ◌∙◌, ap, length}
use Rattle.std.specs.List.{slice_get}
use Rattle.fb_values.specs.Lists.{Lists}
use Rattle.seg_tree.specs.Nodes.{tree_datoms}
use Rattle.seg_tree.specs.declared.roots.Roots.{Roots}
use Rattle.fb_view.proofs.Users.{user_at, users_answer}
use Rattle.fb_view.proofs.snapshot.Snapshot.greatest_user.Goals as goal

pub returns-clause-users : goal.returns-clause-users
returns-clause-users c =
    c.max.ensures
    ∙ users_answer c.args.self.now c.roots.ensures.stands c.user_of-older.result c.user_of-live.result
    (c.user_of-older.ensures
    ∙ ap user_at
    (c.last_older.ensures ∙ ap (λ (r : Roots). slice_get (tree_datoms r.eavt) (length (tree_datoms r.eavt) - 1)) c.roots.ensures.roots))
    (c.user_of-live.ensures
    ∙ ap user_at (c.last.ensures ∙ ap (λ (l : Lists). slice_get l.eavt (length l.eavt - 1)) c.live.ensures.live))
