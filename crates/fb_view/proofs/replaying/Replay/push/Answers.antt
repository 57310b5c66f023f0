use Rattle.std.proofs.Common.{◌∙◌, ◌++◌, ap, subst, sym}
use Rattle.fb_view.specs.Refills.{HasGained}
use Rattle.fb_view.proofs.Bulk.{gained_on}
use Rattle.fb_view.proofs.replaying.Replay.push.Goals as goal

pub returns-clause-gained : goal.returns-clause-gained
returns-clause-gained c = λ h before stands has.
    let self = c.args.self.now in
    let schema = c.in_ok-schema.schema in
    let more = c.in_ok-more.more.items in
    let all = c.in_ok-extend_from_slice.ensures.items ∙ ap (λ l. self.gained.items ++ l) c.deref.ensures.value in
    let next = c.in_ok-more.ensures h stands (c.in_ok-schema.ensures h stands) in
    subst (HasGained before schema) (sym all) (gained_on before self.schema schema self.gained.items more has (λ a. (next a).0))
