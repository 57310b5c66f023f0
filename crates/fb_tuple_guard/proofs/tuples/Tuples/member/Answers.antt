-- The first of the values is the least.
use Rattle.std.proofs.Common.{◌∙◌, ap}
use Rattle.std.proofs.lemmas.Result.{IfOk-weaker}
use Rattle.fb_tuple_guard.specs.Sharing.{first_of}
use Rattle.fb_tuple_guard.proofs.Least.{first-least}
use Rattle.fb_tuple_guard.proofs.tuples.Tuples.member.Goals as goal

pub returns : goal.returns
returns c =
    IfOk-weaker c.first.result _ _
    (λ v is. is ∙ ap first_of (c.deref.ensures.value ∙ c.in_ok-values.ensures)
    ∙ first-least c.args.self.now.before.now.entries c.args.self.now.changes.now c.args.e c.args.a)
    c.first.ensures
