-- Else all facts of the attribute are read.
use Rattle.std.proofs.lemmas.Result.{IfOk-weaker}
use Rattle.fb_tuple_guard.proofs.Held.{under_all}
use Rattle.fb_tuple_guard.proofs.holders.facts_with.Goals as goal

pub returns : goal.returns
returns c =
    IfOk-weaker c.facts_under.result _ _
    (λ ds is. under_all c.the_lists_are_the_rising_ones.ensures c.args.before.now.entries c.args.a c.args.v.now ds is) c.facts_under.ensures
