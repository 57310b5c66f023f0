use Rattle.std.proofs.lemmas.Result.{IfOk-weaker}
use Rattle.fb_recover.proofs.judging.lawful_history.Goals as goal

pub returns-clause-lawful : goal.returns-clause-lawful
returns-clause-lawful c =
    IfOk-weaker c.into_entries.result _ _ (λ h lawful. lawful c.args.entries.items c.in_ok-judged_one_by_one.ensures)
    c.into_entries.ensures.lawful
