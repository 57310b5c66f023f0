use Rattle.std.proofs.lemmas.Result.{IfOk-weaker}
use Rattle.log_sweep.proofs.Grouped.{triples-kept}
use Rattle.log_sweep.proofs.together.keep_values_and_changes.Goals as goal

pub returns : goal.returns
returns c =
    IfOk-weaker c.keeps-2.result _ _
    (λ keep kept holds. record {
      changes = triples-kept c.args.schema.now _ _ c.in_ok-keep_values.ensures.stable (kept holds);
      values = c.in_ok-keep_values.ensures.kept c.if-not-keep_values.false;
    }) c.keeps-2.ensures.kept
