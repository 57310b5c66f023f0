use Rattle.std.proofs.Common.{subst}
use Rattle.std.proofs.lemmas.Result.{IfOk-weaker}
use Rattle.log_sweep.specs.declared.law.Law.TheVariants.{OneHolderEach}
use Rattle.log_sweep.specs.Groups.{lent, Keeps}
use Rattle.log_sweep.proofs.Grouped.{unique-kept}
use Rattle.log_sweep.proofs.together.keep_holders.Goals as goal

pub returns : goal.returns
returns c =
    let schema = c.args.schema.now in
    IfOk-weaker c.keeps.result _ _
    (λ keep kept holds. unique-kept schema (lent c.args.datoms.now)
    (subst (λ l. Keeps OneHolderEach schema l) c.in_ok-unique.ensures (kept holds))) c.keeps.ensures.kept
