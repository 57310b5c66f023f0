use Rattle.std.proofs.Common.{◌∙◌, ap, subst}
use Rattle.std.proofs.lemmas.Result.{IfOk-weaker}
use Rattle.log_sweep.specs.declared.law.Law.TheVariants.{OneHolderEach}
use Rattle.log_sweep.specs.Groups.{lent, Keeps, KeepPlaces}
use Rattle.log_sweep.proofs.together.keep_together.Goals as goal

pub returns : goal.returns
returns c =
    let schema = c.args.schema.now in
    IfOk-weaker c.keep_values_and_changes.result _ _
    (λ keep places holds. record {
      places = subst (λ l. KeepPlaces schema l) c.in_ok-datoms.ensures (places holds);
      holders =
          subst (λ l. Keeps OneHolderEach schema l) (ap lent c.deref.ensures.value ∙ c.in_ok-datoms.ensures)
          (c.in_ok-keep_holders.ensures c.if-not-keep_holders.false);
    }) c.keep_values_and_changes.ensures
