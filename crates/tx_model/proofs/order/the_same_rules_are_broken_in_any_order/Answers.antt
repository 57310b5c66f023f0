use Rattle.tx_model.proofs.SameRules.{same_rules, same_least_rule}
use Rattle.tx_model.proofs.order.the_same_rules_are_broken_in_any_order.Goals as goal

pub returns : goal.returns
returns c =
    record {
      each = λ db names asks other same. same_rules db names asks other (λ form. (same form).0) (λ form. (same form).1);
      least = λ db names asks other same. same_least_rule db names asks other (λ form. (same form).0) (λ form. (same form).1);
    }
