use Rattle.tx_model.proofs.FormOrder.{same_changes, same_facts}
use Rattle.tx_model.proofs.order.the_same_is_recorded_in_any_order.Goals as goal

pub returns : goal.returns
returns c =
    record {
      changes = λ db names asks other same. same_changes db names asks other (λ form. (same form).0) (λ form. (same form).1);
      facts = λ db names asks other same. same_facts db names asks other (λ form. (same form).0) (λ form. (same form).1);
    }
