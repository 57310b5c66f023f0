use Rattle.tx_model.proofs.SameEntities.{changes_in_any_order, facts_in_any_order, rules_in_any_order}
use Rattle.tx_model.proofs.order.orders_with_the_same_entities_agree.Goals as goal

pub returns : goal.returns
returns c =
    record {
      changes = λ db asks other same entities. changes_in_any_order db asks other (λ form. (same form).0) (λ form. (same form).1) entities;
      facts = λ db asks other same entities. facts_in_any_order db asks other (λ form. (same form).0) (λ form. (same form).1) entities;
      rules = λ db asks other same entities. rules_in_any_order db asks other (λ form. (same form).0) (λ form. (same form).1) entities;
    }
