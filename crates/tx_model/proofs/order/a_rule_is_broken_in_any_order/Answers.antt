use Rattle.tx_model.proofs.FormOrder.{broken_by_one}
use Rattle.tx_model.proofs.order.a_rule_is_broken_in_any_order.Goals as goal

pub returns : goal.returns
returns c = λ test asks other same. broken_by_one test asks other (λ form. (same form).0) (λ form. (same form).1)
