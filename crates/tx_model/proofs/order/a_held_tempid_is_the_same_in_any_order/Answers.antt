use Rattle.tx_model.proofs.SameHolders.{same_entity_of_held}
use Rattle.tx_model.proofs.order.a_held_tempid_is_the_same_in_any_order.Goals as goal

pub returns : goal.returns
returns c =
    λ db asks other same unbroken name is some.
    same_entity_of_held db asks other (λ form. (same form).0) (λ form. (same form).1) unbroken name is some
