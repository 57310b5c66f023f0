use Rattle.std.proofs.lemmas.Bool.{and_parts}
use Rattle.tx_after.proofs.laws.datoms_in_order_are_changes.Goals as goal

pub returns : goal.returns
returns c =
    λ h entry ordered. let first = (and_parts _ _ (and_parts _ _ ordered).0) in record { t = entry.t; of_t = first.0; rising = first.1 }
