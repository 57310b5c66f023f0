use Rattle.tx_model.proofs.Users.{basis_small, few_users, users_fit}
use Rattle.tx_model.proofs.lawful.lawful_histories_are_small.Goals as goal

pub returns : goal.returns
returns c = record { t = basis_small; users_each = few_users; users = users_fit }
