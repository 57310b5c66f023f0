-- The items of a slice of bytes are bytes.
use Rattle.std.proofs.Common.{◌<◌, ℕ, List, get_or, subst}
use Rattle.std.proofs.lemmas.List.{get_or_default}
use Rattle.log_model.specs.Fields.{AreAllBytes}

pub are_bytes : (bytes : List ℕ) → ((i : ℕ) → get_or bytes i 0 < 256) → AreAllBytes bytes
are_bytes bytes each k d below = subst (λ b. b < 256) (get_or_default bytes k 0 d below) (each k)
