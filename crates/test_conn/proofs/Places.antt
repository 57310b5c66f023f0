-- Places in a list of which one element is changed.
use Rattle.std.proofs.Common.{◌≡◌, ◌⊎◌, inl, inr, ℕ, zero, suc, List, [], ◌∷◌, Some, refl, ap}
use Rattle.std.specs.Prelude.{slice_set}
use Rattle.std.specs.List.{slice_get}

pub set_there : {A : Type 0} (l : List A) (i k : ℕ) (new a : A) → slice_get (slice_set l i new) k ≡ Some a
    → ((k ≡ i) × (new ≡ a)) ⊎ (slice_get l k ≡ Some a)
set_there [] i k new a at = inr at
set_there (x ∷ l) zero zero new a at = let same : new ≡ a = cc in inl (refl, same)
set_there (x ∷ l) zero (suc k) new a at = inr at
set_there (x ∷ l) (suc i) zero new a at = inr at
set_there (x ∷ l) (suc i) (suc k) new a at =
    elim (set_there l i k new a at) [ inl there ↦ inl (ap suc there.0, there.1) | inr later ↦ inr later ]
