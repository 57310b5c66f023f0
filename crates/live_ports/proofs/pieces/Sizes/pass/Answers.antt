use Rattle.std.proofs.Common.{◌≡◌, ℕ, zero, suc, List, [], ◌∷◌, drop, refl, ap, ◌∙◌, add-one}
use Rattle.live_ports.specs.Pieces.{later_sizes}
use Rattle.live_ports.proofs.pieces.Sizes.pass.Goals as goal

later_of_drop : (n : ℕ) (sizes : List ℕ) → drop (suc n) sizes ≡ later_sizes (drop n sizes)
later_of_drop zero [] = refl
later_of_drop zero (size ∷ sizes) = refl
later_of_drop (suc n) [] = refl
later_of_drop (suc n) (size ∷ sizes) = later_of_drop n sizes

pub returns-then-self-len : goal.returns-then-self-len
returns-then-self-len c =
    rw add-one (later_of_drop c.self.inside.used c.self.inside.sizes.items ∙ ap later_sizes c.self.view_is)
