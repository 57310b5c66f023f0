-- The first of a list, by a number and by a limit.
use Rattle.std.proofs.Common.{◌≡◌, ◌∙◌, ℕ, zero, suc, ◌+◌, List, [], ◌∷◌, take, map, min, refl, ap, Option, Some, None, arith}
use Rattle.std.proofs.lemmas.List.{take-map}
use Rattle.pull_model.specs.Patterns.{Limit, first, all}
use Rattle.pull_model.specs.Made.{limited}
use Rattle.fb_pull.specs.Finding.{upto, most_in, most_entities}

pub upto-map : {X Y : Type 0} (f : X → Y) (most : Option ℕ) (list : List X) → upto most (map f list) ≡ map f (upto most list)
upto-map f None list = refl
upto-map f (Some n) list = take-map f n list

pub upto-limited : {X : Type 0} (limit : Limit) (list : List X) → upto (most_in limit) list ≡ limited limit list
upto-limited (first n) list = refl
upto-limited all list = refl

take-take : {X : Type 0} (m n : ℕ) (list : List X) → take (min m n) list ≡ take m (take n list)
take-take zero n list = ap (λ k. take k list) none
  where
    none : min 0 n ≡ 0
    none = omega arith
take-take (suc m) zero list = ap (λ k. take k list) none
  where
    none : min (suc m) 0 ≡ 0
    none = omega arith
take-take (suc m) (suc n) [] = ap (λ k. take k []) both
  where
    both : min (suc m) (suc n) ≡ suc (min m n)
    both = omega arith
take-take (suc m) (suc n) (x ∷ list) = ap (λ k. take k (x ∷ list)) both ∙ ap (λ l. x ∷ l) (take-take m n list)
  where
    both : min (suc m) (suc n) ≡ suc (min m n)
    both = omega arith

pub most-limited : {X : Type 0} (limit : Limit) (maps : ℕ) (list : List X)
    → take (most_entities limit maps) list ≡ take (maps + 1) (limited limit list)
most-limited (first n) maps list = take-take (maps + 1) n list
most-limited all maps list = refl
