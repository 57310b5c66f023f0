-- Where a name stands last, as filters come one behind another.
use Rattle.std.proofs.Common.{◌≡◌, ℕ, suc, ◌+◌, ◌<◌, Bool, true, false, List, [], ◌∷◌, ◌++◌, length, bytes_eq, cond, Option, Some, None}
use Rattle.std.proofs.Common.{refl, ◌∙◌, ap, arith, add-one, ◌≤◌, ◌-◌, take, get_or, length-take}
use Rattle.std.proofs.Math.Seq.{take-suc}
use Rattle.std.specs.Option.{option_map_or}
use Rattle.fb_preds.specs.declared.filters.NamedFilter.{NamedFilter}
use Rattle.fb_preds.specs.Table.{last_place}

behind : (b : Bool) (n : ℕ) (rest alone : Option ℕ)
    → option_map_or (λ place. Some (place + 1)) (cond b (Some n) rest) alone
    ≡ cond b (Some (suc n)) (option_map_or (λ place. Some (place + 1)) rest alone)
behind true n rest alone = ap Some (add-one n)
behind false n rest alone = refl

pub last_place-snoc : {S K : Type 0} (name : List ℕ) (xs : List (NamedFilter S K)) (x : NamedFilter S K)
    → last_place name (xs ++ x ∷ []) ≡ cond (bytes_eq x.name name) (Some (length xs)) (last_place name xs)
last_place-snoc name [] x = refl
last_place-snoc name (y ∷ xs) x =
    ap (λ found. option_map_or (λ place. Some (place + 1)) found (cond (bytes_eq y.name name) (Some 0) None)) (last_place-snoc name xs x)
    ∙ behind (bytes_eq x.name name) (length xs) (last_place name xs) _

-- where the last of the first filters has the name, or has not
pub last_place-take : {S K : Type 0} (name : List ℕ) (xs : List (NamedFilter S K)) (end : ℕ) (d : NamedFilter S K) (b : Bool) → 0 < end
    → end ≤ length xs
    → bytes_eq (get_or xs (end - 1) d).name name ≡ b
    → last_place name (take end xs) ≡ cond b (Some (end - 1)) (last_place name (take (end - 1) xs))
last_place-take name xs end d b some within same =
    let is_next : end ≡ suc (end - 1) = omega arith in
    let below : end - 1 < length xs = omega arith in
    let counted : length (take (end - 1) xs) ≡ end - 1 = omega (arith, length-take (end - 1) xs) in
    ap (λ n. last_place name (take n xs)) is_next
    ∙ ap (last_place name) (take-suc xs (end - 1) d below)
    ∙ last_place-snoc name (take (end - 1) xs) (get_or xs (end - 1) d)
    ∙ ap (λ n. cond (bytes_eq (get_or xs (end - 1) d).name name) (Some n) (last_place name (take (end - 1) xs))) counted
    ∙ ap (λ v. cond v (Some (end - 1)) (last_place name (take (end - 1) xs))) same
