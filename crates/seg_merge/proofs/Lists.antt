-- One item more of a list, and the last of a result.
use Rattle.std.proofs.Common.{◌≡◌, ℕ, zero, suc, ◌+◌, ◌<◌, ◌≤◌, List, [], ◌∷◌, ◌++◌, length, take, drop, get_or, map, refl, sym, ap, ◌∙◌}
use Rattle.std.proofs.Common.{arith, Some, Result, Ok, Err}
use Rattle.std.specs.Prelude.{IfOk}
use Rattle.std.specs.List.{slice_get}
use Rattle.std.specs.Option.{option_map}
use Rattle.std.proofs.lemmas.List.{take_more}
use Rattle.std.proofs.lemmas.Option.{slice_get-map, slice_get-get_or}

pub take_item : {X : Type 0} (xs : List X) (k : ℕ) (x : X) → k < length xs → x ≡ get_or xs k x → take (k + 1) xs ≡ take k xs ++ x ∷ []
take_item xs k x within is = take_more xs k x within ∙ ap (λ y. take k xs ++ y ∷ []) (sym is)

pub drop_item : {X : Type 0} (xs : List X) (k : ℕ) (x : X) → k < length xs → x ≡ get_or xs k x → drop k xs ≡ x ∷ drop (k + 1) xs
drop_item [] k x within is = absurd (omega arith)
drop_item (y ∷ ys) zero x within is = ap (λ z. z ∷ ys) (sym is)
drop_item (y ∷ ys) (suc k) x within is =
    let e : suc k + 1 ≡ suc (k + 1) = omega arith in
    rw e (drop_item ys k x (omega arith) is)

pub drop_all : {X : Type 0} (xs : List X) (k : ℕ) → length xs ≤ k → drop k xs ≡ []
drop_all [] zero past = refl
drop_all [] (suc k) past = refl
drop_all (x ∷ xs) zero past = absurd (omega arith)
drop_all (x ∷ xs) (suc k) past = drop_all xs k (omega arith)

pub none_of_zero : {X : Type 0} (xs : List X) → length xs ≡ 0 → xs ≡ []
none_of_zero [] is = refl
none_of_zero (x ∷ xs) is = absurd (omega arith)

pub read_at : {X Y : Type 0} (now : X → Y) (xs : List X) (k : ℕ) (x : X) → k < length xs → x ≡ get_or xs k x
    → slice_get (map now xs) k ≡ Some (now x)
read_at now xs k x within is =
    slice_get-map now xs k ∙ ap (option_map now) (slice_get-get_or xs k x within) ∙ ap (λ y. Some (now y)) (sym is)

pub length_map : {X Y : Type 0} (now : X → Y) (xs : List X) → length (map now xs) ≡ length xs
length_map now [] = refl
length_map now (x ∷ xs) = ap suc (length_map now xs)

-- four facts of a value
pub if_ok_four : {X E : Type 0} (r : Result X E) (P Q S T W : X → Type 0) → ((x : X) → P x → Q x → S x → T x → W x) → IfOk r P → IfOk r Q
    → IfOk r S → IfOk r T → IfOk r W
if_ok_four (Ok x) P Q S T W f p q s t = f x p q s t
if_ok_four (Err e) P Q S T W f p q s t = p
