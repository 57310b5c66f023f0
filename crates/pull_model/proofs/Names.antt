-- Names in the order of their bytes.
use Rattle.std.proofs.Common.{◌≡◌, ℕ, Bool, true, false, cond, List, [], ◌∷◌, refl, ap, sym, subst}
use Rattle.std.specs.Ordering.{is_lt}
use Rattle.std.proofs.lemmas.Cmp.{nat_list_cmp_total, tied_itself}
use Rattle.fb_values.specs.Orders.{text_cmp}
use Rattle.pull_model.specs.Found.{put_name}

not_below_itself : (k : List ℕ) → is_lt (text_cmp k k) ≡ false
not_below_itself k = ap is_lt (tied_itself nat_list_cmp_total k)

-- where the name goes, by whether it is below the first one and whether the first is below it
abbrev put_by : Bool → Bool → List ℕ → List ℕ → List (List ℕ) → List (List ℕ)
put_by below above k l ls = cond below (k ∷ l ∷ ls) (cond above (l ∷ put_name k ls) (l ∷ ls))

pub put_twice : (k : List ℕ) (ls : List (List ℕ)) → put_name k (put_name k ls) ≡ put_name k ls
put_twice k [] = subst (λ b. put_by b b k k [] ≡ k ∷ []) (sym (not_below_itself k)) refl
put_twice k (l ∷ ls) = go (put_twice k ls) (is_lt (text_cmp k l)) refl (is_lt (text_cmp l k)) refl
  where
    go : put_name k (put_name k ls) ≡ put_name k ls
        → (below : Bool) → is_lt (text_cmp k l) ≡ below → (above : Bool) → is_lt (text_cmp l k) ≡ above
        → put_name k (put_by below above k l ls) ≡ put_by below above k l ls
    go rest true is above other = subst (λ b. put_by b b k k (l ∷ ls) ≡ k ∷ l ∷ ls) (sym (not_below_itself k)) refl
    go rest false is true other =
        subst (λ b. put_by b (is_lt (text_cmp l k)) k l (put_name k ls) ≡ l ∷ put_name k ls) (sym is)
        (subst (λ b. put_by false b k l (put_name k ls) ≡ l ∷ put_name k ls) (sym other) (ap (λ names. l ∷ names) rest))
    go rest false is false other =
        subst (λ b. put_by b (is_lt (text_cmp l k)) k l ls ≡ l ∷ ls) (sym is)
        (subst (λ b. put_by false b k l ls ≡ l ∷ ls) (sym other) refl)
