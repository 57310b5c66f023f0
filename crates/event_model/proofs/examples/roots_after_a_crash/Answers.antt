-- By what the lists have.
use Rattle.std.proofs.Common.{◌≡◌, ℕ, suc, List, [], ◌∷◌, length, get_or, refl, ap, inl, inr, arith}
use Rattle.std.proofs.lemmas.List.Elements.{All-nil, All-push, All-contains, Contains-push}
use Rattle.event_model.specs.Event.{AreRootsLeft}
use Rattle.event_model.proofs.examples.roots_after_a_crash.Goals as goal

pub returns-clause-all : goal.returns-clause-all
returns-clause-all c = inl ([], refl)

pub returns-clause-last_lost : goal.returns-clause-last_lost
returns-clause-last_lost c = inl (3 ∷ [], refl)

pub returns-clause-none : goal.returns-clause-none
returns-clause-none c = inl (1 ∷ 3 ∷ [], refl)

pub returns-clause-made_room : goal.returns-clause-made_room
returns-clause-made_room c = inr (Contains-push (1 ∷ []) 3, refl)

same_first : {x y : ℕ} {xs ys : List ℕ} → x ∷ xs ≡ y ∷ ys → x ≡ y
same_first same = ap (λ l. get_or l 0 0) same

not_the_first : AreRootsLeft (1 ∷ 3 ∷ []) 1 (3 ∷ []) → ⊥
not_the_first (inl (lost, same)) = let one : 1 ≡ 3 = same_first same in omega (arith, one)
not_the_first (inr (was_kept, same)) = let one : 3 ≡ 1 = same_first same in omega (arith, one)

pub returns-clause-not_the_first : goal.returns-clause-not_the_first
returns-clause-not_the_first c = not_the_first

not_twice : AreRootsLeft (1 ∷ []) 1 (1 ∷ 1 ∷ []) → ⊥
not_twice (inl (lost, same)) = let one : 1 ≡ suc (suc (length lost)) = ap length same in omega (arith, one)
not_twice (inr (was_kept, same)) = let one : 2 ≡ 1 = ap length same in omega (arith, one)

pub returns-clause-not_twice : goal.returns-clause-not_twice
returns-clause-not_twice c = not_twice

not_another : AreRootsLeft (1 ∷ []) 2 (2 ∷ []) → ⊥
not_another (inl (lost, same)) = let one : 1 ≡ 2 = same_first same in omega (arith, one)
not_another (inr (was_kept, same)) =
    let one : 2 ≡ 1 = All-contains (λ x. x ≡ 1) (1 ∷ []) 2 (All-push (λ x. x ≡ 1) [] 1 (All-nil (λ x. x ≡ 1)) refl) was_kept in
    omega (arith, one)

pub returns-clause-not_another : goal.returns-clause-not_another
returns-clause-not_another c = not_another
