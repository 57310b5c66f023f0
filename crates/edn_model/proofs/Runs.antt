-- One list is cut in one way into a run of bytes that pass a test, and what stops it.
use Rattle.std.proofs.Common.{◌≡◌, ℕ, Bool, true, false, List, [], ◌∷◌, ◌++◌, take, drop, refl, ap, sym, inl, inr, add-one}
use Rattle.std.proofs.Math.Nat.{add_comm}
use Rattle.std.proofs.lemmas.Bool.{cases_Bool}
use Rattle.std.specs.Prelude.{◌&&◌}
use Rattle.std.specs.List.{list_all, prefix_len}
use Rattle.edn_model.specs.Runs.{Each, Stops}

pub both : (a b : Bool) → (a && b) ≡ true → (a ≡ true) × (b ≡ true)
both true b h = (refl, h)
both false b h = cc

pub both_true : (a b : Bool) → a ≡ true → b ≡ true → (a && b) ≡ true
both_true true b h k = k
both_true false b h k = h

pub Each-tail : (test : ℕ → Bool) (b : ℕ) (bytes : List ℕ) → Each test (b ∷ bytes) → (test b ≡ true) × Each test bytes
Each-tail test b bytes h = both (test b) (list_all test bytes) h

pub Each-append : (test : ℕ → Bool) (a b : List ℕ) → Each test a → Each test b → Each test (a ++ b)
Each-append test [] b h k = k
Each-append test (x ∷ a) b h k =
    let parts = Each-tail test x a h in
    both_true (test x) (list_all test (a ++ b)) parts.0 (Each-append test a b parts.1 k)

pub Each-weaken : (test other : ℕ → Bool) → ((b : ℕ) → test b ≡ true → other b ≡ true) → (bytes : List ℕ) → Each test bytes
    → Each other bytes
Each-weaken test other weaker [] h = refl
Each-weaken test other weaker (x ∷ bytes) h =
    let parts = Each-tail test x bytes h in
    both_true (other x) (list_all other bytes) (weaker x parts.0) (Each-weaken test other weaker bytes parts.1)

pub heads : {a b : ℕ} {x y : List ℕ} → a ∷ x ≡ b ∷ y → a ≡ b
heads e = cc

pub tails : {a b : ℕ} {x y : List ℕ} → a ∷ x ≡ b ∷ y → x ≡ y
tails e = cc

pub stop_differs : (test : ℕ → Bool) (b : ℕ) (x rest : List ℕ) → Stops test x → x ≡ b ∷ rest → test b ≡ true → ⊥
stop_differs test b [] rest stops e h = cc
stop_differs test b (c ∷ x) rest stops e h =
    let same : test c ≡ test b = ap test (heads e) in cc

-- one list is cut in one way into a run and what stops it
pub one_run : (test : ℕ → Bool) (a b x y : List ℕ) → Each test a → Each test b → Stops test x → Stops test y → a ++ x ≡ b ++ y
    → (a ≡ b) × (x ≡ y)
one_run test [] [] x y ha hb sx sy e = (refl, e)
one_run test [] (c ∷ b) x y ha hb sx sy e = absurd (stop_differs test c x (b ++ y) sx e (Each-tail test c b hb).0)
one_run test (c ∷ a) [] x y ha hb sx sy e = absurd (stop_differs test c y (a ++ x) sy (sym e) (Each-tail test c a ha).0)
one_run test (c ∷ a) (d ∷ b) x y ha hb sx sy e =
    let rest = one_run test a b x y (Each-tail test c a ha).1 (Each-tail test d b hb).1 sx sy (tails e) in
    let same_head = heads e in
    let same_tail = rest.0 in
    (cc, rest.1)

-- the longest run that passes
pub prefix_passes : (test : ℕ → Bool) (xs : List ℕ) → Each test (take (prefix_len test xs) xs)
prefix_passes test [] = refl
prefix_passes test (x ∷ xs) =
    elim (cases_Bool (test x)) [
      | inl passes ↦ rw (passes, add_comm 1 (prefix_len test xs), add-one) (both_true (test x) _ passes (prefix_passes test xs))
      | inr fails ↦ rw fails refl
    ]

pub prefix_stops : (test : ℕ → Bool) (xs : List ℕ) → Stops test (drop (prefix_len test xs) xs)
prefix_stops test [] = tt
prefix_stops test (x ∷ xs) =
    elim (cases_Bool (test x)) [
      | inl passes ↦ rw (passes, add_comm 1 (prefix_len test xs), add-one) (prefix_stops test xs)
      | inr fails ↦ rw fails fails
    ]
