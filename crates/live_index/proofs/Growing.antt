-- What the list of the live index is after each step of an entry.
use Rattle.std.proofs.Common.{◌≡◌, ℕ, zero, suc, ◌+◌, ◌<◌, ◌≤◌, ◌⊎◌, Bool, true, false, cond, List, [], ◌∷◌, ◌++◌, length, take, get_or}
use Rattle.std.proofs.Common.{sym, ap, ◌∙◌, subst, inl, inr, arith}
use Rattle.std.specs.Prelude.{◌↔◌, Contains, filter, IsTrue, IfOk, Result, Ok, Err}
use Rattle.std.specs.List.{All}
use Rattle.std.proofs.lemmas.List.{take_more, take_all, get_or_default}
use Rattle.std.proofs.lemmas.List.Elements.{Contains-append_left, Contains-push}
use Rattle.std.proofs.lemmas.List.Elements.{Contains-push_cases}
use Rattle.fb_values.specs.declared.facts.Datom.{Datom}
use Rattle.fb_values.specs.declared.indexes.Order.{Order}
use Rattle.fb_covers.specs.Coverage.{Coverage, StaysIn}
use Rattle.fb_values.specs.Rising.{IsBelowAll, IsRising}
use Rattle.live_index.specs.Growth.{HasNoTwins, is_held, IsGrown}
use Rattle.live_index.proofs.Members.{contains-cons, contains_none}

-- the members of the new list are those of the old one and these
abbrev pub Gains : List Datom → (Datom → Type 0) → List Datom → Type 0
Gains old P new = (d : Datom) → Contains new d ↔ (Contains old d ⊎ P d)

-- a list of fewer members has no twins either
pub single_part : (xs ys : List Datom) → ((d : Datom) → Contains xs d → Contains ys d) → HasNoTwins ys → HasNoTwins xs
single_part xs ys within single x y at_x at_y same = single x y (within x at_x) (within y at_y) same

pub from_take : {X : Type 0} (n : ℕ) (xs : List X) (x : X) → Contains (take n xs) x → Contains xs x
from_take zero xs x there = absurd (contains_none x there)
from_take (suc n) [] x there = absurd (contains_none x there)
from_take (suc n) (y ∷ xs) x there =
    elim (contains-cons y (take n xs) x there) [
      | inl same ↦ (0, omega arith, same)
      | inr behind ↦ let at = from_take n xs x behind in (suc at.0, omega (arith, at.1), at.2)
    ]

pub gains_more : (old list datoms new : List Datom) (i : ℕ) (item : Datom) (P : Datom → Type 0)
    → Gains old (λ d. Contains (take i datoms) d × P d) list → i < length datoms → item ≡ get_or datoms i item
    → Gains list (λ d. (item ≡ d) × P d) new → Gains old (λ d. Contains (take (i + 1) datoms) d × P d) new
gains_more old list datoms new i item P gains within is one d =
    let split : take (i + 1) datoms ≡ take i datoms ++ item ∷ [] =
    take_more datoms i item within ∙ ap (λ (z : Datom). take i datoms ++ z ∷ []) (sym is) in (
      λ there. elim ((one d).0 there) [
        | inl inside ↦ elim ((gains d).0 inside) [
          | inl before ↦ inl before
          | inr added ↦ inr (rw split (Contains-append_left (take i datoms) (item ∷ []) d added.0), added.1)
        ]
        | inr last ↦ inr (rw split (subst (Contains (take i datoms ++ item ∷ [])) last.0 (Contains-push (take i datoms) item)), last.1)
      ],
      λ given. (one d).1 (elim given [
        | inl before ↦ inl ((gains d).1 (inl before))
        | inr added ↦ elim (Contains-push_cases (take i datoms) item d (rw split at added.0)) [
          | inl inside ↦ inl ((gains d).1 (inr (inside, added.1)))
          | inr same ↦ inr (same, added.1)
        ]
      ]),
    )

pub gains_all : (old list datoms : List Datom) (i : ℕ) (P : Datom → Type 0) → length datoms ≤ i
    → Gains old (λ d. Contains (take i datoms) d × P d) list → Gains old (λ d. Contains datoms d × P d) list
gains_all old list datoms i P over gains = rw (take_all i datoms over) at gains

before-filter : (order : Order) (x : Datom) (p : Datom → Bool) (xs : List Datom) → IsBelowAll order x xs → IsBelowAll order x (filter p xs)
before-filter order x p [] before = tt
before-filter order x p (y ∷ ys) before =
    elim (p y) as (λ b. IsBelowAll order x (cond b (y ∷ filter p ys) (filter p ys))) [
      | true ↦ (before.0, before-filter order x p ys before.1)
      | false ↦ before-filter order x p ys before.1
    ]

pub rising-filter : (order : Order) (p : Datom → Bool) (xs : List Datom) → IsRising order xs → IsRising order (filter p xs)
rising-filter order p [] rising = tt
rising-filter order p (x ∷ xs) rising =
    elim (p x) as (λ b. IsRising order (cond b (x ∷ filter p xs) (filter p xs))) [
      | true ↦ (before-filter order x p xs rising.0, rising-filter order p xs rising.1)
      | false ↦ rising-filter order p xs rising.1
    ]

-- two facts of one answer
pub both_ok : {T E : Type 0} (r : Result T E) (P Q R : T → Type 0) → ((x : T) → P x → Q x → R x) → IfOk r P → IfOk r Q → IfOk r R
both_ok (Ok x) P Q R give p q = give x p q
both_ok (Err e) P Q R give p q = p

-- what is refilled first and then grown has grown by both
pub grown_twice : (order : Order) (coverage : Coverage) (old refill filled datoms new : List Datom)
    → IsGrown order coverage old refill [] filled → IsGrown order coverage filled [] datoms new
    → IsGrown order coverage old refill datoms new
grown_twice order coverage old refill filled datoms new first second =
    record {
      rising = second.rising;
      members = λ d. (
        λ there.
            let m = (second.members d).0 there in (
              elim m.0 [
                | inl older ↦ elim older [
                  | inl was ↦ elim ((first.members d).0 was).0 [
                    | inl before ↦ inl before
                    | inr none ↦ absurd (contains_none d none)
                  ]
                  | inr none ↦ absurd (contains_none d none.1)
                ]
                | inr now ↦ inr now
              ],
              m.1,
            ),
        λ given. (second.members d).1 (
          elim given.0 [
            | inl older ↦ inl (inl ((first.members d).1 (inl older, given.1)))
            | inr now ↦ inr now
          ],
          given.1,
        ),
      );
    }

-- all of a list that has grown are held
pub grown_held : (order : Order) (coverage : Coverage) (old refill datoms new : List Datom) → IsGrown order coverage old refill datoms new
    → All (λ d. IsTrue (is_held coverage order d)) new
grown_held order coverage old refill datoms new is k d within =
    ((is.members (get_or new k d)).0 (k, within, get_or_default new k (get_or new k d) d within)).1

-- where nothing comes and all stays
pub grown_same : (order : Order) (before after : Coverage) (old refill ds : List Datom) → IsRising order old
    → All (λ d. IsTrue (is_held before order d)) old → StaysIn order before after → refill ≡ [] → ds ≡ []
    → IsGrown order after old refill ds old
grown_same order before after old refill ds rising held stays none none_more =
    record {
      rising = rising;
      members = λ x. (
        λ there. (inl (inl there), held_after x there),
        λ given. elim given.0 [
          | inl older ↦ elim older [
            | inl was ↦ was
            | inr filled ↦ absurd (contains_none x (subst (λ (l : List Datom). Contains l x) none filled.1))
          ]
          | inr now ↦ absurd (contains_none x (subst (λ (l : List Datom). Contains l x) none_more now))
        ],
      );
    }
  where
    held_after : (x : Datom) → Contains old x → is_held after order x ≡ true
    held_after x (k, within, is) = ap (is_held after order) (sym is) ∙ stays (get_or old k x).a (held k x within)
