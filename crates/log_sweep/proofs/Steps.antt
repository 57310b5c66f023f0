-- The laws along the datoms of a history: what is asked of the groups of those that are left, one datom and one entry further.
use Rattle.std.proofs.Common.{◌≡◌, ℕ, Bool, true, false, cond, not, ◌||◌, List, [], ◌∷◌, ◌++◌, refl, ap, sym, ◌∙◌, subst}
use Rattle.std.proofs.Common.{length, eqb, leb, append_assoc}
use Rattle.std.specs.Prelude.{filter}
use Rattle.std.specs.List.{list_all}
use Rattle.std.proofs.lemmas.Bool.{true≢false, and_parts, or_left, not-true, eqb-true}
use Rattle.std.proofs.lemmas.List.{append-nil}
use Rattle.fb_values.specs.declared.facts.Datom.{Datom}
use Rattle.fb_model.specs.Facts.{standing}
use Rattle.fb_model.specs.Schema.{is_one, is_unique}
use Rattle.fb_model.proofs.Untouched.{standing-untouched}
use Rattle.log_sweep.specs.declared.law.Law.{Law}
use Rattle.log_sweep.specs.declared.law.Law.TheVariants.{ChangesAlone, OneValueEach, OneHolderEach}
use Rattle.log_sweep.specs.Groups.{alike, asks_of, allows, stands, is_at, keeps_in}
use Rattle.log_sweep.proofs.Orders.{alike-refl, alike-IsOnTriples, same_place, same_content}
use Rattle.log_sweep.proofs.Counts.{stand-push}

-- how many of the group stand after the datoms
abbrev pub standing_in : Law → Datom → List Datom → ℕ
standing_in law d p = length (filter (alike law d) (standing p))

-- the groups of ws keep the law after p
abbrev pub KeepsAfter : Law → List Datom → List Datom → List Datom → Type 0
KeepsAfter law schema p ws =
    (d : Datom) → asks_of law schema d.a ≡ true → keeps_in law schema (standing_in law d p) (filter (alike law d) ws) ≡ true

-- at most one of a group stands after p, or its next datom is of this t
abbrev pub IsSettled : Law → List Datom → List Datom → ℕ → List Datom → Type 0
IsSettled law schema p k ws =
    (d : Datom) → asks_of law schema d.a ≡ true → (leb (standing_in law d p) 1 || is_at k (filter (alike law d) ws)) ≡ true

abbrev pub IsSingle : Law → List Datom → List Datom → Type 0
IsSingle law schema p = (d : Datom) → asks_of law schema d.a ≡ true → leb (standing_in law d p) 1 ≡ true

-- ---- one datom further

-- the first of the datoms takes its turn
turn_of : (schema p : List Datom) (x : Datom) (ws : List Datom) → KeepsAfter ChangesAlone schema p (x ∷ ws)
    → cond x.added (eqb (standing_in ChangesAlone x p) 0) (not (eqb (standing_in ChangesAlone x p) 0)) ≡ true
turn_of schema p x ws changes =
    (and_parts _ _ (subst (λ b. keeps_in ChangesAlone schema (standing_in ChangesAlone x p)
    (cond b (x ∷ filter (alike ChangesAlone x) ws) (filter (alike ChangesAlone x) ws)) ≡ true) (alike-refl ChangesAlone x) (changes x refl))).0

module _ (law : Law) (schema p : List Datom) (x : Datom) (ws : List Datom) (changes : KeepsAfter ChangesAlone schema p (x ∷ ws)) (d : Datom) where
  counted_on : alike law d x ≡ true → standing_in law d (p ++ x ∷ []) ≡ stands (standing_in law d p) x
  counted_on is = stand-push x (alike law d) (alike-IsOnTriples law d) is p (turn_of schema p x ws changes)

  as_before : alike law d x ≡ false → standing_in law d (p ++ x ∷ []) ≡ standing_in law d p
  as_before is = ap length (standing-untouched (alike law d) (alike-IsOnTriples law d) p (x ∷ []) (rw is refl))

next-KeepsAfter : (law : Law) (schema p : List Datom) (x : Datom) (ws : List Datom) → KeepsAfter ChangesAlone schema p (x ∷ ws)
    → KeepsAfter law schema p (x ∷ ws) → KeepsAfter law schema (p ++ x ∷ []) ws
next-KeepsAfter law schema p x ws changes keeps = λ d asks. go d (alike law d x) refl (keeps d asks)
  where
    go : (d : Datom) (b : Bool) → alike law d x ≡ b
        → keeps_in law schema (standing_in law d p) (cond b (x ∷ filter (alike law d) ws) (filter (alike law d) ws)) ≡ true
        → keeps_in law schema (standing_in law d (p ++ x ∷ [])) (filter (alike law d) ws) ≡ true
    go d true is kept =
        subst (λ n. keeps_in law schema n (filter (alike law d) ws) ≡ true) (sym (counted_on law schema p x ws changes d is))
        (and_parts (allows law schema (standing_in law d p) x (is_at x.t (filter (alike law d) ws)))
        (keeps_in law schema (stands (standing_in law d p) x) (filter (alike law d) ws)) kept).1
    go d false is kept =
        subst (λ n. keeps_in law schema n (filter (alike law d) ws) ≡ true) (sym (as_before law schema p x ws changes d is)) kept

-- the two laws that limit how many stand
abbrev pub is_limit : Law → Bool
is_limit ChangesAlone = false
is_limit OneValueEach = true
is_limit OneHolderEach = true

within : (at few asked : Bool) → (at || (few || not asked)) ≡ true → asked ≡ true → (few || at) ≡ true
within true true asked allowed asks = refl
within true false asked allowed asks = refl
within false true asked allowed asks = refl
within false false true allowed asks = allowed
within false false false allowed asks = asks

limited : (law : Law) → is_limit law ≡ true → (schema : List Datom) (n : ℕ) (d x : Datom) (at : Bool) → alike law d x ≡ true
    → asks_of law schema d.a ≡ true → allows law schema n x at ≡ true → (leb (stands n x) 1 || at) ≡ true
limited ChangesAlone limit schema n d x at is asks allowed = absurd (true≢false (sym limit))
limited OneValueEach limit schema n d x at is asks allowed =
    within at (leb (stands n x) 1) (is_one schema x.a) allowed (subst (λ a. is_one schema a ≡ true) (same_place d x is).1 asks)
limited OneHolderEach limit schema n d x at is asks allowed =
    within at (leb (stands n x) 1) (is_unique schema x.a) allowed (subst (λ a. is_unique schema a ≡ true) (same_content d x is).0 asks)

next-IsSettled : (law : Law) → is_limit law ≡ true → (schema p : List Datom) (k : ℕ) (x : Datom) (ws : List Datom) → x.t ≡ k
    → KeepsAfter ChangesAlone schema p (x ∷ ws) → KeepsAfter law schema p (x ∷ ws) → IsSettled law schema p k (x ∷ ws)
    → IsSettled law schema (p ++ x ∷ []) k ws
next-IsSettled law limit schema p k x ws t_is changes keeps settled = λ d asks. go d asks (alike law d x) refl (keeps d asks) (settled d asks)
  where
    go : (d : Datom) → asks_of law schema d.a ≡ true → (b : Bool) → alike law d x ≡ b
        → keeps_in law schema (standing_in law d p) (cond b (x ∷ filter (alike law d) ws) (filter (alike law d) ws)) ≡ true
        → (leb (standing_in law d p) 1 || is_at k (cond b (x ∷ filter (alike law d) ws) (filter (alike law d) ws))) ≡ true
        → (leb (standing_in law d (p ++ x ∷ [])) 1 || is_at k (filter (alike law d) ws)) ≡ true
    go d asks true is kept before =
        subst (λ n. (leb n 1 || is_at k (filter (alike law d) ws)) ≡ true) (sym (counted_on law schema p x ws changes d is))
        (subst (λ t. (leb (stands (standing_in law d p) x) 1 || is_at t (filter (alike law d) ws)) ≡ true) t_is
        (limited law limit schema (standing_in law d p) d x (is_at x.t (filter (alike law d) ws)) is asks
        (and_parts (allows law schema (standing_in law d p) x (is_at x.t (filter (alike law d) ws)))
        (keeps_in law schema (stands (standing_in law d p) x) (filter (alike law d) ws)) kept).0))
    go d asks false is kept before =
        subst (λ n. (leb n 1 || is_at k (filter (alike law d) ws)) ≡ true) (sym (as_before law schema p x ws changes d is)) before

-- ---- one entry further

-- the three laws after p, where at most one of a group stands
pub record Keeping (schema p ws : List Datom) : Type 0 where
  pub changes : KeepsAfter ChangesAlone schema p ws
  pub values : KeepsAfter OneValueEach schema p ws
  pub holders : KeepsAfter OneHolderEach schema p ws
  pub one : IsSingle OneValueEach schema p
  pub sole : IsSingle OneHolderEach schema p

-- within an entry of this t
record Within (schema p : List Datom) (k : ℕ) (ws : List Datom) : Type 0 where
  pub changes : KeepsAfter ChangesAlone schema p ws
  pub values : KeepsAfter OneValueEach schema p ws
  pub holders : KeepsAfter OneHolderEach schema p ws
  pub one : IsSettled OneValueEach schema p k ws
  pub sole : IsSettled OneHolderEach schema p k ws

next-Within : (schema p : List Datom) (k : ℕ) (x : Datom) (ws : List Datom) → x.t ≡ k → Within schema p k (x ∷ ws)
    → Within schema (p ++ x ∷ []) k ws
next-Within schema p k x ws t_is w =
    record {
      changes = next-KeepsAfter ChangesAlone schema p x ws w.changes w.changes;
      values = next-KeepsAfter OneValueEach schema p x ws w.changes w.values;
      holders = next-KeepsAfter OneHolderEach schema p x ws w.changes w.holders;
      one = next-IsSettled OneValueEach refl schema p k x ws t_is w.changes w.values w.one;
      sole = next-IsSettled OneHolderEach refl schema p k x ws t_is w.changes w.holders w.sole;
    }

all-Within : (schema p : List Datom) (k : ℕ) (xs ws : List Datom) → list_all (λ d. eqb d.t k) xs ≡ true → Within schema p k (xs ++ ws)
    → Within schema (p ++ xs) k ws
all-Within schema p k [] ws own w = subst (λ l. Within schema l k ws) (sym (append-nil p)) w
all-Within schema p k (x ∷ xs) ws own w =
    let parts = and_parts (eqb x.t k) (list_all (λ d. eqb d.t k) xs) own in
    subst (λ l. Within schema l k ws) (append_assoc p (x ∷ []) xs)
    (all-Within schema (p ++ x ∷ []) k xs ws parts.1 (next-Within schema p k x (xs ++ ws) (eqb-true x.t k parts.0) w))

not_at : (k : ℕ) (q : Datom → Bool) (ws : List Datom) → list_all (λ d. not (eqb d.t k)) ws ≡ true → is_at k (filter q ws) ≡ false
not_at k q [] others = refl
not_at k q (w ∷ ws) others =
    let parts = and_parts (not (eqb w.t k)) (list_all (λ d. not (eqb d.t k)) ws) others in
    go (q w) (not-true _ parts.0) (not_at k q ws parts.1)
  where
    go : (b : Bool) → eqb w.t k ≡ false → is_at k (filter q ws) ≡ false → is_at k (cond b (w ∷ filter q ws) (filter q ws)) ≡ false
    go true other rest = other
    go false other rest = rest

single : (law : Law) (schema p : List Datom) (k : ℕ) (ws : List Datom) → list_all (λ d. not (eqb d.t k)) ws ≡ true
    → IsSettled law schema p k ws → IsSingle law schema p
single law schema p k ws others settled = λ d asks.
    go (leb (standing_in law d p) 1) (is_at k (filter (alike law d) ws)) (not_at k (alike law d) ws others) (settled d asks)
  where
    go : (a b : Bool) → b ≡ false → (a || b) ≡ true → a ≡ true
    go true b none some = refl
    go false b none some = absurd (true≢false (sym some ∙ none))

pub entry-Keeping : (schema p : List Datom) (k : ℕ) (xs ws : List Datom) → list_all (λ d. eqb d.t k) xs ≡ true
    → list_all (λ d. not (eqb d.t k)) ws ≡ true → Keeping schema p (xs ++ ws) → Keeping schema (p ++ xs) ws
entry-Keeping schema p k xs ws own others keeping =
    let w : Within schema p k (xs ++ ws) = record {
      changes = keeping.changes;
      values = keeping.values;
      holders = keeping.holders;
      one = λ d asks. or_left _ _ (keeping.one d asks);
      sole = λ d asks. or_left _ _ (keeping.sole d asks);
    } in
    let after = all-Within schema p k xs ws own w in
    record {
      changes = after.changes;
      values = after.values;
      holders = after.holders;
      one = single OneValueEach schema (p ++ xs) k ws others after.one;
      sole = single OneHolderEach schema (p ++ xs) k ws others after.sole;
    }
