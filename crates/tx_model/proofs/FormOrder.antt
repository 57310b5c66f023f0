-- What the order of forms does not tell: whether one of them breaks a rule that is judged form by form, and what is recorded.
use Rattle.std.proofs.Common.{◌≡◌, ℕ, ◌+◌, Bool, true, false, cond, ◌||◌, List, [], ◌∷◌, ◌++◌, map, refl, ap, sym, ◌∙◌, subst, inl, inr}
use Rattle.std.proofs.Common.{Option, Some}
use Rattle.std.specs.Prelude.{flat_map, Contains, is_some}
use Rattle.std.specs.List.{list_any}
use Rattle.std.proofs.lemmas.Bool.{true≢false}
use Rattle.std.proofs.lemmas.List.Elements.{Contains-append_left, Contains-append_right, Contains-append_cases}
use Rattle.fb_values.specs.declared.facts.Datom.{Datom}
use Rattle.fb_model.specs.History.{said}
use Rattle.fb_model.specs.Facts.{standing}
use Rattle.tx_model.specs.Asks.{Name, Ask}
use Rattle.tx_model.specs.Tempids.{Db}
use Rattle.tx_model.specs.Changes.{additions, retractions, sweeps, implied}
use Rattle.tx_model.specs.Transaction.{joined, with_names}
use Rattle.tx_model.specs.Step.{first_yes}
use Rattle.tx_model.proofs.Lists.{first_of, later_of, which, not_in_none, comes_from, goes_into, image_of, has_image}
use Rattle.tx_model.proofs.SameAsks.{changes_in-same}

-- ---- a rule that is judged form by form

module _ {A : Type 0} (test : A → Bool) where
  yes_at : (b : Bool) (n : ℕ) (rest : Option ℕ) (any : Bool) → is_some rest ≡ any → is_some (cond b (Some n) rest) ≡ (b || any)
  yes_at true n rest any is = refl
  yes_at false n rest any is = is

  any_yes : (n : ℕ) (xs : List A) → is_some (first_yes n (map test xs)) ≡ list_any test xs
  any_yes n [] = refl
  any_yes n (x ∷ xs) = yes_at (test x) n (first_yes (n + 1) (map test xs)) (list_any test xs) (any_yes (n + 1) xs)

  one_passes : (x : A) (xs : List A) → Contains xs x → test x ≡ true → list_any test xs ≡ true
  one_passes x [] among passes = absurd (not_in_none x among)
  one_passes x (y ∷ xs) among passes =
      elim (which y x xs among) [
        | inl is ↦ ap (λ b. b || list_any test xs) (ap test is ∙ passes)
        | inr later ↦ ap (λ b. test y || b) (one_passes x xs later passes) ∙ or_true (test y)
      ]
    where
      or_true : (b : Bool) → (b || true) ≡ true
      or_true true = refl
      or_true false = refl

  first_or_later : (x : A) (xs ys : List A) (b : Bool) → test x ≡ b → (b || list_any test xs) ≡ true → Contains ys x
      → (list_any test xs ≡ true → list_any test ys ≡ true) → list_any test ys ≡ true
  first_or_later x xs ys true is passes there later = one_passes x ys there is
  first_or_later x xs ys false is passes there later = later passes

  pub any_of_fewer : (xs ys : List A) → ((x : A) → Contains xs x → Contains ys x) → list_any test xs ≡ true → list_any test ys ≡ true
  any_of_fewer [] ys fewer passes = absurd (true≢false (sym passes))
  any_of_fewer (x ∷ xs) ys fewer passes =
      first_or_later x xs ys (test x) refl passes (fewer x (first_of x xs))
      (any_of_fewer xs ys (λ z among. fewer z (later_of x z xs among)))

  pub same_truth : (a b : Bool) → (a ≡ true → b ≡ true) → (b ≡ true → a ≡ true) → a ≡ b
  same_truth true b forth back = sym (forth refl)
  same_truth false true forth back = back refl
  same_truth false false forth back = refl

  pub broken_by_one : (xs ys : List A) → ((x : A) → Contains xs x → Contains ys x) → ((x : A) → Contains ys x → Contains xs x)
      → is_some (first_yes 0 (map test xs)) ≡ is_some (first_yes 0 (map test ys))
  broken_by_one xs ys forth back =
      any_yes 0 xs
      ∙ same_truth (list_any test xs) (list_any test ys) (any_of_fewer xs ys forth) (any_of_fewer ys xs back)
      ∙ sym (any_yes 0 ys)

-- ---- what is recorded

module _ {A B : Type 0} (g : A → B) where
  pub same_images : (xs ys : List A) → ((x : A) → Contains xs x → Contains ys x) → (y : B) → Contains (map g xs) y → Contains (map g ys) y
  same_images xs ys fewer y member =
      let is = image_of g xs y member in
      subst (λ z. Contains (map g ys) z) is.image_is (has_image g ys is.original (fewer is.original is.among))

module _ {B : Type 0} where
  pub same_joined : (xs ys : List (List B)) → ((x : List B) → Contains xs x → Contains ys x) → (y : B) → Contains (joined xs) y
      → Contains (joined ys) y
  same_joined xs ys fewer y member =
      let from = comes_from (λ list. list) xs y member in
      goes_into (λ list. list) ys from.source y (fewer from.source from.among) from.made

  both_parts : (xs ys more rest : List B)
      → ((y : B) → Contains xs y → Contains ys y) → ((y : B) → Contains more y → Contains rest y) → (y : B) → Contains (xs ++ more) y
      → Contains (ys ++ rest) y
  both_parts xs ys more rest first second y member =
      elim (Contains-append_cases xs more y member) [
        | inl now ↦ Contains-append_left ys rest y (first y now)
        | inr later ↦ Contains-append_right ys rest y (second y later)
      ]

module _ (db : Db) (names : List (Name × ℕ)) where
  abbrev asked_of : List (List Ask) → List Datom
  asked_of asks =
      joined (map (flat_map (additions db names)) asks) ++ joined (map (flat_map (retractions db names)) asks)
      ++ joined (map (flat_map (sweeps db names)) asks) ++ joined (map (implied db) (map (flat_map (additions db names)) asks))

  asked_of_fewer : (asks other : List (List Ask))
      → ((x : List Ask) → Contains asks x → Contains other x) → (d : Datom) → Contains (asked_of asks) d → Contains (asked_of other) d
  asked_of_fewer asks other fewer =
      let added = map (flat_map (additions db names)) in
      let retracted = map (flat_map (retractions db names)) in
      let swept = map (flat_map (sweeps db names)) in
      let more = same_images (flat_map (additions db names)) asks other fewer in
      both_parts _ _ (joined (map (implied db) (added asks))) (joined (map (implied db) (added other)))
      (both_parts _ _ (joined (swept asks)) (joined (swept other))
      (both_parts (joined (added asks)) (joined (added other)) (joined (retracted asks)) (joined (retracted other))
      (same_joined (added asks) (added other) more)
      (same_joined (retracted asks) (retracted other) (same_images (flat_map (retractions db names)) asks other fewer)))
      (same_joined (swept asks) (swept other) (same_images (flat_map (sweeps db names)) asks other fewer)))
      (same_joined (map (implied db) (added asks)) (map (implied db) (added other))
      (same_images (implied db) (added asks) (added other) more))

  pub same_changes : (asks other : List (List Ask))
      → ((x : List Ask) → Contains asks x → Contains other x) → ((x : List Ask) → Contains other x → Contains asks x)
      → (with_names db asks names).changes ≡ (with_names db other names).changes
  same_changes asks other forth back =
      changes_in-same (said db.history) (asked_of asks) (asked_of other) (asked_of_fewer asks other forth) (asked_of_fewer other asks back)

  pub same_facts : (asks other : List (List Ask))
      → ((x : List Ask) → Contains asks x → Contains other x) → ((x : List Ask) → Contains other x → Contains asks x)
      → (with_names db asks names).after ≡ (with_names db other names).after
  same_facts asks other forth back = ap (λ changes. standing (said db.history ++ changes)) (same_changes asks other forth back)
