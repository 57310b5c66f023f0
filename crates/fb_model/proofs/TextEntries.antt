-- The entry that gives a new entity a text is lawful.
use Rattle.std.proofs.Common.{◌≡◌, ℕ, ◌+◌, ◌<◌, ◌≤◌, ℤ, pos, ◌+ℤ◌, Bool, true, false, cond, ◌&&◌, ◌||◌, not, List, [], ◌∷◌, length, refl}
use Rattle.std.proofs.Common.{ap, sym, ◌∙◌, arith, eqb, ltb, leb}
use Rattle.std.specs.List.{list_all, list_any}
use Rattle.std.specs.Int.{int_max}
use Rattle.std.specs.Ordering.{nat_cmp}
use Rattle.std.specs.declared.cmp.Ordering.TheVariants.{Less}
use Rattle.std.specs.Prelude.{int_lt, int_le}
use Rattle.std.proofs.lemmas.Bool.{and_parts, and_from, or_left, or_right, eqb-true, eq-eqb, le-leb}
use Rattle.std.proofs.lemmas.Bool.Decides.{nat_tests}
use Rattle.std.proofs.lemmas.List.Folds.{list_all-append}
use Rattle.std.proofs.lemmas.Int.{ints}
use Rattle.std.specs.Str.{IsUtf8}
use Rattle.fb_values.specs.declared.facts.Datom.{Datom}
use Rattle.fb_values.specs.declared.facts.Entry.{Entry}
use Rattle.fb_values.specs.declared.facts.Value.TheVariants.{Str, Instant}
use Rattle.fb_numbers.specs.Numbers.{transaction_of, user_entity, is_builtin, tx_instant, doc, greatest_t, greatest_instant, is_instant}
use Rattle.fb_model.specs.History.{basis, said, users_issued, last_instant, into_range, next_instant}
use Rattle.fb_model.specs.Laws.{is_asserted, users_behind, users_after, is_known, is_known_value}
use Rattle.fb_model.specs.Lawful.{IsLawful, IsLawfulAfter}
use Rattle.fb_model.specs.TextEntry.{text_entry}
use Rattle.fb_model.proofs.OneMoreEntry.{basis-push, said-push, unused, holds_after-unused, holds-unused, next_instant-later}
use Rattle.fb_model.proofs.OneMoreEntry.{next_instant-at_least}
use Rattle.fb_model.proofs.Utf8Texts.{is_utf8_text-from_IsUtf8}
use Rattle.fb_model.proofs.Triples.{value_eq-refl}
use Rattle.fb_model.proofs.Invariants.{of_lawful}
use Rattle.fb_model.proofs.SchemaHistories.{all_pass, none_pass}
use Rattle.fb_model.proofs.NewFacts.{TellsOfNewEntities, keeps_schema}

-- ---- the next transaction's entity is not in use

-- an entity of a history with this basis: below the next transaction's number, or a user's
abbrev may_have : ℕ → ℕ → Bool
may_have b e = ltb e (transaction_of (b + 1)) || leb (user_entity 1) e

builtin_small : (e : ℕ) → is_builtin e ≡ true → e < 100
builtin_small e builtin = grind (arith, nat_tests)

known_may : (b t n u e : ℕ) → t ≡ b + 1
    → (is_builtin e || (leb (transaction_of 0) e && leb e (transaction_of b)) || (leb (user_entity 1) e && leb e (user_entity u))
    || eqb e (transaction_of t) || (leb (user_entity 1) e && leb e (user_entity n))) ≡ true
    → may_have (b + 1) e ≡ true
known_may b t n u e next known = grind (arith, nat_tests, builtin_small)

later_may : (b e : ℕ) → may_have b e ≡ true → may_have (b + 1) e ≡ true
later_may b e may = grind (arith, nat_tests)

in_use : (h : List Entry) → IsLawful h → list_all (λ d. may_have (basis h) d.e) (said h) ≡ true
in_use =
    of_lawful (λ h. list_all (λ d. may_have (basis h) d.e) (said h) ≡ true) refl
    (λ h entry lawful before next.
    let t_is = eqb-true entry.t (basis h + 1) (and_parts _ _ next.next_t).0 in
    rw (basis-push, said-push, t_is, list_all-append (λ (d : Datom). may_have (basis h + 1) d.e) (said h) entry.datoms)
    (and_from _ _
    (all_pass (λ d. may_have (basis h) d.e) (λ d. may_have (basis h + 1) d.e) (λ d. later_may (basis h) d.e) (said h) before)
    (all_pass (λ d. is_known h entry d.e && is_known_value h entry d.v) (λ d. may_have (basis h + 1) d.e)
    (λ d known. known_may (basis h) entry.t (users_after h entry) (users_issued h) d.e t_is (and_parts _ _ known).0) entry.datoms
    next.known_numbers)))

apart : (b e : ℕ) → b < greatest_t → may_have b e ≡ true → eqb e (transaction_of (b + 1)) ≡ false
apart b e small may = grind (arith, nat_tests)

pub unused_transaction : (h : List Entry) → IsLawful h → basis h < greatest_t
    → list_any (λ d. eqb d.e (transaction_of (basis h + 1))) (said h) ≡ false
unused_transaction h lawful small =
    none_pass (λ d. may_have (basis h) d.e) (λ d. eqb d.e (transaction_of (basis h + 1)))
    (λ d same may. sym same ∙ apart (basis h) d.e small may) (said h) (in_use h lawful)

-- ---- the parts of the entry

users_behind-at_least : (more ds : List Datom) (n : ℕ) → n ≤ users_behind more ds n
users_behind-at_least [] ds n = omega arith
users_behind-at_least (_ ∷ more) ds n =
    either (is_asserted ds (user_entity (n + 1))) n (users_behind more ds (n + 1)) (omega (arith, users_behind-at_least more ds (n + 1)))
  where
    either : (b : Bool) (n m : ℕ) → n ≤ m → n ≤ cond b m n
    either true n m below = below
    either false n m below = omega arith

pub in_range : (last reading : ℤ) → int_lt last greatest_instant ≡ true
    → int_le (int_max (into_range reading) (last +ℤ pos 1)) greatest_instant ≡ true
in_range last reading room = grind (arith, ints)

same : (n : ℕ) → eqb n n ≡ true
same n = eq-eqb n n refl

below_user : (t n : ℕ) → t ≤ greatest_t → nat_cmp (transaction_of t) (user_entity n) ≡ Less
below_user t n small = let less : ltb (transaction_of t) (user_entity n) ≡ true = grind (arith, nat_tests) in rw less

user-apart : (t n : ℕ) → t ≤ greatest_t → eqb (transaction_of t) (user_entity n) ≡ false
user-apart t n small = grind (arith, nat_tests)

apart-user : (t n : ℕ) → t ≤ greatest_t → eqb (user_entity n) (transaction_of t) ≡ false
apart-user t n small = grind (arith, nat_tests)

behind_first : (d : Datom) (more ds : List Datom) (n : ℕ) → is_asserted ds (user_entity (n + 1)) ≡ true
    → n + 1 ≤ users_behind (d ∷ more) ds n
behind_first d more ds n asserted = rw asserted (users_behind-at_least more ds (n + 1))

module _ (h : List Entry) (reading : ℤ) (text : List ℕ) (lawful : IsLawful h) (small : basis h < greatest_t)
    (room : int_lt (last_instant h) greatest_instant ≡ true) (utf8 : IsUtf8 text) (short : length text ≤ 1048576) where
  t : ℕ
  t = basis h + 1

  n : ℕ
  n = users_issued h + 1

  small_t : basis h + 1 ≤ greatest_t
  small_t = omega arith

  knows_own : is_known h (text_entry h reading text) (transaction_of (basis h + 1)) ≡ true
  knows_own = or_left _ _ (or_right _ _ (same (transaction_of (basis h + 1))))

  asserts_user : is_asserted (text_entry h reading text).datoms (user_entity (users_issued h + 1)) ≡ true
  asserts_user = or_right _ _ (or_left _ _ (and_from _ _ (same (user_entity (users_issued h + 1))) refl))

  users_after_one : users_issued h + 1 ≤ users_after h (text_entry h reading text)
  users_after_one =
      behind_first
      (record { e = transaction_of (basis h + 1); a = tx_instant; v = Instant (next_instant h reading); t = basis h + 1; added = true })
      (record { e = user_entity (users_issued h + 1); a = doc; v = Str text; t = basis h + 1; added = true } ∷ [])
      (text_entry h reading text).datoms (users_issued h) asserts_user

  knows_user : is_known h (text_entry h reading text) (user_entity (users_issued h + 1)) ≡ true
  knows_user =
      or_right _ _ (and_from _ _
      (le-leb (user_entity 1) (user_entity (users_issued h + 1)) (omega arith))
      (le-leb (user_entity (users_issued h + 1)) (user_entity (users_after h (text_entry h reading text)))
      (omega (arith, users_after_one))))

  within : is_instant (next_instant h reading) ≡ true
  within = and_from _ _ (next_instant-at_least h reading) (in_range (last_instant h) reading room)

  tells : TellsOfNewEntities h (text_entry h reading text)
  tells =
      record {
        plain = refl;
        new =
            and_from _ _ (ap not (unused_transaction h lawful small))
            (and_from _ _ (ap not (unused h (users_issued h + 1) (omega arith))) refl);
        added = refl;
        stand = rw (apart-user (basis h + 1) (users_issued h + 1) small_t) refl;
        single = rw (
          same (transaction_of (basis h + 1)),
          same (user_entity (users_issued h + 1)),
          user-apart (basis h + 1) (users_issued h + 1) small_t,
          apart-user (basis h + 1) (users_issued h + 1) small_t,
        ) refl;
        typed =
            and_from _ _ (and_from _ _ within refl)
            (and_from _ _ (and_from _ _ (is_utf8_text-from_IsUtf8 text utf8) (le-leb (length text) 1048576 short)) refl);
      }

  pub text_entry-lawful : IsLawfulAfter h (text_entry h reading text)
  text_entry-lawful =
      let schema = keeps_schema h (text_entry h reading text) lawful tells in
      record {
        next_t = and_from _ _ (same (basis h + 1)) (le-leb (basis h + 1) greatest_t small_t);
        later_instant = and_from _ _ (next_instant-later h reading) within;
        known_numbers = and_from _ _ (and_from _ _ knows_own refl) (and_from _ _ (and_from _ _ knows_user refl) refl);
        installed_attributes = schema.installed_attributes;
        typed_values = schema.typed_values;
        datoms_in_order = and_from _ _
            (and_from _ _ (and_from _ _ (same (basis h + 1)) (and_from _ _ (same (basis h + 1)) refl))
            (rw (below_user (basis h + 1) (users_issued h + 1) small_t) refl))
            refl;
        changes_alone = and_from _ _
            (ap not (holds_after-unused false (said h) (transaction_of (basis h + 1)) tx_instant (Instant (next_instant h reading))
            (unused_transaction h lawful small)))
            (and_from _ _ (ap not (holds-unused h (users_issued h + 1) doc (Str text) (omega arith))) refl);
        one_value_each = schema.one_value_each;
        one_holder_each = schema.one_holder_each;
        whole_attributes = schema.whole_attributes;
        allowed_changes = schema.allowed_changes;
        no_reserved_names = schema.no_reserved_names;
        own_instant_alone = and_from _ _
            (or_left _ _ (and_from _ _ (and_from _ _ (and_from _ _ (same (transaction_of (basis h + 1))) refl)
            (value_eq-refl (Instant (next_instant h reading)))) refl))
            (and_from _ _ (and_from _ _ (and_from _ _ (and_from _ _ (same (transaction_of (basis h + 1))) refl)
            (value_eq-refl (Instant (next_instant h reading)))) refl) refl);
      }
