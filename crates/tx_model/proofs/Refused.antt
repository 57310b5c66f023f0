-- Where a transaction is not refused, no form breaks any rule.
use Rattle.std.proofs.Common.{◌≡◌, ℕ, zero, suc, ◌+◌, ◌<◌, Bool, true, false, cond, ◌||◌, List, [], ◌∷◌, length, map, refl, subst, arith}
use Rattle.std.proofs.Common.{Option, Some, None}
use Rattle.std.specs.Prelude.{slice_index_or}
use Rattle.std.specs.List.{list_any}
use Rattle.std.proofs.lemmas.Bool.{or_from}
use Rattle.edn_model.specs.Form.{Form}
use Rattle.fb_values.specs.declared.facts.Entry.{Entry}
use Rattle.tx_model.specs.Transaction.{Transaction, joined, transaction}
use Rattle.tx_model.specs.NameRules.{breaks_not_an_attribute, breaks_protected_attribute, breaks_wrong_type, breaks_not_unique_lookup}
use Rattle.tx_model.specs.NameRules.{breaks_not_an_entity, breaks_tempid_not_an_entity}
use Rattle.tx_model.specs.ChangeRules.{breaks_datoms_conflict, breaks_unique_conflict, breaks_incomplete_attribute, breaks_attribute_fixed}
use Rattle.tx_model.specs.ChangeRules.{breaks_too_large, breaks_full, breaks_alteration_conflict}
use Rattle.tx_refusals.specs.declared.reasons.Reason.{Reason}
use Rattle.tx_refusals.specs.declared.reasons.Reason.TheVariants.{NotAForm}
use Rattle.tx_model.specs.Step.{first_yes, tests_from, by_place, by_whole, all_rules, first_refusal, refusal_of}

no_yes : {A : Type 0} (test : A → Bool) (n : ℕ) (xs : List A) → first_yes n (map test xs) ≡ None → list_any test xs ≡ false
no_yes test n [] none = refl
no_yes test n (x ∷ xs) none = go (test x) refl none (no_yes test (n + 1) xs)
  where
    go : (b : Bool) → test x ≡ b → cond b (Some n) (first_yes (n + 1) (map test xs)) ≡ None
        → (first_yes (n + 1) (map test xs) ≡ None → list_any test xs ≡ false) → (test x || list_any test xs) ≡ false
    go true is none next = absurd (cc)
    go false is none next = or_from _ _ is (next none)

no_place : {A : Type 0} (test : ℕ → Bool) (n m : ℕ) (xs : List A) → first_yes n (tests_from test m xs) ≡ None → (i : ℕ) → i < length xs
    → test (m + i) ≡ false
no_place test n m [] none i below = absurd (omega (arith, below))
no_place test n m (x ∷ xs) none i below = go (test m) refl none i below (λ rest. no_place test (n + 1) (m + 1) xs rest)
  where
    go : (b : Bool) → test m ≡ b → cond b (Some n) (first_yes (n + 1) (tests_from test (m + 1) xs)) ≡ None → (i : ℕ) → i < suc (length xs)
        → (first_yes (n + 1) (tests_from test (m + 1) xs) ≡ None → (k : ℕ) → k < length xs → test (m + 1 + k) ≡ false)
        → test (m + i) ≡ false
    go true is none i below next = absurd (cc)
    go false is none zero below next = subst (λ k. test k ≡ false) (omega arith) is
    go false is none (suc i) below next = subst (λ k. test k ≡ false) (omega arith) (next none i (omega (arith, below)))

no_whole : (b : Bool) → by_whole b ≡ None → b ≡ false
no_whole false none = refl
no_whole true none = absurd (cc)

none_at : (rules : List (Reason × Option ℕ)) → first_refusal rules ≡ None → (i : ℕ) → i < length rules
    → (slice_index_or rules i (NotAForm, None)).1 ≡ None
none_at [] none i below = absurd (omega (arith, below))
none_at ((reason, None) ∷ rules) none zero below = refl
none_at ((reason, None) ∷ rules) none (suc i) below = none_at rules none i (omega (arith, below))
none_at ((reason, Some place) ∷ rules) none i below = absurd (cc)

pub record NoneBroken (tx : Transaction) : Type 0 where
  pub not_an_attribute : list_any (breaks_not_an_attribute tx.db) tx.asks ≡ false
  pub protected_attribute : list_any (breaks_protected_attribute tx.db) tx.asks ≡ false
  pub wrong_type : list_any (breaks_wrong_type tx.db) tx.asks ≡ false
  pub not_unique_lookup : list_any (breaks_not_unique_lookup tx.db) tx.asks ≡ false
  pub not_an_entity : list_any (breaks_not_an_entity tx.db) tx.asks ≡ false
  pub tempid_not_an_entity : list_any (breaks_tempid_not_an_entity (joined tx.asks)) tx.asks ≡ false
  pub datoms_conflict : (i : ℕ) → i < length tx.asks → breaks_datoms_conflict tx i ≡ false
  pub unique_conflict : (i : ℕ) → i < length tx.asks → breaks_unique_conflict tx i ≡ false
  pub incomplete_attribute : (i : ℕ) → i < length tx.asks → breaks_incomplete_attribute tx i ≡ false
  pub attribute_fixed : (i : ℕ) → i < length tx.asks → breaks_attribute_fixed tx i ≡ false
  pub too_large : breaks_too_large tx ≡ false
  pub full : breaks_full tx ≡ false
  pub alteration_conflict : (i : ℕ) → i < length tx.asks → breaks_alteration_conflict tx i ≡ false

at_place : (tx : Transaction) (test : ℕ → Bool) → by_place tx test ≡ None → (i : ℕ) → i < length tx.asks → test i ≡ false
at_place tx test none i below = subst (λ k. test k ≡ false) (omega arith) (no_place test 0 0 tx.asks none i below)

pub none_broken : (h : List Entry) (fs : List Form) → refusal_of h fs ≡ None → NoneBroken (transaction h fs)
none_broken h fs none =
    let tx = transaction h fs in
    let rules = all_rules h fs in
    record {
      not_an_attribute = no_yes (breaks_not_an_attribute tx.db) 0 tx.asks (none_at rules none 1 (omega arith));
      protected_attribute = no_yes (breaks_protected_attribute tx.db) 0 tx.asks (none_at rules none 2 (omega arith));
      wrong_type = no_yes (breaks_wrong_type tx.db) 0 tx.asks (none_at rules none 3 (omega arith));
      not_unique_lookup = no_yes (breaks_not_unique_lookup tx.db) 0 tx.asks (none_at rules none 4 (omega arith));
      not_an_entity = no_yes (breaks_not_an_entity tx.db) 0 tx.asks (none_at rules none 5 (omega arith));
      tempid_not_an_entity = no_yes (breaks_tempid_not_an_entity (joined tx.asks)) 0 tx.asks (none_at rules none 8 (omega arith));
      datoms_conflict = at_place tx (breaks_datoms_conflict tx) (none_at rules none 11 (omega arith));
      unique_conflict = at_place tx (breaks_unique_conflict tx) (none_at rules none 12 (omega arith));
      incomplete_attribute = at_place tx (breaks_incomplete_attribute tx) (none_at rules none 13 (omega arith));
      attribute_fixed = at_place tx (breaks_attribute_fixed tx) (none_at rules none 14 (omega arith));
      too_large = no_whole (breaks_too_large tx) (none_at rules none 15 (omega arith));
      full = no_whole (breaks_full tx) (none_at rules none 16 (omega arith));
      alteration_conflict = at_place tx (breaks_alteration_conflict tx) (none_at rules none 17 (omega arith));
    }
