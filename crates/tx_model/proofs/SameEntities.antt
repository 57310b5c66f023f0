-- A transaction is what it is by the entities of its tempids, in whatever order these were numbered.
use Rattle.std.proofs.Common.{◌≡◌, ℕ, ◌+◌, Bool, true, false, cond, not, List, [], ◌∷◌, ◌++◌, map, refl, ap, ◌∙◌, option_map, Option, Some}
use Rattle.std.specs.Prelude.{flat_map, Contains, bytes_eq, option_and_then, option_to_list}
use Rattle.std.specs.List.{list_any}
use Rattle.std.specs.Option.{option_map_or}
use Rattle.fb_values.specs.declared.facts.Datom.{Datom}
use Rattle.fb_values.specs.declared.facts.Value.{Value}
use Rattle.fb_values.specs.declared.facts.Value.TheVariants.{Ref}
use Rattle.fb_numbers.specs.Numbers.{transaction_of}
use Rattle.fb_model.specs.History.{basis}
use Rattle.fb_model.specs.Facts.{value_of}
use Rattle.fb_model.specs.Schema.{Attribute, attribute_named}
use Rattle.tx_model.specs.Asks.{Name, number, ident, lookup, tempid, nameless, Operand, plain, entity, Ask, adds, retracts, retracts_all}
use Rattle.tx_model.specs.Asks.{compares, retracts_entity, meets, mentions, lacks_id, own_tempid}
use Rattle.tx_model.specs.Tempids.{Db, assigned_to, assigned, entity_of}
use Rattle.tx_model.specs.Changes.{value_of_part, change, changes_of, additions, retractions, sweeps, implied, values_withdrawn}
use Rattle.tx_model.specs.Changes.{set_withdrawn}
use Rattle.tx_model.specs.Transaction.{Transaction, joined, with_changes, with_names, with_asks}
use Rattle.tx_model.specs.ChangeRules.{at, compares_another, is_value, old_value}
use Rattle.tx_refusals.specs.declared.reasons.Reason.TheVariants.{CasFailed}
use Rattle.tx_model.specs.Step.{first_yes, tests_from, broken_rules, are_broken}
use Rattle.tx_model.proofs.FormOrder.{same_changes, same_facts}
use Rattle.tx_model.proofs.SameRules.{any_by, map_by, then_rest, same_rules}

flat_map_by : {A B : Type 0} (f g : A → List B) → ((x : A) → f x ≡ g x) → (xs : List A) → flat_map f xs ≡ flat_map g xs
flat_map_by f g same [] = refl
flat_map_by f g same (x ∷ xs) = ap (λ ys. ys ++ flat_map f xs) (same x) ∙ ap (λ ys. g x ++ ys) (flat_map_by f g same xs)

tests_by : {A : Type 0} (test other : ℕ → Bool) → ((n : ℕ) → test n ≡ other n) → (n : ℕ) (xs : List A)
    → tests_from test n xs ≡ tests_from other n xs
tests_by test other same n [] = refl
tests_by test other same n (x ∷ xs) =
    then_rest (test n) (other n) (tests_from test (n + 1) xs) (tests_from other (n + 1) xs) (same n) (tests_by test other same (n + 1) xs)

module _ (db : Db) (names others : List (Name × ℕ)) (same : (name : Name) → assigned_to names name ≡ assigned_to others name) where
  same_entity : (name : Name) → entity_of db names name ≡ entity_of db others name
  same_entity (number z) = refl
  same_entity (ident k) = refl
  same_entity (lookup k f) = refl
  same_entity (tempid s) = ap (cond (bytes_eq s own_tempid) (Some (transaction_of (basis db.history + 1)))) (same (tempid s))
  same_entity (nameless path) = same (nameless path)

  abbrev made : Bool → List ℕ → Option ℕ → (Attribute → Option Value) → List Datom
  made added k e value =
      option_to_list (option_and_then
      (λ e. option_and_then (λ (a : Attribute). option_map (change db added e a.id) (value a)) (attribute_named db.facts k)) e)

  same_made : (added : Bool) (name : Name) (k : List ℕ) (part : Operand)
      → changes_of db names added name k part ≡ changes_of db others added name k part
  same_made added name k (plain f) = ap (λ e. made added k e (λ a. value_of_part db names a (plain f))) (same_entity name)
  same_made added name k (entity other) =
      ap (λ e. made added k e (λ a. option_map Ref (entity_of db names other))) (same_entity name)
      ∙ ap (λ v. made added k (entity_of db others name) (λ a. option_map Ref v)) (same_entity other)

  same_additions : (ask : Ask) → additions db names ask ≡ additions db others ask
  same_additions (adds name k part) = same_made true name k part
  same_additions (compares name k old new) = same_made true name k new
  same_additions (retracts name k part) = refl
  same_additions (retracts_all name k) = refl
  same_additions (retracts_entity name) = refl
  same_additions (meets name) = refl
  same_additions (mentions k) = refl
  same_additions lacks_id = refl

  same_retractions : (ask : Ask) → retractions db names ask ≡ retractions db others ask
  same_retractions (retracts name k part) = same_made false name k part
  same_retractions (adds name k part) = refl
  same_retractions (compares name k old new) = refl
  same_retractions (retracts_all name k) = refl
  same_retractions (retracts_entity name) = refl
  same_retractions (meets name) = refl
  same_retractions (mentions k) = refl
  same_retractions lacks_id = refl

  same_sweeps : (ask : Ask) → sweeps db names ask ≡ sweeps db others ask
  same_sweeps (retracts_all name k) =
      ap (λ e. option_map_or (λ e. option_map_or (values_withdrawn db e) (attribute_named db.facts k) []) e []) (same_entity name)
  same_sweeps (retracts_entity name) = ap (λ e. option_map_or (set_withdrawn db) e []) (same_entity name)
  same_sweeps (adds name k part) = refl
  same_sweeps (retracts name k part) = refl
  same_sweeps (compares name k old new) = refl
  same_sweeps (meets name) = refl
  same_sweeps (mentions k) = refl
  same_sweeps lacks_id = refl

  -- the transaction with the changes of the others
  module _ (asks : List (List Ask)) where
    abbrev changes_by : (Ask → List Datom) → List (List Datom)
    changes_by f = map (flat_map f) asks

    same_lists : (f g : Ask → List Datom) → ((ask : Ask) → f ask ≡ g ask) → changes_by f ≡ changes_by g
    same_lists f g is = map_by (flat_map f) (flat_map g) (flat_map_by f g is) asks

    abbrev added : List (List Datom)
    added = changes_by (additions db others)

    abbrev under : List (Name × ℕ) → Transaction
    under pairs =
        with_changes db asks pairs added (changes_by (retractions db others)) (changes_by (sweeps db others)) (map (implied db) added)

    under_names : with_names db asks names ≡ under names
    under_names =
        ap (λ ds. with_changes db asks names ds (changes_by (retractions db names)) (changes_by (sweeps db names)) (map (implied db) ds))
        (same_lists (additions db names) (additions db others) same_additions)
        ∙ ap (λ ds. with_changes db asks names added ds (changes_by (sweeps db names)) (map (implied db) added))
        (same_lists (retractions db names) (retractions db others) same_retractions)
        ∙ ap (λ ds. with_changes db asks names added (changes_by (retractions db others)) ds (map (implied db) added))
        (same_lists (sweeps db names) (sweeps db others) same_sweeps)

    abbrev differs : Attribute → ℕ → Option Value → Bool
    differs attribute e old = not (is_value (value_of db.facts e attribute.id) old)

    abbrev compared : List ℕ → Option ℕ → (Attribute → Option Value) → Bool
    compared k e old =
        option_map_or (λ e. option_map_or (λ attribute. differs attribute e (old attribute)) (attribute_named db.facts k) false) e false

    same_comparison : (ask : Ask) → compares_another (under names) ask ≡ compares_another (under others) ask
    same_comparison (compares name k (plain f) new) =
        ap (λ e. compared k e (λ attribute. old_value (under names) attribute (plain f))) (same_entity name)
    same_comparison (compares name k (entity other) new) =
        ap (λ e. compared k e (λ attribute. option_map Ref (entity_of db names other))) (same_entity name)
        ∙ ap (λ v. compared k (entity_of db others name) (λ attribute. option_map Ref v)) (same_entity other)
    same_comparison (adds name k part) = refl
    same_comparison (retracts name k part) = refl
    same_comparison (retracts_all name k) = refl
    same_comparison (retracts_entity name) = refl
    same_comparison (meets name) = refl
    same_comparison (mentions k) = refl
    same_comparison lacks_id = refl

    cas_failed : first_yes 0 (tests_from (λ n. list_any (compares_another (under names)) (at asks n)) 0 asks)
        ≡ first_yes 0 (tests_from (λ n. list_any (compares_another (under others)) (at asks n)) 0 asks)
    cas_failed =
        ap (first_yes 0)
        (tests_by (λ n. list_any (compares_another (under names)) (at asks n)) (λ n. list_any (compares_another (under others)) (at asks n))
        (λ n. any_by (compares_another (under names)) (compares_another (under others)) same_comparison (at asks n)) 0 asks)

    after_ten : {A : Type 0} (a b c d e f g h i : A) (x y : A) (rest : List A) → x ≡ y
        → a ∷ b ∷ c ∷ d ∷ e ∷ f ∷ g ∷ h ∷ i ∷ x ∷ rest ≡ a ∷ b ∷ c ∷ d ∷ e ∷ f ∷ g ∷ h ∷ i ∷ y ∷ rest
    after_ten a b c d e f g h i x y rest is = ap (λ z. a ∷ b ∷ c ∷ d ∷ e ∷ f ∷ g ∷ h ∷ i ∷ z ∷ rest) is

    pub rules_by_entities : broken_rules (with_names db asks names) ≡ broken_rules (with_names db asks others)
    rules_by_entities = ap broken_rules under_names ∙ after_ten _ _ _ _ _ _ _ _ _ _ _ _ (ap (λ place. (CasFailed, place)) cas_failed)

    pub changes_by_entities : (with_names db asks names).changes ≡ (with_names db asks others).changes
    changes_by_entities = ap (λ (tx : Transaction). tx.changes) under_names

    pub facts_by_entities : (with_names db asks names).after ≡ (with_names db asks others).after
    facts_by_entities = ap (λ (tx : Transaction). tx.after) under_names

-- ---- a transaction in two orders

module _ (db : Db) (asks other : List (List Ask)) (forth : (x : List Ask) → Contains asks x → Contains other x)
    (back : (x : List Ask) → Contains other x → Contains asks x)
    (same : (name : Name) → assigned_to (assigned db (joined asks)) name ≡ assigned_to (assigned db (joined other)) name) where
  pub changes_in_any_order : (with_asks db asks).changes ≡ (with_asks db other).changes
  changes_in_any_order =
      changes_by_entities db (assigned db (joined asks)) (assigned db (joined other)) same asks
      ∙ same_changes db (assigned db (joined other)) asks other forth back

  pub rules_in_any_order : are_broken (broken_rules (with_asks db asks)) ≡ are_broken (broken_rules (with_asks db other))
  rules_in_any_order =
      ap are_broken (rules_by_entities db (assigned db (joined asks)) (assigned db (joined other)) same asks)
      ∙ same_rules db (assigned db (joined other)) asks other forth back

  pub facts_in_any_order : (with_asks db asks).after ≡ (with_asks db other).after
  facts_in_any_order =
      facts_by_entities db (assigned db (joined asks)) (assigned db (joined other)) same asks
      ∙ same_facts db (assigned db (joined other)) asks other forth back
