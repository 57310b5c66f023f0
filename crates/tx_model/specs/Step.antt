-- The step of a transaction: the entry that it adds to a history, or why it is refused.
-- Datomic, Transaction Data. Which of several faults is reported is this project's own choice:
-- that of the least rule, and of the forms that break it the first.
use Rattle.std.specs.Prelude.{◌≡◌, ℕ, ◌+◌, ℤ, Bool, not, List, [], ◌∷◌, map, if◌then◌else◌, is_some}
use Rattle.std.specs.Prelude.{option_map, Option, Some, None}
use Rattle.std.specs.Option.{option_map_or}
use Rattle.edn_model.specs.Form.{Form}
use Rattle.fb_values.specs.declared.facts.Datom.{Datom}
use Rattle.fb_values.specs.declared.facts.Entry.{Entry}
use Rattle.fb_model.specs.History.{basis, next_instant}
use Rattle.tx_refusals.specs.declared.reasons.Bar.{Bar}
use Rattle.tx_refusals.specs.declared.reasons.Reason.{Reason}
use Rattle.tx_refusals.specs.declared.reasons.Reason.TheVariants.{NotAForm, NotAnAttribute}
use Rattle.tx_refusals.specs.declared.reasons.Reason.TheVariants.{ProtectedAttribute, WrongType}
use Rattle.tx_refusals.specs.declared.reasons.Reason.TheVariants.{NotUniqueLookup, NotAnEntity}
use Rattle.tx_refusals.specs.declared.reasons.Reason.TheVariants.{NestedWithoutId, TempidConflict}
use Rattle.tx_refusals.specs.declared.reasons.Reason.TheVariants.{TempidNotAnEntity, CasMany}
use Rattle.tx_refusals.specs.declared.reasons.Reason.TheVariants.{CasFailed, DatomsConflict}
use Rattle.tx_refusals.specs.declared.reasons.Reason.TheVariants.{UniqueConflict}
use Rattle.tx_refusals.specs.declared.reasons.Reason.TheVariants.{IncompleteAttribute}
use Rattle.tx_refusals.specs.declared.reasons.Reason.TheVariants.{AttributeFixed, TooLarge, Full}
use Rattle.tx_refusals.specs.declared.reasons.Reason.TheVariants.{AlterationConflict, Barred}
use Rattle.tx_refusals.specs.declared.reasons.Refusal.{Refusal}
use Rattle.tx_model.specs.Asks.{Ask}
use Rattle.tx_model.specs.Shapes.{has_shape, forms_of}
use Rattle.tx_model.specs.Tempids.{named_tempids}
use Rattle.tx_model.specs.Transaction.{Transaction, joined, transaction, recorded}
use Rattle.tx_model.specs.NameRules.{breaks_not_an_attribute, breaks_protected_attribute}
use Rattle.tx_model.specs.NameRules.{breaks_wrong_type, breaks_not_unique_lookup}
use Rattle.tx_model.specs.NameRules.{breaks_not_an_entity, breaks_nested_without_id}
use Rattle.tx_model.specs.NameRules.{breaks_tempid_conflict, breaks_tempid_not_an_entity}
use Rattle.tx_model.specs.ChangeRules.{breaks_cas_many, breaks_cas_failed, breaks_datoms_conflict}
use Rattle.tx_model.specs.ChangeRules.{breaks_unique_conflict, breaks_incomplete_attribute}
use Rattle.tx_model.specs.ChangeRules.{breaks_attribute_fixed, breaks_too_large, breaks_full}
use Rattle.tx_model.specs.ChangeRules.{breaks_alteration_conflict}

-- ---- the first form that breaks a rule

-- the first place, of n and those after, at which the answer is yes
abbrev pub first_yes : ℕ → List Bool → Option ℕ
first_yes n [] = None
first_yes n (b ∷ bs) = if b then Some n else first_yes (n + 1) bs

-- by what each form asks
abbrev pub by_asks : Transaction → (List Ask → Bool) → Option ℕ
by_asks tx test = first_yes 0 (map test tx.asks)

-- by its place
abbrev pub tests_from : {A : Type 0} → (ℕ → Bool) → ℕ → List A → List Bool
tests_from test n [] = []
tests_from test n (x ∷ xs) = test n ∷ tests_from test (n + 1) xs

abbrev pub by_place : Transaction → (ℕ → Bool) → Option ℕ
by_place tx test = first_yes 0 (tests_from test 0 tx.asks)

-- said of the transaction as a whole, at its first form
abbrev pub by_whole : Bool → Option ℕ
by_whole broken = if broken then Some 0 else None

-- the rules on forms that have a shape, each with the first form that breaks it: the least rule
-- first
abbrev pub broken_rules : Transaction → List (Reason × Option ℕ)
broken_rules tx =
    (NotAnAttribute, by_asks tx (breaks_not_an_attribute tx.db))
    ∷ (ProtectedAttribute, by_asks tx (breaks_protected_attribute tx.db))
    ∷ (WrongType, by_asks tx (breaks_wrong_type tx.db))
    ∷ (NotUniqueLookup, by_asks tx (breaks_not_unique_lookup tx.db))
    ∷ (NotAnEntity, by_asks tx (breaks_not_an_entity tx.db))
    ∷ (NestedWithoutId, by_asks tx (breaks_nested_without_id tx.db))
    ∷ (TempidConflict, by_asks tx (breaks_tempid_conflict tx.db (joined tx.asks)))
    ∷ (TempidNotAnEntity, by_asks tx (breaks_tempid_not_an_entity (joined tx.asks)))
    ∷ (CasMany, by_place tx (breaks_cas_many tx))
    ∷ (CasFailed, by_place tx (breaks_cas_failed tx))
    ∷ (DatomsConflict, by_place tx (breaks_datoms_conflict tx))
    ∷ (UniqueConflict, by_place tx (breaks_unique_conflict tx))
    ∷ (IncompleteAttribute, by_place tx (breaks_incomplete_attribute tx))
    ∷ (AttributeFixed, by_place tx (breaks_attribute_fixed tx))
    ∷ (TooLarge, by_whole (breaks_too_large tx))
    ∷ (Full, by_whole (breaks_full tx))
    ∷ (AlterationConflict, by_place tx (breaks_alteration_conflict tx))
    ∷ []

-- all rules: before the others, that a form has a shape
abbrev pub first_without_shape : List Form → Option ℕ
first_without_shape fs = first_yes 0 (map (λ f. not (has_shape f)) fs)

abbrev pub all_rules : List Entry → List Form → List (Reason × Option ℕ)
all_rules h fs = (NotAForm, first_without_shape fs) ∷ broken_rules (transaction h fs)

-- of the rules that a form breaks the first one
abbrev pub first_refusal : List (Reason × Option ℕ) → Option Refusal
first_refusal [] = None
first_refusal ((reason, None) ∷ rest) = first_refusal rest
first_refusal ((reason, Some place) ∷ rest) = Some (record { reason = reason; at = place })

-- for each rule whether a form breaks it
abbrev pub are_broken : List (Reason × Option ℕ) → List (Reason × Bool)
are_broken rules = map (λ (rule : Reason × Option ℕ). (rule.0, is_some rule.1)) rules

-- the reason of the least rule that a form breaks
abbrev pub least_broken : Transaction → Option Reason
least_broken tx = option_map (λ (r : Refusal). r.reason) (first_refusal (broken_rules tx))

abbrev pub refusal_of : List Entry → List Form → Option Refusal
refusal_of h fs = first_refusal (all_rules h fs)

-- what is not a list of forms has no shape
abbrev pub no_list : Refusal
no_list = record { reason = NotAForm; at = 0 }

-- why the transaction is refused, if it is
abbrev pub refusal : List Entry → Form → Option Refusal
refusal h asked = option_map_or (refusal_of h) (forms_of asked) (Some no_list)

-- ---- the step

pub data Decision : Type 0 where
  refused : Refusal → Decision
  -- the entry, and the entities of the tempids that have a name
  accepted : Entry → List (List ℕ × ℕ) → Decision

-- by what a guard bars these changes after the history, if it does: it has no other answers than
-- these three
abbrev pub Guard : Type 0
Guard = List Entry → List Datom → Option Bar

abbrev pub no_guard : Guard
no_guard h changes = None

abbrev pub entry_of : List Entry → Transaction → ℤ → Entry
entry_of h tx instant = record { t = basis h + 1; instant = instant; datoms = recorded tx instant }

-- a guard judges the transaction as a whole, and is asked where no rule is broken
abbrev pub under_guard : List Entry → Transaction → ℤ → Option Bar → Decision
under_guard h tx reading (Some bar) = refused (record { reason = Barred bar; at = 0 })
under_guard h tx reading None =
    accepted (entry_of h tx (next_instant h reading)) (named_tempids tx.names)

abbrev pub unless_refused : List Entry → List Form → ℤ → Guard → Option Refusal → Decision
unless_refused h fs reading guard (Some refusal) = refused refusal
unless_refused h fs reading guard None =
    let tx = transaction h fs in
    under_guard h tx reading (guard h tx.changes)

-- what the transaction does at the history, where the clock reads this
abbrev pub step : List Entry → Form → ℤ → Guard → Decision
step h asked reading guard =
    option_map_or (λ fs. unless_refused h fs reading guard (refusal_of h fs))
    (forms_of asked) (refused no_list)

-- The entry and the tempids are those of the forms, which break no rule.
-- Only the instant depends on the clock:
-- the entry records it beside changes that no clock has a part in. Of a guard it says nothing.
pub record IsAcceptedAt (h : List Entry) (asked : Form) (instant : ℤ) (entry : Entry)
    (tempids : List (List ℕ × ℕ)) : Type 0 where
  pub forms : List Form
  pub forms_are : forms_of asked ≡ Some forms
  pub is_not_refused : refusal_of h forms ≡ None
  pub entry_is : entry ≡ entry_of h (transaction h forms) instant
  pub tempids_are : tempids ≡ named_tempids (transaction h forms).names
