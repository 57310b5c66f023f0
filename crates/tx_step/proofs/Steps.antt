-- The step of a transaction, by the steps of the engine.
use Rattle.std.proofs.lemmas.Int.{ints}
use Rattle.std.proofs.Common.{arith, ◌≡◌, refl, sym, ap, ◌∙◌, ℕ, ℤ, Bool, true, false, List, [], ◌∷◌, ◌++◌, ◌<◌, zero, suc, length}
use Rattle.std.proofs.Common.{get_or}
use Rattle.std.specs.Prelude.{Option, Some, None, ◌<ℤ◌, not, int_lt, is_none}
use Rattle.std.specs.List.{list_all}
use Rattle.std.specs.Option.{option_map_or}
use Rattle.std.proofs.lemmas.Option.{none-some}
use Rattle.std.proofs.lemmas.Bool.{true≢false, and_parts, or_parts}
use Rattle.edn_model.specs.Form.{Form}
use Rattle.fb_values.specs.declared.facts.Entry.{Entry}
use Rattle.fb_model.specs.Facts.{facts}
use Rattle.tx_refusals.specs.declared.reasons.Reason.{Reason}
use Rattle.fb_values.specs.declared.facts.Datom.{Datom}
use Rattle.fb_numbers.specs.Numbers.{greatest_instant}
use Rattle.fb_model.specs.History.{last_instant}
use Rattle.fb_schema.specs.Described.{SchemaStands}
use Rattle.tx_refusals.specs.declared.reasons.Reason.TheVariants.{NotAForm}
use Rattle.tx_forms.specs.declared.read.TxStop.{TxStop}
use Rattle.tx_forms.specs.declared.read.TxStop.TheVariants.{Refused, Memory}
use Rattle.tx_model.specs.ChangeRules.{breaks_full}
use Rattle.tx_refusals.specs.declared.reasons.Refusal.{Refusal}
use Rattle.tx_model.specs.Shapes.{forms_of}
use Rattle.tx_model.specs.Walk.{flat}
use Rattle.tx_model.specs.Tempids.{db_of}
use Rattle.tx_model.specs.Transaction.{Transaction, transaction}
use Rattle.tx_model.specs.Step.{Decision, refused, Guard, step, under_guard, unless_refused, first_refusal, first_without_shape, refusal_of}
use Rattle.tx_model.specs.Step.{broken_rules, no_list, by_whole}
use Rattle.tx_forms.specs.declared.forms.TxForm.{TxForm}
use Rattle.tx_forms.specs.Parts.{AreParsed}
use Rattle.tx_forms.specs.Shaped.{place_without_shape}
use Rattle.tx_forms.specs.Stops.{IfRefused}
use Rattle.tx_expand.specs.Rules.{schema_rules}
use Rattle.tx_resolve.specs.Rules.{resolve_rules, StopsBy}
use Rattle.tx_rules.specs.Rules.{change_rules}
use Rattle.tx_step.specs.Outcomes.{Matches, shaped_step, judged_step, refusal_or}
use Rattle.tx_step.proofs.Refusals as refusals

-- ---- shapes

at_place : (at place : ℕ) → Some place ≡ Some at → place ≡ at
at_place at place same = ap (λ (o : Option ℕ). option_map_or (λ p. p) o 0) same

unshaped_list : (at : ℕ) → Some 0 ≡ Some at → refused no_list ≡ refused (record { reason = NotAForm; at = at })
unshaped_list at same = ap (λ place. refused (record { reason = NotAForm; at = place })) (at_place at 0 same)

unshaped_forms : (h : List Entry) (fs : List Form) (reading : ℤ) (guard : Guard) (at : ℕ) → first_without_shape fs ≡ Some at
    → unless_refused h fs reading guard (refusal_of h fs) ≡ refused (record { reason = NotAForm; at = at })
unshaped_forms h fs reading guard at place =
    ap (λ (o : Option ℕ). unless_refused h fs reading guard (first_refusal ((NotAForm, o) ∷ broken_rules (transaction h fs)))) place

-- what is no list, or has a form without a shape, is refused for that
unshaped_in : (h : List Entry) (reading : ℤ) (guard : Guard) (at : ℕ) (found : Option (List Form))
    → option_map_or first_without_shape found (Some 0) ≡ Some at
    → option_map_or (λ fs. unless_refused h fs reading guard (refusal_of h fs)) found (refused no_list)
    ≡ refused (record { reason = NotAForm; at = at })
unshaped_in h reading guard at None place = unshaped_list at place
unshaped_in h reading guard at (Some fs) place = unshaped_forms h fs reading guard at place

pub unshaped : (h : List Entry) (asked : Form) (reading : ℤ) (guard : Guard) (at : ℕ) → place_without_shape asked ≡ Some at
    → step h asked reading guard ≡ refused (record { reason = NotAForm; at = at })
unshaped h asked reading guard at place = unshaped_in h reading guard at (forms_of asked) place

-- forms with a shape are judged by the other rules
pub shaped : (h : List Entry) (asked : Form) (fs : List Form) (reading : ℤ) (guard : Guard) → forms_of asked ≡ Some fs
    → first_without_shape fs ≡ None
    → step h asked reading guard ≡ shaped_step h fs reading guard
shaped h asked fs reading guard forms none =
    ap (λ (found : Option (List Form)). option_map_or (λ fs. unless_refused h fs reading guard (refusal_of h fs)) found (refused no_list))
    forms
    ∙ ap (λ (o : Option ℕ). unless_refused h fs reading guard (first_refusal ((NotAForm, o) ∷ broken_rules (transaction h fs)))) none

-- ---- the steps of the engine, one after the other

pub refused_by_schema : (h : List Entry) (fs : List Form) (reading : ℤ) (guard : Guard) (refusal : Refusal)
    → first_refusal (schema_rules (db_of h) (flat (facts h) fs)) ≡ Some refusal → shaped_step h fs reading guard ≡ refused refusal
refused_by_schema h fs reading guard refusal told =
    ap (unless_refused h fs reading guard)
    (refusals.told (schema_rules (db_of h) (flat (facts h) fs))
    (resolve_rules (db_of h) (flat (facts h) fs) ++ change_rules (transaction h fs)) refusal told)

behind_schema : (h : List Entry) (fs : List Form) → first_refusal (schema_rules (db_of h) (flat (facts h) fs)) ≡ None
    → first_refusal (broken_rules (transaction h fs))
    ≡ first_refusal (resolve_rules (db_of h) (flat (facts h) fs) ++ change_rules (transaction h fs))
behind_schema h fs none =
    refusals.passed (schema_rules (db_of h) (flat (facts h) fs))
    (resolve_rules (db_of h) (flat (facts h) fs) ++ change_rules (transaction h fs)) none

pub refused_by_names : (h : List Entry) (fs : List Form) (reading : ℤ) (guard : Guard) (refusal : Refusal)
    → first_refusal (schema_rules (db_of h) (flat (facts h) fs)) ≡ None
    → first_refusal (resolve_rules (db_of h) (flat (facts h) fs)) ≡ Some refusal
    → shaped_step h fs reading guard ≡ refused refusal
refused_by_names h fs reading guard refusal none told =
    ap (unless_refused h fs reading guard)
    (behind_schema h fs none ∙ refusals.told (resolve_rules (db_of h) (flat (facts h) fs)) (change_rules (transaction h fs)) refusal told)

by_changes : (h : List Entry) (fs : List Form) (reading : ℤ) (guard : Guard) (o : Option Refusal)
    → unless_refused h fs reading guard o ≡ refusal_or o (under_guard h (transaction h fs) reading (guard h (transaction h fs).changes))
by_changes h fs reading guard None = refl
by_changes h fs reading guard (Some refusal) = refl

pub judged_by_changes : (h : List Entry) (fs : List Form) (reading : ℤ) (guard : Guard)
    → first_refusal (schema_rules (db_of h) (flat (facts h) fs)) ≡ None → first_refusal (resolve_rules (db_of h) (flat (facts h) fs)) ≡ None
    → shaped_step h fs reading guard ≡ judged_step h (transaction h fs) reading guard
judged_by_changes h fs reading guard none no_other =
    ap (unless_refused h fs reading guard)
    (behind_schema h fs none ∙ refusals.passed (resolve_rules (db_of h) (flat (facts h) fs)) (change_rules (transaction h fs)) no_other)
    ∙ by_changes h fs reading guard (first_refusal (change_rules (transaction h fs)))

-- the stops of the steps

pub told_by_shapes : (h : List Entry) (asked : Form) (reading : ℤ) (guard : Guard) (stop : TxStop)
    → IfRefused stop (λ refusal. (refusal.reason ≡ NotAForm) × (place_without_shape asked ≡ Some refusal.at))
    → Matches stop (step h asked reading guard)
told_by_shapes h asked reading guard (Refused refusal) why =
    unshaped h asked reading guard refusal.at why.1 ∙ ap (λ reason. refused (record { reason = reason; at = refusal.at })) (sym why.0)
told_by_shapes h asked reading guard Memory why = tt

pub told_by_names : (h : List Entry) (fs : List Form) (reading : ℤ) (guard : Guard)
    → first_refusal (schema_rules (db_of h) (flat (facts h) fs)) ≡ None
    → (stop : TxStop) → StopsBy (first_refusal (resolve_rules (db_of h) (flat (facts h) fs))) stop
    → Matches stop (shaped_step h fs reading guard)
told_by_names h fs reading guard none (Refused refusal) told = refused_by_names h fs reading guard refusal none told
told_by_names h fs reading guard none Memory told = tt

pub told_by_schema : (h : List Entry) (fs : List Form) (reading : ℤ) (guard : Guard) (schema : List Datom) (forms : List TxForm)
    (stop : TxStop)
    → IfRefused stop
    (λ refusal. (h : List Entry) (fs : List Form) → SchemaStands schema h → AreParsed forms fs
    → first_refusal (schema_rules (db_of h) (flat (facts h) fs)) ≡ Some refusal)
    → SchemaStands schema h → AreParsed forms fs → Matches stop (shaped_step h fs reading guard)
told_by_schema h fs reading guard schema forms (Refused refusal) told stands parsed =
    refused_by_schema h fs reading guard refusal (told h fs stands parsed)
told_by_schema h fs reading guard schema forms Memory told stands parsed = tt

pub told_by_changes : (o : Option Refusal) (decision : Decision) (stop : TxStop) → StopsBy o stop → Matches stop (refusal_or o decision)
told_by_changes o decision (Refused refusal) told = ap (λ rule. refusal_or rule decision) told
told_by_changes o decision Memory told = tt

-- ---- room for an instant

is_true : (b : Bool) → not b ≡ false → b ≡ true
is_true true none = refl
is_true false none = absurd (true≢false none)

abbrev is_kept : Reason × Option ℕ → Bool
is_kept rule = is_none rule.1

all_kept : (rules : List (Reason × Option ℕ)) → first_refusal rules ≡ None → list_all is_kept rules ≡ true
all_kept [] none = refl
all_kept ((reason, None) ∷ rest) none = all_kept rest none
all_kept ((reason, Some place) ∷ rest) none = absurd (none-some (record { reason = reason; at = place }) (sym none))

module _ {A : Type 0} (test : A → Bool) where
  all_pass : (xs : List A) (i : ℕ) (d : A) → list_all test xs ≡ true → i < length xs → test (get_or xs i d) ≡ true
  all_pass [] i d all within = absurd (omega arith)
  all_pass (x ∷ xs) zero d all within = (and_parts (test x) (list_all test xs) all).0
  all_pass (x ∷ xs) (suc i) d all within = all_pass xs i d (and_parts (test x) (list_all test xs) all).1 (omega arith)

not_whole : (b : Bool) → is_none (by_whole b) ≡ true → b ≡ false
not_whole true none = absurd (true≢false (sym none))
not_whole false none = refl

full_kept : (tx : Transaction) → first_refusal (change_rules tx) ≡ None → breaks_full tx ≡ false
full_kept tx none =
    not_whole (breaks_full tx) (all_pass is_kept (change_rules tx) 7 (NotAForm, None) (all_kept (change_rules tx) none) (omega arith))

below : (a b : ℤ) → int_lt a b ≡ true → a <ℤ b
below a b same = omega (arith, ints)

pub room_left : (tx : Transaction) → first_refusal (change_rules tx) ≡ None → last_instant tx.db.history <ℤ greatest_instant
room_left tx none =
    below (last_instant tx.db.history) greatest_instant
    (is_true (int_lt (last_instant tx.db.history) greatest_instant) (or_parts _ _ (full_kept tx none)).1)
