-- The rules on what a transaction changes, by name: which form is the first to break each.
-- Datomic, Transaction Data and Schema; the order of the rules is this project's own choice.
use Rattle.std.specs.Prelude.{ℕ, ◌+◌, Bool, not, ◌||◌, List, [], ◌∷◌, max, length, nat_lt, int_lt}
use Rattle.std.specs.Prelude.{Option}
use Rattle.fb_values.specs.declared.facts.Datom.{Datom}
use Rattle.fb_values.specs.declared.facts.Entry.{Entry}
use Rattle.fb_numbers.specs.Numbers.{greatest_t, greatest_instant, most_datoms, most_users}
use Rattle.fb_model.specs.History.{basis, last_instant, users_issued, users_in}
use Rattle.tx_refusals.specs.declared.reasons.Reason.{Reason}
use Rattle.tx_refusals.specs.declared.reasons.Reason.TheVariants.{CasMany, CasFailed}
use Rattle.tx_refusals.specs.declared.reasons.Reason.TheVariants.{DatomsConflict, UniqueConflict}
use Rattle.tx_refusals.specs.declared.reasons.Reason.TheVariants.{IncompleteAttribute}
use Rattle.tx_refusals.specs.declared.reasons.Reason.TheVariants.{AttributeFixed, TooLarge, Full}
use Rattle.tx_refusals.specs.declared.reasons.Reason.TheVariants.{AlterationConflict}
use Rattle.tx_model.specs.Size.{entry_size, most_bytes, instant_size}
use Rattle.tx_model.specs.Transaction.{Transaction}
use Rattle.tx_model.specs.ChangeRules.{breaks_cas_many, breaks_cas_failed, breaks_datoms_conflict}
use Rattle.tx_model.specs.ChangeRules.{breaks_unique_conflict, breaks_incomplete_attribute}
use Rattle.tx_model.specs.ChangeRules.{breaks_attribute_fixed, breaks_too_large, breaks_full}
use Rattle.tx_model.specs.ChangeRules.{breaks_alteration_conflict}
use Rattle.tx_model.specs.Step.{by_place, by_whole}
use Rattle.tx_asks.specs.declared.triples.Triple.{Triple}
use Rattle.tx_asks.specs.Acts.{Act}
use Rattle.tx_after.specs.After.{after}
use Rattle.tx_rules.specs.declared.rules.ChangeRule.{ChangeRule}
use Rattle.tx_rules.specs.declared.rules.ChangeRule.TheVariants as rule
use Rattle.tx_rules.specs.Cas.{first_of_many, first_failed}
use Rattle.tx_rules.specs.Conflicts.{first_conflict}
use Rattle.tx_rules.specs.Holders.{first_shared}
use Rattle.tx_rules.specs.Whole.{first_incomplete}
use Rattle.tx_rules.specs.Fixed.{first_fixed}
use Rattle.tx_rules.specs.Promises.{first_broken}

-- the rules on changes, each with the first form that breaks it: the least rule first
abbrev pub change_rules : Transaction → List (Reason × Option ℕ)
change_rules tx =
    (CasMany, by_place tx (breaks_cas_many tx))
    ∷ (CasFailed, by_place tx (breaks_cas_failed tx))
    ∷ (DatomsConflict, by_place tx (breaks_datoms_conflict tx))
    ∷ (UniqueConflict, by_place tx (breaks_unique_conflict tx))
    ∷ (IncompleteAttribute, by_place tx (breaks_incomplete_attribute tx))
    ∷ (AttributeFixed, by_place tx (breaks_attribute_fixed tx))
    ∷ (TooLarge, by_whole (breaks_too_large tx))
    ∷ (Full, by_whole (breaks_full tx))
    ∷ (AlterationConflict, by_place tx (breaks_alteration_conflict tx))
    ∷ []

-- ---- by acts, triples and changes

abbrev pub is_too_large : List Datom → Bool
is_too_large changes =
    nat_lt most_datoms (length changes + 1)
    || nat_lt most_bytes (entry_size changes + instant_size)

abbrev pub is_full : List Entry → List Datom → Bool
is_full h changes =
    nat_lt greatest_t (basis h + 1)
    || nat_lt most_users (max (users_issued h) (users_in changes))
    || not (int_lt (last_instant h) greatest_instant)

-- what a transaction asks at a history, as far as the rules look at it
pub record Asked : Type 0 where
  pub history : List Entry
  pub schema : List Datom
  pub forms : List (List Act)
  pub triples : List Triple
  pub changes : List Datom

abbrev pub first_place : Asked → ChangeRule → Option ℕ
first_place asked rule.CasMany = first_of_many asked.forms
first_place asked rule.CasFailed = first_failed asked.history asked.forms
first_place asked rule.DatomsConflict = first_conflict asked.schema asked.triples
first_place asked rule.UniqueConflict =
    first_shared asked.schema asked.history asked.changes asked.triples
first_place asked rule.IncompleteAttribute =
    first_incomplete asked.schema (after asked.history asked.changes) asked.triples
first_place asked rule.AttributeFixed = first_fixed asked.schema asked.triples
first_place asked rule.TooLarge = by_whole (is_too_large asked.changes)
first_place asked rule.Full = by_whole (is_full asked.history asked.changes)
first_place asked rule.AlterationConflict =
    first_broken asked.schema (after asked.history asked.changes) asked.triples

-- why a transaction that breaks the rule is refused
abbrev pub reason_of : ChangeRule → Reason
reason_of rule.CasMany = CasMany
reason_of rule.CasFailed = CasFailed
reason_of rule.DatomsConflict = DatomsConflict
reason_of rule.UniqueConflict = UniqueConflict
reason_of rule.IncompleteAttribute = IncompleteAttribute
reason_of rule.AttributeFixed = AttributeFixed
reason_of rule.TooLarge = TooLarge
reason_of rule.Full = Full
reason_of rule.AlterationConflict = AlterationConflict

abbrev pub with_first : Asked → ChangeRule → Reason × Option ℕ
with_first asked broken = (reason_of broken, first_place asked broken)

abbrev pub all_rules : List ChangeRule
all_rules =
    rule.CasMany ∷ rule.CasFailed ∷ rule.DatomsConflict ∷ rule.UniqueConflict
    ∷ rule.IncompleteAttribute ∷ rule.AttributeFixed ∷ rule.TooLarge ∷ rule.Full
    ∷ rule.AlterationConflict ∷ []
