-- The step of forms that have a shape, and what a stop says of it.
-- This project's own choice; running out of memory says nothing.
use Rattle.std.specs.Prelude.{◌≡◌, ℤ, List, Option, Some, None, ⊤}
use Rattle.edn_model.specs.Form.{Form}
use Rattle.fb_values.specs.declared.facts.Entry.{Entry}
use Rattle.tx_refusals.specs.declared.reasons.Refusal.{Refusal}
use Rattle.tx_forms.specs.declared.read.TxStop.{TxStop}
use Rattle.tx_forms.specs.declared.read.TxStop.TheVariants.{Refused, Memory}
use Rattle.tx_model.specs.Tempids.{db_of}
use Rattle.tx_model.specs.Transaction.{Transaction, transaction}
use Rattle.tx_model.specs.Step.{Decision, refused, Guard, broken_rules, first_refusal}
use Rattle.tx_model.specs.Step.{unless_refused, under_guard}
use Rattle.tx_rules.specs.Tempids.{HasAssignedTempids}
use Rattle.tx_rules.specs.Rules.{change_rules}
use Rattle.tx_asks.specs.Acts.{Act, AreActs}

abbrev pub Matches : TxStop → Decision → Type 0
Matches (Refused refusal) decision = decision ≡ refused refusal
Matches Memory decision = ⊤

-- the refusal, or what there is without one
abbrev pub refusal_or : Option Refusal → Decision → Decision
refusal_or (Some refusal) decision = refused refusal
refusal_or None decision = decision

abbrev pub shaped_step : List Entry → List Form → ℤ → Guard → Decision
shaped_step h fs reading guard =
    unless_refused h fs reading guard (first_refusal (broken_rules (transaction h fs)))

-- the step of a transaction that breaks no rule on forms and names
abbrev pub judged_step : List Entry → Transaction → ℤ → Guard → Decision
judged_step h tx reading guard =
    refusal_or (first_refusal (change_rules tx)) (under_guard h tx reading (guard h tx.changes))

-- the acts are those of a transaction at the history, with the entities that are assigned to its
-- tempids
pub record IsSomeTransaction (h : List Entry) (acts : List (List Act)) : Type 0 where
  pub tx : Transaction
  pub db_is : tx.db ≡ db_of h
  pub acts_are : AreActs acts tx
  pub tempids_are : HasAssignedTempids tx

-- it holds of each such transaction
abbrev pub OfTransactions : List Entry → List (List Act) → (Transaction → Type 0) → Type 0
OfTransactions h acts holds =
    (tx : Transaction) → tx.db ≡ db_of h → AreActs acts tx → HasAssignedTempids tx → holds tx
