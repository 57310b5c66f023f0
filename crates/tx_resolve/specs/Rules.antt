-- The rules that are tested where names are resolved,
-- each with the first form that breaks it, the least rule first; and what is told of them.
-- Datomic, Transaction Data. Which of several faults is reported is this project's own choice.
use Rattle.std.specs.Prelude.{◌≡◌, ℕ, List, [], ◌∷◌, map, ⊤, Option, Some}
use Rattle.fb_values.specs.declared.facts.Entry.{Entry}
use Rattle.fb_model.specs.Facts.{facts}
use Rattle.tx_refusals.specs.declared.reasons.Reason.{Reason}
use Rattle.tx_refusals.specs.declared.reasons.Reason.TheVariants.{NotAnEntity, NestedWithoutId}
use Rattle.tx_refusals.specs.declared.reasons.Reason.TheVariants.{TempidConflict, TempidNotAnEntity}
use Rattle.tx_refusals.specs.declared.reasons.Refusal.{Refusal}
use Rattle.tx_model.specs.Asks.{Ask}
use Rattle.tx_model.specs.Tempids.{Db, db_of}
use Rattle.tx_model.specs.Transaction.{joined}
use Rattle.tx_model.specs.NameRules.{breaks_not_an_entity, breaks_nested_without_id}
use Rattle.tx_model.specs.NameRules.{breaks_tempid_conflict, breaks_tempid_not_an_entity}
use Rattle.tx_model.specs.Step.{first_yes}
use Rattle.tx_forms.specs.declared.read.TxStop.{TxStop}
use Rattle.tx_forms.specs.declared.read.TxStop.TheVariants.{Refused, Memory}
use Rattle.tx_asks.specs.declared.asks.Flat.{Flat}
use Rattle.tx_asks.specs.Asks.{AreAsks}

abbrev pub resolve_rules : Db → List (List Ask) → List (Reason × Option ℕ)
resolve_rules db asks =
    (NotAnEntity, first_yes 0 (map (breaks_not_an_entity db) asks))
    ∷ (NestedWithoutId, first_yes 0 (map (breaks_nested_without_id db) asks))
    ∷ (TempidConflict, first_yes 0 (map (breaks_tempid_conflict db (joined asks)) asks))
    ∷ (TempidNotAnEntity, first_yes 0 (map (breaks_tempid_not_an_entity (joined asks)) asks))
    ∷ []

-- it stops by this refusal, or because memory runs out
abbrev pub StopsBy : Option Refusal → TxStop → Type 0
StopsBy told (Refused refusal) = told ≡ Some refusal
StopsBy told Memory = ⊤

-- it holds of the asks, whichever they are of which the program has what matters
abbrev pub OfAsks : Flat → List Entry → (Db → List (List Ask) → Type 0) → Type 0
OfAsks flat h holds = (asks : List (List Ask)) → AreAsks flat (facts h) asks → holds (db_of h) asks
