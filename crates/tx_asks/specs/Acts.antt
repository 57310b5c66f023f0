-- What is asked of entities by their numbers,
-- and what resolving the names of a transaction promises.
-- Datomic, Transaction Data.
use Rattle.std.specs.Prelude.{◌≡◌, ℕ, Bool, true, false, not, List, [], ◌∷◌, map, filter_map}
use Rattle.std.specs.Prelude.{is_some, IsTrue, Option, None, option_and_then, option_map, ⊤}
use Rattle.std.specs.List.{All}
use Rattle.edn_model.specs.Form as edn
use Rattle.fb_values.specs.declared.facts.Datom.{Datom}
use Rattle.fb_values.specs.declared.facts.Value.{Value}
use Rattle.fb_model.specs.Facts.{value_of}
use Rattle.fb_model.specs.Schema.{Attribute, attribute_named}
use Rattle.fb_schema.specs.Parts.{model_attribute}
use Rattle.tx_model.specs.Asks as asks
use Rattle.tx_model.specs.Asks.{Name, Operand, Ask, plain}
use Rattle.tx_model.specs.Tempids.{Db, entity_of}
use Rattle.tx_model.specs.Changes.{value_of_part, change, values_withdrawn, set_withdrawn}
use Rattle.tx_model.specs.Transaction.{Transaction, with_names}
use Rattle.tx_model.specs.ChangeRules.{is_value}
use Rattle.tx_asks.specs.declared.acts.Act as program
use Rattle.tx_asks.specs.declared.acts.Act.TheVariants.{Adds, Retracts, RetractsAll, Compares}
use Rattle.tx_asks.specs.declared.acts.Act.TheVariants.{RetractsEntity}

pub data Act : Type 0 where
  adds : ℕ → Attribute → Value → Act
  retracts : ℕ → Attribute → Value → Act
  -- every value
  retracts_all : ℕ → Attribute → Act
  -- the old value, or none, and the new one
  compares : ℕ → Attribute → Option Value → Value → Act
  retracts_entity : ℕ → Act

-- the act of the program
abbrev pub model_act : program.Act → Act
model_act (Adds e attribute v) = adds e (model_attribute attribute.now) v
model_act (Retracts e attribute v) = retracts e (model_attribute attribute.now) v
model_act (RetractsAll e attribute) = retracts_all e (model_attribute attribute.now)
model_act (Compares of) = compares of.e (model_attribute of.attribute.now) of.old of.new
model_act (RetractsEntity e) = retracts_entity e

-- ---- the act of an ask, where its names and its attribute are known and its value is read

abbrev pub old_value_of : Db → List (Name × ℕ) → Attribute → Operand → Option Value
old_value_of db names attribute (plain edn.nil) = None
old_value_of db names attribute part = value_of_part db names attribute part

abbrev pub act_of : Db → List (Name × ℕ) → Ask → Option Act
act_of db names (asks.adds name k part) =
    option_and_then
    (λ e. option_and_then (λ (a : Attribute). option_map (adds e a) (value_of_part db names a part))
    (attribute_named db.facts k))
    (entity_of db names name)
act_of db names (asks.retracts name k part) =
    option_and_then
    (λ e. option_and_then
    (λ (a : Attribute). option_map (retracts e a) (value_of_part db names a part))
    (attribute_named db.facts k))
    (entity_of db names name)
act_of db names (asks.retracts_all name k) =
    option_and_then (λ e. option_map (retracts_all e) (attribute_named db.facts k))
    (entity_of db names name)
act_of db names (asks.compares name k old new) =
    option_and_then
    (λ e. option_and_then
    (λ (a : Attribute). option_map (compares e a (old_value_of db names a old))
    (value_of_part db names a new))
    (attribute_named db.facts k))
    (entity_of db names name)
act_of db names (asks.retracts_entity name) = option_map retracts_entity (entity_of db names name)
act_of db names ask = None

-- the ask has its act, if it asks for a change
abbrev pub IsSettled : Db → List (Name × ℕ) → Ask → Type 0
IsSettled db names (asks.meets name) = ⊤
IsSettled db names (asks.mentions k) = ⊤
IsSettled db names asks.lacks_id = ⊤
IsSettled db names ask = IsTrue (is_some (act_of db names ask))

-- ---- what an act adds, retracts and finds

abbrev pub additions_of : Db → Act → List Datom
additions_of db (adds e a v) = change db true e a.id v ∷ []
additions_of db (compares e a old new) = change db true e a.id new ∷ []
additions_of db act = []

abbrev pub retractions_of : Db → Act → List Datom
retractions_of db (retracts e a v) = change db false e a.id v ∷ []
retractions_of db act = []

abbrev pub sweeps_of : Db → Act → List Datom
sweeps_of db (retracts_all e a) = values_withdrawn db e a
sweeps_of db (retracts_entity e) = set_withdrawn db e
sweeps_of db act = []

abbrev pub is_cas_of_many : Act → Bool
is_cas_of_many (compares e a old new) = a.many
is_cas_of_many act = false

abbrev pub is_cas_of_another : Db → Act → Bool
is_cas_of_another db (compares e a old new) = not (is_value (value_of db.facts e a.id) old)
is_cas_of_another db act = false

-- ---- what resolving promises

-- these are the acts of the transaction's asks, each of which is settled
pub record AreActs (acts : List (List Act)) (tx : Transaction) : Type 0 where
  pub built : tx ≡ with_names tx.db tx.asks tx.names
  pub same : acts ≡ map (filter_map (act_of tx.db tx.names)) tx.asks
  pub settled : All (All (IsSettled tx.db tx.names)) tx.asks

-- the forms' acts, as the program has them
abbrev pub acts_in : List (List program.Act) → List (List Act)
acts_in forms = map (map model_act) forms
