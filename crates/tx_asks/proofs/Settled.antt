-- Asks that are settled, and what their acts do.
use Rattle.std.proofs.Common.{◌≡◌, refl, sym, ap, ℕ, Bool, true, false, List, [], ◌∷◌}
use Rattle.std.proofs.lemmas.Bool.{false≢true}
use Rattle.std.specs.Prelude.{Option, Some, None, option_and_then, option_map, option_to_list, IsTrue, is_some, not}
use Rattle.std.specs.Option.{option_map_or}
use Rattle.fb_values.specs.declared.facts.Datom.{Datom}
use Rattle.fb_values.specs.declared.facts.Value.{Value}
use Rattle.fb_model.specs.Facts.{value_of}
use Rattle.fb_model.specs.Schema.{Attribute, attribute_named}
use Rattle.edn_model.specs.Form as edn
use Rattle.tx_model.specs.Asks as asks
use Rattle.tx_model.specs.Asks.{Name, Ask, Operand}
use Rattle.tx_model.specs.Tempids.{Db, entity_of}
use Rattle.tx_model.specs.Changes as changes
use Rattle.tx_model.specs.Transaction.{Transaction}
use Rattle.tx_model.specs.ChangeRules.{compares_many, compares_another, is_value, old_value}
use Rattle.tx_asks.specs.Acts as acts
use Rattle.tx_asks.specs.Acts.{Act, act_of, additions_of, retractions_of, sweeps_of, is_cas_of_many, is_cas_of_another, old_value_of}
use Rattle.tx_asks.specs.Acts.{IsSettled}

with_value : (make : ℕ → Attribute → Value → Datom) (act : ℕ → Attribute → Value → Act) (of : Act → List Datom)
    (same : (e : ℕ) (a : Attribute) (v : Value) → of (act e a v) ≡ make e a v ∷ []) (e : ℕ) (a : Attribute) (v : Option Value)
    → option_to_list (option_map (make e a) v) ≡ option_map_or of (option_map (act e a) v) []
with_value make act of same e a None = refl
with_value make act of same e a (Some v) = sym (same e a v)

-- one datom, where the entity, the attribute and the value are there
one_datom : (make : ℕ → Attribute → Value → Datom) (act : ℕ → Attribute → Value → Act) (read : Attribute → Option Value)
    (of : Act → List Datom)
    (same : (e : ℕ) (a : Attribute) (v : Value) → of (act e a v) ≡ make e a v ∷ []) (e : Option ℕ) (a : Option Attribute)
    → option_to_list (option_and_then (λ e. option_and_then (λ (a : Attribute). option_map (make e a) (read a)) a) e)
    ≡ option_map_or of (option_and_then (λ e. option_and_then (λ (a : Attribute). option_map (act e a) (read a)) a) e) []
one_datom make act read of same None a = refl
one_datom make act read of same (Some e) None = refl
one_datom make act read of same (Some e) (Some a) = with_value make act of same e a (read a)

no_value : (act : Value → Act) (of : Act → List Datom) (none : (v : Value) → of (act v) ≡ []) (v : Option Value)
    → [] ≡ option_map_or of (option_map act v) []
no_value act of none None = refl
no_value act of none (Some v) = sym (none v)

-- nothing, whatever is there
no_datom : (act : ℕ → Attribute → Value → Act) (read : Attribute → Option Value) (of : Act → List Datom)
    (none : (e : ℕ) (a : Attribute) (v : Value) → of (act e a v) ≡ []) (e : Option ℕ) (a : Option Attribute)
    → [] ≡ option_map_or of (option_and_then (λ e. option_and_then (λ (a : Attribute). option_map (act e a) (read a)) a) e) []
no_datom act read of none None a = refl
no_datom act read of none (Some e) None = refl
no_datom act read of none (Some e) (Some a) = no_value (act e a) of (none e a) (read a)

no_attribute : (act : ℕ → Attribute → Act) (of : Act → List Datom) (none : (e : ℕ) (a : Attribute) → of (act e a) ≡ []) (e : Option ℕ)
    (a : Option Attribute)
    → [] ≡ option_map_or of (option_and_then (λ e. option_map (act e) a) e) []
no_attribute act of none None a = refl
no_attribute act of none (Some e) None = refl
no_attribute act of none (Some e) (Some a) = sym (none e a)

no_entity : (act : ℕ → Act) (of : Act → List Datom) (none : (e : ℕ) → of (act e) ≡ []) (e : Option ℕ)
    → [] ≡ option_map_or of (option_map act e) []
no_entity act of none None = refl
no_entity act of none (Some e) = sym (none e)

pub added : (db : Db) (names : List (Name × ℕ)) (ask : Ask)
    → changes.additions db names ask ≡ option_map_or (additions_of db) (act_of db names ask) []
added db names (asks.adds name k part) =
    one_datom (λ e a v. changes.change db true e a.id v) acts.adds (λ a. changes.value_of_part db names a part) (additions_of db)
    (λ e a v. refl) (entity_of db names name) (attribute_named db.facts k)
added db names (asks.compares name k old new) =
    one_datom (λ e a v. changes.change db true e a.id v) (λ e a. acts.compares e a (old_value_of db names a old))
    (λ a. changes.value_of_part db names a new) (additions_of db) (λ e a v. refl) (entity_of db names name) (attribute_named db.facts k)
added db names (asks.retracts name k part) =
    no_datom acts.retracts (λ a. changes.value_of_part db names a part) (additions_of db) (λ e a v. refl) (entity_of db names name)
    (attribute_named db.facts k)
added db names (asks.retracts_all name k) =
    no_attribute acts.retracts_all (additions_of db) (λ e a. refl) (entity_of db names name) (attribute_named db.facts k)
added db names (asks.retracts_entity name) = no_entity acts.retracts_entity (additions_of db) (λ e. refl) (entity_of db names name)
added db names (asks.meets name) = refl
added db names (asks.mentions k) = refl
added db names asks.lacks_id = refl

pub retracted : (db : Db) (names : List (Name × ℕ)) (ask : Ask)
    → changes.retractions db names ask ≡ option_map_or (retractions_of db) (act_of db names ask) []
retracted db names (asks.retracts name k part) =
    one_datom (λ e a v. changes.change db false e a.id v) acts.retracts (λ a. changes.value_of_part db names a part) (retractions_of db)
    (λ e a v. refl) (entity_of db names name) (attribute_named db.facts k)
retracted db names (asks.adds name k part) =
    no_datom acts.adds (λ a. changes.value_of_part db names a part) (retractions_of db) (λ e a v. refl) (entity_of db names name)
    (attribute_named db.facts k)
retracted db names (asks.compares name k old new) =
    no_datom (λ e a. acts.compares e a (old_value_of db names a old)) (λ a. changes.value_of_part db names a new) (retractions_of db)
    (λ e a v. refl) (entity_of db names name) (attribute_named db.facts k)
retracted db names (asks.retracts_all name k) =
    no_attribute acts.retracts_all (retractions_of db) (λ e a. refl) (entity_of db names name) (attribute_named db.facts k)
retracted db names (asks.retracts_entity name) = no_entity acts.retracts_entity (retractions_of db) (λ e. refl) (entity_of db names name)
retracted db names (asks.meets name) = refl
retracted db names (asks.mentions k) = refl
retracted db names asks.lacks_id = refl

swept_values : (db : Db) (e : Option ℕ) (a : Option Attribute)
    → option_map_or (λ e. option_map_or (changes.values_withdrawn db e) a []) e []
    ≡ option_map_or (sweeps_of db) (option_and_then (λ e. option_map (acts.retracts_all e) a) e) []
swept_values db None a = refl
swept_values db (Some e) None = refl
swept_values db (Some e) (Some a) = refl

swept_entity : (db : Db) (e : Option ℕ)
    → option_map_or (changes.set_withdrawn db) e [] ≡ option_map_or (sweeps_of db) (option_map acts.retracts_entity e) []
swept_entity db None = refl
swept_entity db (Some e) = refl

pub swept : (db : Db) (names : List (Name × ℕ)) (ask : Ask)
    → changes.sweeps db names ask ≡ option_map_or (sweeps_of db) (act_of db names ask) []
swept db names (asks.retracts_all name k) = swept_values db (entity_of db names name) (attribute_named db.facts k)
swept db names (asks.retracts_entity name) = swept_entity db (entity_of db names name)
swept db names (asks.retracts name k part) =
    no_datom acts.retracts (λ a. changes.value_of_part db names a part) (sweeps_of db) (λ e a v. refl) (entity_of db names name)
    (attribute_named db.facts k)
swept db names (asks.adds name k part) =
    no_datom acts.adds (λ a. changes.value_of_part db names a part) (sweeps_of db) (λ e a v. refl) (entity_of db names name)
    (attribute_named db.facts k)
swept db names (asks.compares name k old new) =
    no_datom (λ e a. acts.compares e a (old_value_of db names a old)) (λ a. changes.value_of_part db names a new) (sweeps_of db)
    (λ e a v. refl) (entity_of db names name) (attribute_named db.facts k)
swept db names (asks.meets name) = refl
swept db names (asks.mentions k) = refl
swept db names asks.lacks_id = refl

old_same : (tx : Transaction) (a : Attribute) (old : Operand) → old_value tx a old ≡ old_value_of tx.db tx.names a old
old_same tx a (asks.entity name) = refl
old_same tx a (asks.plain edn.nil) = refl
old_same tx a (asks.plain (edn.boolean b)) = refl
old_same tx a (asks.plain (edn.integer z)) = refl
old_same tx a (asks.plain (edn.string s)) = refl
old_same tx a (asks.plain (edn.symbol s)) = refl
old_same tx a (asks.plain (edn.keyword k)) = refl
old_same tx a (asks.plain (edn.list fs)) = refl
old_same tx a (asks.plain (edn.vector fs)) = refl
old_same tx a (asks.plain (edn.map ps)) = refl
old_same tx a (asks.plain (edn.set fs)) = refl
old_same tx a (asks.plain (edn.instant z)) = refl
old_same tx a (asks.plain (edn.uuid n)) = refl

none_read : (act : Value → Act) (test : Act → Bool) (none : (v : Value) → test (act v) ≡ false) (v : Option Value)
    → false ≡ option_map_or test (option_map act v) false
none_read act test none None = refl
none_read act test none (Some v) = sym (none v)

none_of : (act : ℕ → Attribute → Value → Act) (read : Attribute → Option Value) (test : Act → Bool)
    (none : (e : ℕ) (a : Attribute) (v : Value) → test (act e a v) ≡ false)
    (e : Option ℕ) (a : Option Attribute)
    → false ≡ option_map_or test (option_and_then (λ e. option_and_then (λ (a : Attribute). option_map (act e a) (read a)) a) e) false
none_of act read test none None a = refl
none_of act read test none (Some e) None = refl
none_of act read test none (Some e) (Some a) = none_read (act e a) test (none e a) (read a)

none_of_all : (act : ℕ → Attribute → Act) (test : Act → Bool) (none : (e : ℕ) (a : Attribute) → test (act e a) ≡ false) (e : Option ℕ)
    (a : Option Attribute)
    → false ≡ option_map_or test (option_and_then (λ e. option_map (act e) a) e) false
none_of_all act test none None a = refl
none_of_all act test none (Some e) None = refl
none_of_all act test none (Some e) (Some a) = sym (none e a)

none_of_entity : (act : ℕ → Act) (test : Act → Bool) (none : (e : ℕ) → test (act e) ≡ false) (e : Option ℕ)
    → false ≡ option_map_or test (option_map act e) false
none_of_entity act test none None = refl
none_of_entity act test none (Some e) = sym (none e)

many_read : (old : Attribute → Option Value) (e : ℕ) (a : Attribute) (v : Option Value)
    → IsTrue (is_some (option_map (acts.compares e a (old a)) v))
    → a.many ≡ option_map_or is_cas_of_many (option_map (acts.compares e a (old a)) v) false
many_read old e a None some = absurd (false≢true some)
many_read old e a (Some v) some = refl

another_read : (tx : Transaction) (old : Operand) (e : ℕ) (a : Attribute) (v : Option Value)
    → IsTrue (is_some (option_map (acts.compares e a (old_value_of tx.db tx.names a old)) v))
    → not (is_value (value_of tx.db.facts e a.id) (old_value tx a old))
    ≡ option_map_or (is_cas_of_another tx.db) (option_map (acts.compares e a (old_value_of tx.db tx.names a old)) v) false
another_read tx old e a None some = absurd (false≢true some)
another_read tx old e a (Some v) some = ap (λ w. not (is_value (value_of tx.db.facts e a.id) w)) (old_same tx a old)

many_of : (old : Attribute → Option Value) (read : Attribute → Option Value) (e : Option ℕ) (a : Option Attribute)
    → IsTrue (is_some (option_and_then (λ e. option_and_then (λ (a : Attribute). option_map (acts.compares e a (old a)) (read a)) a) e))
    → option_map_or (λ a. a.many) a false
    ≡ option_map_or is_cas_of_many
    (option_and_then (λ e. option_and_then (λ (a : Attribute). option_map (acts.compares e a (old a)) (read a)) a) e) false
many_of old read None a some = absurd (false≢true some)
many_of old read (Some e) None some = absurd (false≢true some)
many_of old read (Some e) (Some a) some = many_read old e a (read a) some

another_of : (tx : Transaction) (old : Operand) (read : Attribute → Option Value) (e : Option ℕ) (a : Option Attribute)
    → IsTrue (is_some (option_and_then
    (λ e. option_and_then (λ (a : Attribute). option_map (acts.compares e a (old_value_of tx.db tx.names a old)) (read a)) a) e))
    → option_map_or
    (λ e. option_map_or (λ attribute. not (is_value (value_of tx.db.facts e attribute.id) (old_value tx attribute old))) a false) e false
    ≡ option_map_or (is_cas_of_another tx.db) (option_and_then
    (λ e. option_and_then (λ (a : Attribute). option_map (acts.compares e a (old_value_of tx.db tx.names a old)) (read a)) a) e) false
another_of tx old read None a some = absurd (false≢true some)
another_of tx old read (Some e) None some = absurd (false≢true some)
another_of tx old read (Some e) (Some a) some = another_read tx old e a (read a) some

pub many : (tx : Transaction) (ask : Ask) → IsSettled tx.db tx.names ask
    → compares_many tx.db ask ≡ option_map_or is_cas_of_many (act_of tx.db tx.names ask) false
many tx (asks.compares name k old new) settled =
    many_of (λ a. old_value_of tx.db tx.names a old) (λ a. changes.value_of_part tx.db tx.names a new) (entity_of tx.db tx.names name)
    (attribute_named tx.db.facts k) settled
many tx (asks.adds name k part) settled =
    none_of acts.adds (λ a. changes.value_of_part tx.db tx.names a part) is_cas_of_many (λ e a v. refl) (entity_of tx.db tx.names name)
    (attribute_named tx.db.facts k)
many tx (asks.retracts name k part) settled =
    none_of acts.retracts (λ a. changes.value_of_part tx.db tx.names a part) is_cas_of_many (λ e a v. refl) (entity_of tx.db tx.names name)
    (attribute_named tx.db.facts k)
many tx (asks.retracts_all name k) settled =
    none_of_all acts.retracts_all is_cas_of_many (λ e a. refl) (entity_of tx.db tx.names name) (attribute_named tx.db.facts k)
many tx (asks.retracts_entity name) settled = none_of_entity acts.retracts_entity is_cas_of_many (λ e. refl) (entity_of tx.db tx.names name)
many tx (asks.meets name) settled = refl
many tx (asks.mentions k) settled = refl
many tx asks.lacks_id settled = refl

pub another : (tx : Transaction) (ask : Ask) → IsSettled tx.db tx.names ask
    → compares_another tx ask ≡ option_map_or (is_cas_of_another tx.db) (act_of tx.db tx.names ask) false
another tx (asks.compares name k old new) settled =
    another_of tx old (λ a. changes.value_of_part tx.db tx.names a new) (entity_of tx.db tx.names name)
    (attribute_named tx.db.facts k) settled
another tx (asks.adds name k part) settled =
    none_of acts.adds (λ a. changes.value_of_part tx.db tx.names a part) (is_cas_of_another tx.db) (λ e a v. refl)
    (entity_of tx.db tx.names name) (attribute_named tx.db.facts k)
another tx (asks.retracts name k part) settled =
    none_of acts.retracts (λ a. changes.value_of_part tx.db tx.names a part) (is_cas_of_another tx.db) (λ e a v. refl)
    (entity_of tx.db tx.names name) (attribute_named tx.db.facts k)
another tx (asks.retracts_all name k) settled =
    none_of_all acts.retracts_all (is_cas_of_another tx.db) (λ e a. refl) (entity_of tx.db tx.names name) (attribute_named tx.db.facts k)
another tx (asks.retracts_entity name) settled =
    none_of_entity acts.retracts_entity (is_cas_of_another tx.db) (λ e. refl) (entity_of tx.db tx.names name)
another tx (asks.meets name) settled = refl
another tx (asks.mentions k) settled = refl
another tx asks.lacks_id settled = refl
