-- What a transaction asks to add and to retract, as datoms over entity numbers.
-- Datomic, Transaction Data (:db/add, :db/retract, :db/cas, :db/retractEntity, cardinality one) and
-- Schema (:db/isComponent).
use Rattle.std.specs.Prelude.{ℕ, ◌+◌, Bool, true, false, not, ◌&&◌, ◌||◌, List, [], ◌∷◌, map}
use Rattle.std.specs.Prelude.{filter, filter_map, nat_eq, if◌then◌else◌, Option, Some, None}
use Rattle.std.specs.Prelude.{option_and_then, option_map, option_to_list}
use Rattle.std.specs.List.{list_any}
use Rattle.std.specs.Option.{option_map_or}
use Rattle.fb_values.specs.declared.facts.Datom.{Datom}
use Rattle.fb_values.specs.declared.facts.Value.{Value}
use Rattle.fb_values.specs.declared.facts.Value.TheVariants.{Ref}
use Rattle.fb_model.specs.History.{basis}
use Rattle.fb_model.specs.Facts.{value_eq}
use Rattle.fb_model.specs.Schema.{Attribute, attribute_named, is_one, is_part}
use Rattle.tx_model.specs.Asks.{Name, Operand, plain, entity, Ask, adds, retracts, retracts_all}
use Rattle.tx_model.specs.Asks.{compares, retracts_entity}
use Rattle.tx_model.specs.Tempids.{Db, entity_of}
use Rattle.tx_model.specs.Values.{value_in}

-- the value in a value's place
abbrev pub value_of_part : Db → List (Name × ℕ) → Attribute → Operand → Option Value
value_of_part db names attribute (plain f) = value_in attribute.kind f
value_of_part db names attribute (entity name) = option_map Ref (entity_of db names name)

-- a datom of the new transaction
abbrev pub change : Db → Bool → ℕ → ℕ → Value → Datom
change db added e a v = record { e = e; a = a; v = v; t = basis db.history + 1; added = added }

-- the datom of an entity, an attribute and a value, where each of them is found
abbrev pub changes_of : Db → List (Name × ℕ) → Bool → Name → List ℕ → Operand → List Datom
changes_of db names added name attribute part =
    option_to_list
    (option_and_then (λ e.
    option_and_then (λ (a : Attribute).
    option_map (change db added e a.id) (value_of_part db names a part))
    (attribute_named db.facts attribute))
    (entity_of db names name))

-- the retraction of a fact
abbrev pub withdrawn : Db → Datom → Datom
withdrawn db d = change db false d.e d.a d.v

-- ---- asked by one ask

abbrev pub additions : Db → List (Name × ℕ) → Ask → List Datom
additions db names (adds name attribute part) = changes_of db names true name attribute part
additions db names (compares name attribute old new) = changes_of db names true name attribute new
additions db names ask = []

-- asked as a triple
abbrev pub retractions : Db → List (Name × ℕ) → Ask → List Datom
retractions db names (retracts name attribute part) = changes_of db names false name attribute part
retractions db names ask = []

-- from an entity to a part of it: a value under a component attribute
abbrev pub link_to : ℕ → Value → Option (ℕ × ℕ)
link_to e (Ref part) = Some (e, part)
link_to e v = None

abbrev pub part_in : List Datom → Datom → Option (ℕ × ℕ)
part_in facts d = if is_part facts d.a then link_to d.e d.v else None

abbrev pub component_links : List Datom → List (ℕ × ℕ)
component_links facts = filter_map (part_in facts) facts

abbrev pub is_in : List ℕ → ℕ → Bool
is_in set e = list_any (nat_eq e) set

abbrev pub added_parts : List (ℕ × ℕ) → List ℕ → List ℕ
added_parts [] set = set
added_parts (link ∷ links) set =
    if is_in set link.0 && not (is_in set link.1) then added_parts links (link.1 ∷ set)
    else added_parts links set

-- an entity with its parts, their parts and so on: once for each link, after which none is left to
-- add
abbrev pub closed_under : List (ℕ × ℕ) → List (ℕ × ℕ) → List ℕ → List ℕ
closed_under [] links set = set
closed_under (_ ∷ more) links set = closed_under more links (added_parts links set)

abbrev pub closed_set : List Datom → ℕ → List ℕ
closed_set facts e = closed_under (component_links facts) (component_links facts) (e ∷ [])

-- the fact is about an entity of the set, or its value is one
abbrev pub is_value_in : List ℕ → Value → Bool
is_value_in set (Ref e) = is_in set e
is_value_in set v = false

abbrev pub is_about_set : List ℕ → Datom → Bool
is_about_set set d = is_in set d.e || is_value_in set d.v

-- found in the database: every value of an attribute, or all facts of a closed set
abbrev pub values_withdrawn : Db → ℕ → Attribute → List Datom
values_withdrawn db e a =
    map (withdrawn db) (filter (λ d. nat_eq d.e e && nat_eq d.a a.id) db.facts)

abbrev pub set_withdrawn : Db → ℕ → List Datom
set_withdrawn db e = map (withdrawn db) (filter (is_about_set (closed_set db.facts e)) db.facts)

abbrev pub sweeps : Db → List (Name × ℕ) → Ask → List Datom
sweeps db names (retracts_all name attribute) =
    option_map_or
    (λ e. option_map_or (values_withdrawn db e) (attribute_named db.facts attribute) [])
    (entity_of db names name) []
sweeps db names (retracts_entity name) =
    option_map_or (set_withdrawn db) (entity_of db names name) []
sweeps db names ask = []

-- ---- implied by additions

-- another value that holds under an attribute of cardinality one goes
abbrev pub is_replaced : Datom → Datom → Bool
is_replaced d addition =
    nat_eq addition.e d.e && nat_eq addition.a d.a && not (value_eq addition.v d.v)

abbrev pub implied : Db → List Datom → List Datom
implied db added =
    map (withdrawn db)
    (filter (λ d. is_one db.facts d.a && list_any (is_replaced d) added) db.facts)
