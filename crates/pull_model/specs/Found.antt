-- What a view has of an entity: the values of its attributes, the entities that refer to it, and
-- its attributes' names.
-- Datomic, Pull and Indexes. The order of values and of names is this project's own choice.
use Rattle.std.specs.Prelude.{◌≡◌, ℕ, Bool, false, not, ◌&&◌, List, [], ◌∷◌, map, filter}
use Rattle.std.specs.Prelude.{filter_map, ◌==◌, nat_eq, if◌then◌else◌, option_map, Option, Some}
use Rattle.std.specs.Prelude.{None}
use Rattle.std.specs.Ordering.{is_lt}
use Rattle.fb_values.specs.Orders.{text_cmp}
use Rattle.fb_values.specs.declared.facts.Datom.{Datom}
use Rattle.fb_values.specs.declared.facts.Entry.{Entry}
use Rattle.fb_values.specs.declared.facts.Value.{Value}
use Rattle.fb_values.specs.declared.facts.Value.TheVariants.{Ref}
use Rattle.fb_values.specs.declared.indexes.Order.TheVariants.{Eavt}
use Rattle.fb_numbers.specs.Numbers.{type_ref}
use Rattle.fb_model.specs.Rising.{in_order, IsRisingListOf}
use Rattle.fb_model.specs.Facts.{value_eq, values_of, facts}
use Rattle.fb_model.specs.Schema.{Attribute, attribute_of, attribute_named, entity_in}
use Rattle.tx_model.specs.Asks.{without_underscore}
use Rattle.view_model.specs.Window.{Window, without_history}
use Rattle.view_model.specs.View.{InView, facts_seen}
use Rattle.pull_model.specs.Patterns.{is_reversed}

-- a database value, as a pull reads it
pub record Db : Type 0 where
  -- the facts of the whole history without any filter, which say what an attribute is
  pub schema : List Datom
  -- the facts of the view without history, in the order of the index by entity
  pub seen : List Datom

abbrev pub db_of : List Entry → Window → List (Datom → Bool) → Db
db_of h w filters = record { schema = facts h; seen = in_order Eavt (facts_seen h w filters) }

-- the same by a relation, where `Selects` says which datoms all filters select
pub record IsDb (h : List Entry) (w : Window) (Selects : Datom → Type 0) (db : Db) : Type 0 where
  pub schema_is : db.schema ≡ facts h
  pub seen_is : IsRisingListOf Eavt db.seen (InView h (without_history w) Selects)

-- ---- what is found under a name

pub data Found : Type 0 where
  -- the name of no attribute, or the reversed name of an attribute whose values are no entities
  absent : Found
  -- whether there may be several, and the values
  values : Bool → List Value → Found
  -- whether there may be several, whether they are parts, and the entities
  entities : Bool → Bool → List ℕ → Found

-- the values of the entity
abbrev pub found_forward : Db → ℕ → Option Attribute → Found
found_forward db e None = absent
found_forward db e (Some attribute) =
    if attribute.kind == type_ref
    then entities attribute.many attribute.component
    (filter_map entity_in (values_of db.seen e attribute.id))
    else values attribute.many (values_of db.seen e attribute.id)

-- the entities that refer to the entity
abbrev pub referring : List Datom → ℕ → ℕ → List ℕ
referring seen e a = map (λ d. d.e) (filter (λ d. nat_eq d.a a && value_eq d.v (Ref e)) seen)

-- a part has one whole
abbrev pub found_backward : Db → ℕ → Option Attribute → Found
found_backward db e None = absent
found_backward db e (Some attribute) =
    if attribute.kind == type_ref
    then entities (not attribute.component) false (referring db.seen e attribute.id)
    else absent

-- the attribute that a name means, forward or reversed
abbrev pub meant : Db → List ℕ → Option Attribute
meant db name =
    attribute_named db.schema (if is_reversed name then without_underscore name else name)

abbrev pub found : Db → ℕ → List ℕ → Found
found db e name =
    if is_reversed name then found_backward db e (meant db name)
    else found_forward db e (meant db name)

-- ---- the attributes of an entity

-- in the order of their bytes, each once
abbrev pub put_name : List ℕ → List (List ℕ) → List (List ℕ)
put_name k [] = k ∷ []
put_name k (l ∷ ls) =
    if is_lt (text_cmp k l) then k ∷ l ∷ ls
    else (if is_lt (text_cmp l k) then l ∷ put_name k ls else l ∷ ls)

abbrev pub names_in_order : List (List ℕ) → List (List ℕ)
names_in_order [] = []
names_in_order (k ∷ ks) = put_name k (names_in_order ks)

abbrev pub name_in_schema : Db → Datom → Option (List ℕ)
name_in_schema db d = option_map (λ attribute. attribute.name) (attribute_of db.schema d.a)

-- the names of the attributes that the entity has in the view
abbrev pub names_of_entity : Db → ℕ → List (List ℕ)
names_of_entity db e =
    names_in_order (filter_map (name_in_schema db) (filter (λ d. nat_eq d.e e) db.seen))
