-- The tree that a pattern gives of an entity.
-- Datomic, Pull. What `*` stands for beside other items, skipped keys, and what is given at a cycle
-- and at the end of a recursion are this project's own choice.
use Rattle.std.specs.Prelude.{ℕ, ◌+◌, zero, suc, Bool, true, false, not, ◌||◌, List, [], ◌∷◌, ◌++◌}
use Rattle.std.specs.Prelude.{map, filter, fold, nat_eq, bytes_eq, None}
use Rattle.std.specs.List.{list_any}
use Rattle.edn_model.specs.Form.{Form, keyword}
use Rattle.edn_model.specs.Likeness.{alike}
use Rattle.edn_values.specs.Values.{form_of_value}
use Rattle.fb_values.specs.declared.facts.Value.TheVariants.{Ref}
use Rattle.pull_model.specs.Patterns.{own_name, Options, no_options, limit_of, key_of, Limit, first}
use Rattle.pull_model.specs.Patterns.{Pattern, no_items, item, Item, wildcard, own, attribute}
use Rattle.pull_model.specs.Patterns.{Below, usual, under, times, unlimited, everything, one_less}
use Rattle.pull_model.specs.Found.{Db, Found, absent, values, entities, found, names_of_entity}
use Rattle.pull_model.specs.Made.{Made, nothing, plain, stub, limited, gathered, or_default, Inside}
use Rattle.pull_model.specs.Made.{no_pairs_yet, with_pair, enclosed}

-- ---- the items, in order

-- the pattern has an item of its own for the attribute
abbrev pub has_item_for : List ℕ → Pattern → Bool
has_item_for name no_items = false
has_item_for name (item (attribute other options below) rest) =
    bytes_eq other name || has_item_for name rest
has_item_for name (item i rest) = has_item_for name rest

-- `*` is `:db/id`, and the attributes of the entity for which the pattern has no item
abbrev pub wildcard_items : Db → ℕ → Pattern → List Item
wildcard_items db e pattern =
    own no_options
    ∷ map (λ name. attribute name no_options usual)
    (filter (λ name. not (has_item_for name pattern)) (names_of_entity db e))

-- the items of a part of the pattern, the first of which has the place: each with its place
abbrev pub items_from : Db → ℕ → Pattern → ℕ → Pattern → List (ℕ × Item)
items_from db e pattern place no_items = []
items_from db e pattern place (item wildcard rest) =
    map (λ i. (place, i)) (wildcard_items db e pattern) ++ items_from db e pattern (place + 1) rest
items_from db e pattern place (item i rest) = (place, i) ∷ items_from db e pattern (place + 1) rest

-- ---- the entities under an attribute

-- the entity is on the path
abbrev pub is_on : List ℕ → ℕ → Bool
is_on path n = list_any (nat_eq n) path

-- of an entity that is met again its number alone is given;
-- `trees` makes the trees inside this one, of a pattern and an entity with the path to it
abbrev pub unless_met : Bool → (Pattern → List ℕ → ℕ → Made) → Pattern → List ℕ → ℕ → Made
unless_met true trees pattern path n = stub n
unless_met false trees pattern path n = trees pattern path n

-- an entity under the item at the place; a pattern under an attribute has a path of its own
abbrev pub pull_below : (Pattern → List ℕ → ℕ → Made) → Pattern → ℕ → List ℕ → Bool → Below → ℕ
    → Made
pull_below trees pattern place path true usual n = unless_met (is_on path n) trees everything path n
pull_below trees pattern place path false usual n = stub n
pull_below trees pattern place path parts (under inner) n = trees inner [] n
pull_below trees pattern place path parts (times k) n =
    unless_met (is_on path n) trees (one_less place pattern) path n
pull_below trees pattern place path parts unlimited n =
    unless_met (is_on path n) trees pattern path n

-- ---- the value of an item

abbrev pub limit_for : Bool → Options → Limit
limit_for true options = limit_of options
limit_for false options = first 1

-- plain values are as they are; the limit comes before what is left out
abbrev pub value_of : (Pattern → List ℕ → ℕ → Made) → Pattern → ℕ → List ℕ → Options → Below → Found
    → Made
value_of trees pattern place path options below absent = nothing
value_of trees pattern place path options below (values several vs) =
    gathered several (map (λ v. plain (form_of_value v)) (limited (limit_for several options) vs))
value_of trees pattern place path options below (entities several parts ns) =
    gathered several
    (map (pull_below trees pattern place path parts below) (limited (limit_for several options) ns))

-- of the item at the place, for the last entity of the path
abbrev pub made_of : (Pattern → List ℕ → ℕ → Made) → Db → Pattern → List ℕ → ℕ → ℕ → Item → Made
made_of trees db pattern above e place wildcard = nothing
made_of trees db pattern above e place (own options) = plain (form_of_value (Ref e))
made_of trees db pattern above e place (attribute name options below) =
    or_default options.default
    (value_of trees pattern place (e ∷ above) options below (found db e name))

-- ---- the pairs

abbrev pub key_of_item : Item → Form
key_of_item wildcard = keyword own_name
key_of_item (own options) = key_of own_name options
key_of_item (attribute name options below) = key_of name options

abbrev pub has_key : List (Form × Form) → Form → Bool
has_key pairs key = list_any (λ p. alike key p.0) pairs

-- an item whose key is there already is skipped
abbrev pub unless_there : Bool → (ℕ → Item → Made) → Inside → ℕ → Item → Inside
unless_there true made inside place i = inside
unless_there false made inside place i = with_pair inside (key_of_item i) (made place i)

abbrev pub with_item : (ℕ → Item → Made) → Inside → ℕ × Item → Inside
with_item made inside p = unless_there (has_key inside.pairs (key_of_item p.1)) made inside p.0 p.1

abbrev pub inside : (Pattern → List ℕ → ℕ → Made) → Db → Pattern → List ℕ → ℕ → Inside
inside trees db pattern above e =
    fold (with_item (made_of trees db pattern above e)) no_pairs_yet
    (items_from db e pattern 0 pattern)

-- ---- the tree

-- a map that is too deep, of which nothing more is looked at
abbrev pub too_deep : Made
too_deep = record { form = None; maps = 1; depth = 1 }

-- the tree of the entity e, which was come to by the path `above`, where maps may be inside one
-- another so many times
abbrev pub tree : ℕ → Db → Pattern → List ℕ → ℕ → Made
tree zero db pattern above e = too_deep
tree (suc room) db pattern above e = enclosed (inside (tree room db) db pattern above e)
