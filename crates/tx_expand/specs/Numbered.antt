-- The walk over a transaction where maps without `:db/id` go by their numbers,
-- in the order in which a reader meets them: what is asked, and the number of the next such map.
-- But for these names it is the walk of the definitions.
-- Datomic, Transaction Data (map forms,
-- nested maps, cardinality-many values, reverse attribute names).
use Rattle.std.specs.Prelude.{ℕ, ◌+◌, Bool, true, false, not, ◌&&◌, ◌||◌, List, [], ◌∷◌, ◌++◌}
use Rattle.std.specs.Prelude.{if◌then◌else◌, Option, Some, None}
use Rattle.edn_model.specs.Form as edn
use Rattle.edn_model.specs.Form.{Form, Forms, no_forms, form, Pairs, no_pairs, pair}
use Rattle.fb_values.specs.declared.facts.Datom.{Datom}
use Rattle.tx_model.specs.Asks.{Name, nameless, plain, entity, Ask, meets, lookup_in, Key, own}
use Rattle.tx_model.specs.Asks.{forward, backward, key_in}
use Rattle.tx_model.specs.Walk.{has_ref, has_many, has_uniqueness, has_parts, has_identity, need}
use Rattle.tx_model.specs.Walk.{name_of_map, links, nested_asks, scalar_asks, vector_asks}
use Rattle.tx_model.specs.Walk.{sequence_asks, pair_asks, list_asks}
use Rattle.tx_forms.specs.Parts.{Parts, list_form, map_form, no_form}

pub record Visited : Type 0 where
  pub asks : List Ask
  pub next : ℕ

abbrev pub visited : List Ask → ℕ → Visited
visited asks next = record { asks = asks; next = next }

-- one after the other
abbrev pub then_walk : Visited → (ℕ → Visited) → Visited
then_walk first rest =
    record { asks = first.asks ++ (rest first.next).asks; next = (rest first.next).next }

-- the map's entity, where the next map without `:db/id` has the number n,
-- and the number of the next one after it
abbrev pub name_at : ℕ → Pairs → Name
name_at n ps = name_of_map (n ∷ []) ps

abbrev pub behind : Name → ℕ → ℕ
behind (nameless path) n = n + 1
behind name n = n

-- ---- what is looked into

-- a map under the key is asked about
abbrev pub takes_maps : List Datom → Key → Bool
takes_maps facts own = false
takes_maps facts (forward name) = has_ref facts name
takes_maps facts (backward name) = true

-- a vector or a list under the key is a collection, where the vector could be a lookup ref or not
abbrev pub is_collection : List Datom → Key → Option (List ℕ × Form) → Bool
is_collection facts own found = false
is_collection facts (forward name) None = has_many facts name
is_collection facts (forward name) (Some found) =
    has_many facts name && not (has_ref facts name && has_uniqueness facts found.0)
is_collection facts (backward name) None = true
is_collection facts (backward name) (Some found) = not (has_uniqueness facts found.0)

-- values under the key are asked about
abbrev pub takes_values : List Datom → Key → Bool
takes_values facts own = false
takes_values facts (forward name) = true
takes_values facts (backward name) = has_ref facts name

-- a map under the key lacks what it needs
abbrev pub lacks : List Datom → Key → Pairs → Bool
lacks facts own ps = false
lacks facts (forward name) ps = not (has_parts facts name || has_identity facts ps)
lacks facts (backward name) ps = not (has_identity facts ps)

-- the link to the map, and what the map lacks
abbrev pub entry_asks : List Datom → Name → Key → ℕ → Pairs → List Ask
entry_asks facts self key n ps = links self key (entity (name_at n ps)) ++ need (lacks facts key ps)

-- ---- the walk

abbrev pub walk_nested : List Datom → Name → Key → ℕ → Pairs → Visited → Visited
walk_nested facts self key n ps inner =
    if takes_maps facts key
    then visited (nested_asks facts self key (name_at n ps) ps inner.asks) inner.next
    else visited (nested_asks facts self key (name_at n ps) ps []) n

abbrev pub walk_vector : List Datom → Name → Key → ℕ → Forms → Visited → Visited
walk_vector facts self key n fs members =
    if is_collection facts key (lookup_in fs) then members
    else visited (vector_asks facts self key fs (lookup_in fs) []) n

abbrev pub walk_list : List Datom → Name → Key → ℕ → Forms → Visited → Visited
walk_list facts self key n fs members =
    if is_collection facts key None then members
    else visited (sequence_asks facts self key (edn.list fs) []) n

abbrev pub walk_pair : List Datom → Name → Key → ℕ → Visited → Visited
walk_pair facts self key n values =
    if takes_values facts key then visited (pair_asks facts self key values.asks) values.next
    else visited (pair_asks facts self key []) n

abbrev mutual
  pub walk_map : List Datom → Name → ℕ → Pairs → Visited
  walk_map facts self n no_pairs = visited [] n
  walk_map facts self n (pair key value rest) =
      then_walk (walk_pair facts self (key_in key) n (walk_value facts self (key_in key) n value))
      (λ m. walk_map facts self m rest)

  pub walk_value : List Datom → Name → Key → ℕ → Form → Visited
  walk_value facts self key n (edn.map ps) =
      walk_nested facts self key n ps (walk_map facts (name_at n ps) (behind (name_at n ps) n) ps)
  walk_value facts self key n (edn.set fs) = walk_members facts self key n fs
  walk_value facts self key n (edn.vector fs) =
      walk_vector facts self key n fs (walk_members facts self key n fs)
  walk_value facts self key n (edn.list fs) =
      walk_list facts self key n fs (walk_members facts self key n fs)
  walk_value facts self key n f = visited (scalar_asks facts self key f) n

  pub walk_members : List Datom → Name → Key → ℕ → Forms → Visited
  walk_members facts self key n no_forms = visited [] n
  walk_members facts self key n (form f fs) =
      then_walk (walk_member facts self key n f) (λ m. walk_members facts self key m fs)

  pub walk_member : List Datom → Name → Key → ℕ → Form → Visited
  walk_member facts self key n (edn.map ps) =
      walk_nested facts self key n ps (walk_map facts (name_at n ps) (behind (name_at n ps) n) ps)
  walk_member facts self key n (edn.vector fs) =
      visited
      (vector_asks facts self key fs (lookup_in fs) (links self key (plain (edn.vector fs)))) n
  walk_member facts self key n f = visited (scalar_asks facts self key f) n

-- ---- forms

abbrev pub walk_form : List Datom → ℕ → Parts → Visited
walk_form facts n (list_form verb arguments) = visited (list_asks facts verb arguments) n
walk_form facts n (map_form ps) =
    then_walk (visited (meets (name_at n ps) ∷ []) (behind (name_at n ps) n))
    (λ m. walk_map facts (name_at n ps) m ps)
walk_form facts n no_form = visited [] n

-- what each form asks, and the number after them all
abbrev pub walk_forms : List Datom → ℕ → List Parts → List (List Ask)
walk_forms facts n [] = []
walk_forms facts n (f ∷ fs) =
    (walk_form facts n f).asks ∷ walk_forms facts (walk_form facts n f).next fs

abbrev pub next_behind : List Datom → ℕ → List Parts → ℕ
next_behind facts n [] = n
next_behind facts n (f ∷ fs) = next_behind facts (walk_form facts n f).next fs
