-- Maps without `:db/id` by their places in place of their numbers. This project's own choice.
use Rattle.std.specs.Prelude.{ℕ, List, [], ◌∷◌, slice_index_or}
use Rattle.tx_model.specs.Asks.{Name, nameless, Operand, plain, entity, Ask, adds, retracts}
use Rattle.tx_model.specs.Asks.{retracts_all, compares, retracts_entity, meets, mentions, lacks_id}

-- the place of the map with the number, which is alone in the path
abbrev pub place_of : List (List ℕ) → List ℕ → List ℕ
place_of places [] = []
place_of places (n ∷ rest) = slice_index_or places n []

abbrev pub placed : List (List ℕ) → Name → Name
placed places (nameless path) = nameless (place_of places path)
placed places name = name

abbrev pub part_placed : List (List ℕ) → Operand → Operand
part_placed places (plain f) = plain f
part_placed places (entity name) = entity (placed places name)

abbrev pub ask_placed : List (List ℕ) → Ask → Ask
ask_placed places (adds name k part) = adds (placed places name) k (part_placed places part)
ask_placed places (retracts name k part) = retracts (placed places name) k (part_placed places part)
ask_placed places (retracts_all name k) = retracts_all (placed places name) k
ask_placed places (compares name k old new) =
    compares (placed places name) k (part_placed places old) (part_placed places new)
ask_placed places (retracts_entity name) = retracts_entity (placed places name)
ask_placed places (meets name) = meets (placed places name)
ask_placed places (mentions k) = mentions k
ask_placed places lacks_id = lacks_id
