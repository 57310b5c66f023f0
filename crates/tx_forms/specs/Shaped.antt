-- The first form of a transaction that has no shape, and the pairs of a map that has one.
-- Datomic, Transaction Data (transaction structure, list forms, map forms).
use Rattle.std.specs.Prelude.{ℕ, Bool, ◌&&◌, List, Option, Some}
use Rattle.std.specs.List.{list_all}
use Rattle.std.specs.Option.{option_map_or}
use Rattle.edn_model.specs.Form.{Form}
use Rattle.tx_model.specs.Shapes.{has_pair_shape, has_value_shape, forms_of}
use Rattle.tx_model.specs.Step.{first_without_shape}

-- what is no list of forms lacks a shape itself, at its first place
abbrev pub place_without_shape : Form → Option ℕ
place_without_shape f = option_map_or first_without_shape (forms_of f) (Some 0)

abbrev pub have_pair_shapes : List (Form × Form) → Bool
have_pair_shapes pairs =
    list_all (λ (pair : Form × Form). has_pair_shape pair.0 pair.1 && has_value_shape pair.1) pairs
