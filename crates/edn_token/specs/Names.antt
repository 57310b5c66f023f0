-- Symbols, and the words that are tokens of their own.
-- EDN, edn-format: "Symbols".
use Rattle.std.specs.Prelude.{◌≡◌, ◌⊎◌, ℕ, IsTrue, List, [], ◌∷◌}
use Rattle.edn_model.specs.Bytes.{slash}
use Rattle.edn_model.specs.Tokens.{IsName, Joined, begins_symbol}

-- a symbol, or one of the words that are tokens of their own
abbrev pub IsSymbolOrWord : List ℕ → Type 0
IsSymbolOrWord bytes =
    (bytes ≡ slash ∷ [])
    ⊎ (IsTrue (begins_symbol bytes) × (IsName bytes ⊎ Joined IsName IsName bytes))
