-- What the bytes after a string's first quote are, and the pieces that it is read in.
-- EDN, edn-format: "Strings"; the pieces are this project's own choice.
use Rattle.std.specs.Prelude.{◌≡◌, ℕ, ◌+◌, ◌*◌, ◌<◌, ◌≤◌, IsUtf8, fold, Result, Ok, Err, List, []}
use Rattle.std.specs.Prelude.{◌∷◌, length, drop, encode_utf8}
use Rattle.fb_text.specs.declared.texts.Text.{Text}
use Rattle.edn_model.specs.Bytes.{quote}
use Rattle.edn_model.specs.Tokens.{hex_value, Spells, StringAt}
use Rattle.edn_model.specs.Faults.{StringFault, bad, cut}
use Rattle.edn_token.specs.declared.piece.Piece.{Piece}
use Rattle.edn_token.specs.declared.piece.Piece.TheVariants.{Plain, Char, Quote, Bad as BadPiece}
use Rattle.edn_token.specs.declared.piece.Piece.TheVariants.{Cut as CutPiece}
use Rattle.edn_token.specs.declared.string.StringStop.{StringStop}
use Rattle.edn_token.specs.declared.string.StringStop.TheVariants.{Bad, Cut, Memory}

-- the number that hexadecimal digits spell
abbrev pub hex_number : List ℕ → ℕ
hex_number digits = fold (λ n b. n * 16 + hex_value b) 0 digits

-- characters and escapes that spell characters
pub record Spelled (here text rest : List ℕ) : Type 0 where
  pub spells : Spells here text rest
  pub utf8 : IsUtf8 text

-- what comes next within a string
abbrev pub PieceIs : List ℕ → Piece → Type 0
PieceIs here (Plain s) =
    (0 < length s.now)
    × (length s.now ≤ length here)
    × Spelled here s.now (drop (length s.now) here)
PieceIs here (Char c n) = (0 < n) × (n ≤ length here) × Spelled here (encode_utf8 c) (drop n here)
PieceIs here Quote = here ≡ quote ∷ drop 1 here
PieceIs here (BadPiece n) = (n < length here) × StringFault here bad (drop n here)
PieceIs here CutPiece = StringFault here cut []

-- the string and the place after its second quote, or why there is none;
-- running out of memory says nothing
abbrev pub StringIs : List ℕ → Result (Text × ℕ) StringStop → Type 0
StringIs inside (Ok p) =
    (0 < p.1) × (p.1 ≤ length inside) × StringAt p.0 (quote ∷ inside) (drop p.1 inside)
StringIs inside (Err (Bad n)) = (n < length inside) × StringFault inside bad (drop n inside)
StringIs inside (Err Cut) = StringFault inside cut []
StringIs inside (Err Memory) = Unit {0}
