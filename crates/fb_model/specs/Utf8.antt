-- Texts: which bytes are UTF-8.
-- RFC 3629, section 4: which bytes begin a character,
-- how many follow, and which may be the first of these.
use Rattle.std.specs.Prelude.{ℕ, zero, suc, Bool, true, false, ◌&&◌, ◌||◌, List, [], ◌∷◌, nat_lt}
use Rattle.std.specs.Int.{is_in_range}
use Rattle.std.specs.Str.{continuation_len}
use Rattle.std.specs.Str.Lossy.{second_byte_min, second_byte_max}

abbrev pub begins_character : ℕ → Bool
begins_character b = nat_lt b 0x80 || is_in_range 0xC2 0xF4 b

-- n bytes of a character are due,
-- the first of them from low to high and the others from 0x80 to 0xBF; then characters follow
abbrev pub goes_on : ℕ → ℕ → ℕ → List ℕ → Bool
goes_on zero low high [] = true
goes_on zero low high (b ∷ rest) =
    begins_character b && goes_on (continuation_len b) (second_byte_min b) (second_byte_max b) rest
goes_on (suc n) low high [] = false
goes_on (suc n) low high (b ∷ rest) = is_in_range low high b && goes_on n 0x80 0xBF rest

abbrev pub is_utf8_text : List ℕ → Bool
is_utf8_text bytes = goes_on 0 0x80 0xBF bytes
