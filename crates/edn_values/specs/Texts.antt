-- How a text is cut at its slash,
-- and how the text of a symbol begins, so that it is neither a number nor a keyword.
-- EDN, edn-format, "Symbols" and "Keywords".
use Rattle.std.specs.Prelude.{ℕ, Bool, false, not, ◌&&◌, List, [], ◌∷◌, nat_eq, codes}
use Rattle.std.specs.Prelude.{if◌then◌else◌, Option, Some, None}
use Rattle.std.specs.List.{list_any, before_first, after_first}
use Rattle.fb_model.specs.Words.{is_digit, is_slash, has_namespace, begins_with_one_of}

-- the parts before and after the first slash
abbrev pub cut_at_slash : List ℕ → Option (List ℕ × List ℕ)
cut_at_slash text =
    if has_namespace text then Some (before_first is_slash text, after_first is_slash text)
    else None

abbrev pub is_symbol_start : List ℕ → Bool
is_symbol_start [] = false
is_symbol_start (b ∷ rest) =
    not (is_digit b) && not (begins_with_one_of (codes ":#") (b ∷ rest))
    && not (list_any (nat_eq b) (codes ".+-") && begins_with_one_of (codes "0123456789") rest)
