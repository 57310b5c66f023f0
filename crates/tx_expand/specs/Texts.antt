-- How a text is cut at its slash, and which key a keyword is that is not `:db/id`.
-- Datomic, Transaction Data (reverse attribute names), and EDN, edn-format, "Keywords".
use Rattle.std.specs.Prelude.{ℕ, List, [], ◌∷◌, if◌then◌else◌, Option, Some, None}
use Rattle.std.specs.List.{before_first, after_first}
use Rattle.fb_model.specs.Words.{is_slash, underscore, has_namespace, local_name}
use Rattle.fb_model.specs.Words.{begins_with_one_of}
use Rattle.tx_model.specs.Asks.{Key, forward, backward, without_underscore}

-- the parts before and after the first slash
abbrev pub cut_at_slash : List ℕ → Option (List ℕ × List ℕ)
cut_at_slash text =
    if has_namespace text then Some (before_first is_slash text, after_first is_slash text)
    else None

-- an attribute, or one that is reversed
abbrev pub other_key : List ℕ → Key
other_key k =
    if begins_with_one_of (underscore ∷ []) (local_name k) then backward (without_underscore k)
    else forward k
