-- What the matches on the words of each verb ask for is what the definition says.
use Rattle.std.proofs.Common.{◌≡◌, ◌∙◌, List, Option, Some, ap, map, string_bytes, true, sym}
use Rattle.std.specs.Option.{option_map}
use Rattle.std.specs.Prelude.{String, option_and_then}
use Rattle.clap.specs.Words.{App, Row, Text, found_of, is_simple_and_free, rows_of}
use Rattle.clap.specs.declared.parser.matches.ArgMatches.{ArgMatches}
use Rattle.command_line.specs.Words.{one_name, two_names, command_from, start, walked}
use Rattle.command_line.specs.ByClap.{name_app, name_parsed, pair_app, pair_parsed, run_app, run_parsed, parsed}
use Rattle.command_line.proofs.NameWords.{name_words}
use Rattle.command_line.proofs.PairWords.{pair_words}
use Rattle.command_line.proofs.Dashes.{are_texts}
use Rattle.command_line.proofs.RunWords.{run_words}

abbrev rows_in : Option ArgMatches → Option (List Row)
rows_in = option_map (λ m. rows_of (found_of m))

-- what `matches_in` says
abbrev IsTold : App → List Text → Option ArgMatches → Type 0
IsTold app words got = is_simple_and_free app ≡ true → rows_in got ≡ parsed app words

module _ {Z : Type 0} (app : App) (words : List (String Z)) (got m : Option ArgMatches) (is : got ≡ m)
    (by : IsTold app (map string_bytes words) got) where
  pub run_reads : app ≡ run_app → option_and_then run_parsed (rows_in m) ≡ command_from (walked (Some start) (map string_bytes words))
  run_reads e =
      ap (λ o. option_and_then run_parsed (rows_in o)) (sym is) ∙ ap (option_and_then run_parsed) (by (ap is_simple_and_free e))
      ∙ ap (λ a. option_and_then run_parsed (parsed a (map string_bytes words))) e ∙ run_words (map string_bytes words) (are_texts words)

  pub name_reads : app ≡ name_app → option_and_then name_parsed (rows_in m) ≡ one_name (map string_bytes words)
  name_reads e =
      ap (λ o. option_and_then name_parsed (rows_in o)) (sym is) ∙ ap (option_and_then name_parsed) (by (ap is_simple_and_free e))
      ∙ ap (λ a. option_and_then name_parsed (parsed a (map string_bytes words))) e ∙ name_words (map string_bytes words) (are_texts words)

  pub pair_reads : app ≡ pair_app → option_and_then pair_parsed (rows_in m) ≡ two_names (map string_bytes words)
  pair_reads e =
      ap (λ o. option_and_then pair_parsed (rows_in o)) (sym is) ∙ ap (option_and_then pair_parsed) (by (ap is_simple_and_free e))
      ∙ ap (λ a. option_and_then pair_parsed (parsed a (map string_bytes words))) e ∙ pair_words (map string_bytes words) (are_texts words)
