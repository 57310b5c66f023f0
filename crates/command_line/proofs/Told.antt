-- What a parse says of the matches and of the faults.
use Rattle.std.proofs.Common.{◌≡◌, ◌∙◌, true, refl, sym, ap, List, [], ◌∷◌, Option, Some, None, codes}
use Rattle.std.specs.Option.{option_map}
use Rattle.clap.specs.Words.{App, HasMatchesOf, IsAmong, Kinds, Row, Text, fault_of, first_value, found_of, is_simple_and_free, matched_of}
use Rattle.clap.specs.Words.{matches_of, raw_values, rows_of}
use Rattle.clap.specs.declared.error.kind.ErrorKind.{ErrorKind}
use Rattle.clap.specs.declared.parser.matches.ArgMatches.{ArgMatches}
use Rattle.clap.proofs.WalkLemmas.{both, first_value-rows, raw_values-rows}
use Rattle.clap.specs.declared.parser.matches.Found.{Found}
use Rattle.std.specs.Prelude.{option_and_then}
use Rattle.command_line.specs.ByClap.{is_set, run_parsed, run_with, both_names, pair_parsed, parsed, without_fault}
use Rattle.command_line.specs.Words.{between, merge_at_in}

pub told_matches : (a : App) (words : List Text) (m : ArgMatches) → is_simple_and_free a ≡ true → fault_of a words ≡ []
    → HasMatchesOf a words m
    → Some (rows_of (found_of m)) ≡ parsed a words
told_matches a words m simple none found =
    ap Some (found (both _ _ simple).0).0 ∙ sym (ap (λ k. without_fault k (matches_of a words)) none)

pub told_fault : (k : ErrorKind) (kinds : Kinds) (rows : List Row) → IsAmong k kinds → None ≡ without_fault kinds rows
told_fault k [] rows among = absurd among
told_fault k (x ∷ xs) rows among = refl

-- the getters' answers, by the rows
pub asks_for : (f : Found) (directory : Option Text) (scripts : Option (List Text)) (number strict : Option Text)
    → directory ≡ first_value f (codes "DIR")
    → scripts ≡ option_map raw_values (matched_of f (codes "SCRIPT")) → number ≡ first_value f (codes "merge-at")
    → strict ≡ first_value f (codes "strict")
    → run_with directory scripts (merge_at_in number) (is_set strict) ≡ run_parsed (rows_of f)
asks_for f directory scripts number strict d s n t =
    let d_is = d ∙ first_value-rows f (codes "DIR") in
    let s_is = s ∙ raw_values-rows f (codes "SCRIPT") in
    let n_is = n ∙ first_value-rows f (codes "merge-at") in
    let t_is = t ∙ first_value-rows f (codes "strict") in
    λ i. run_with (d_is i) (s_is i) (merge_at_in (n_is i)) (is_set (t_is i))

pub asks_between : (f : Found) (from to : Option Text) → from ≡ first_value f (codes "DIR") → to ≡ first_value f (codes "DIR2")
    → option_and_then between (both_names from to) ≡ option_and_then between (pair_parsed (rows_of f))
asks_between f from to a b =
    let a_is = a ∙ first_value-rows f (codes "DIR") in
    let b_is = b ∙ first_value-rows f (codes "DIR2") in
    λ i. option_and_then between (both_names (a_is i) (b_is i))
