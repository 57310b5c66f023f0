-- The scripts of the generator are forms alone, for every number that a command line can ask for.
use Rattle.std.proofs.Common.{◌≡◌, ℕ, ◌≤◌, Bool, true, false, List, [], ◌∷◌, Option, Some, None, refl, sym, subst, arith}
use Rattle.std.proofs.lemmas.Bool.{leb-true, and_parts}
use Rattle.std.specs.Prelude.{◌&&◌, nat_le, bytes_eq, codes, if◌then◌else◌, option_and_then}
use Rattle.std.specs.Option.{option_map}
use Rattle.std.specs.List.{AllByRecursion}
use Rattle.std.specs.Str.{all_ascii_digits}
use Rattle.std.specs.Str.Parse.{digits_value}
use Rattle.command_line.specs.Words.{Command, run, check, load, backup, greatest_load, begins_above_zero, number_up_to, one_name, two_names, are_scripts}
use Rattle.command_line.specs.Words.{Place, Anywhere, AtNumber, BehindOptions, Progress, start, walked, merge_at_in, command_with}
use Rattle.command_line.specs.Words.{command_at, command_from, check_of, load_of, between, backup_of, command_of}
use Rattle.load_scripts.specs.Scripts.{script_of}
use Rattle.load_scripts.proofs.Forms.{script_forms, script_length}
use Rattle.fb_run.specs.Generated.{loads_of, generated}
use Rattle.fb_run.specs.Complete.{HoldsFormsAlone}

-- ---- how many numbers a command line can ask for

abbrev IsSmall : Option Command → Type 0
IsSmall None = Unit {0}
IsSmall (Some (run options directory scripts)) = Unit {0}
IsSmall (Some (check directory)) = Unit {0}
IsSmall (Some (load count)) = count ≤ greatest_load
IsSmall (Some (backup from to)) = Unit {0}

chosen : (b : Bool) (x y : Option Command) → IsSmall x → IsSmall y → IsSmall (if b then x else y)
chosen true x y first second = first
chosen false x y first second = second

small_with : (names : List (List ℕ)) (merge_at : Option ℕ) (strict : Bool) → IsSmall (command_with names merge_at strict)
small_with [] merge_at strict = tt
small_with (directory ∷ scripts) None strict = tt
small_with (directory ∷ scripts) (Some merge_at) strict =
    chosen (are_scripts scripts) (Some (run (record { merge_at = merge_at; strict = strict }) directory scripts)) None tt tt

small_at : (place : Place) (p : Progress) → IsSmall (command_at place p)
small_at Anywhere p = small_with p.names (merge_at_in p.number) p.strict
small_at AtNumber p = tt
small_at BehindOptions p = small_with p.names (merge_at_in p.number) p.strict

small_from : (p : Option Progress) → IsSmall (command_from p)
small_from None = tt
small_from (Some p) = small_at p.place p

small_check : (name : Option (List ℕ)) → IsSmall (option_map check name)
small_check None = tt
small_check (Some name) = tt

module _ (word : List ℕ) where
  abbrev value : ℕ
  value = digits_value 10 word

  abbrev is_number : Bool
  is_number = begins_above_zero word && (all_ascii_digits word && (nat_le 1 value && nat_le value greatest_load))

  number_by : (b : Bool) → is_number ≡ b → IsSmall (option_map load (if b then Some value else None))
  number_by true is =
      let digits = (and_parts (begins_above_zero word) (all_ascii_digits word && (nat_le 1 value && nat_le value greatest_load)) is).1 in
      let least = (and_parts (all_ascii_digits word) (nat_le 1 value && nat_le value greatest_load) digits).1 in
      leb-true value greatest_load (and_parts (nat_le 1 value) (nat_le value greatest_load) least).1
  number_by false is = tt

  small_number : IsSmall (option_map load (number_up_to greatest_load word))
  small_number = number_by is_number refl

small_load : (name : Option (List ℕ)) → IsSmall (option_map load (option_and_then (number_up_to greatest_load) name))
small_load None = tt
small_load (Some name) = small_number name

small_backup : (names : Option (List ℕ × List ℕ)) → IsSmall (option_and_then between names)
small_backup None = tt
small_backup (Some names) = chosen (bytes_eq names.0 names.1) None (Some (backup names.0 names.1)) tt tt

small_command : (words : List (List ℕ)) → IsSmall (command_of words)
small_command [] = tt
small_command (verb ∷ words) =
    chosen (bytes_eq verb (codes "run")) (command_from (walked (Some start) words)) _ (small_from (walked (Some start) words))
    (chosen (bytes_eq verb (codes "check")) (check_of words) _ (small_check (one_name words))
    (chosen (bytes_eq verb (codes "load")) (load_of words) _ (small_load (one_name words))
    (chosen (bytes_eq verb (codes "backup")) (backup_of words) None (small_backup (two_names words)) tt)))

pub load_within : (words : List (List ℕ)) (count : ℕ) → Some (load count) ≡ command_of words → count ≤ greatest_load
load_within words count is = subst IsSmall (sym is) (small_command words)

-- ---- its scripts

module _ (count : ℕ) (within : count ≤ greatest_load) where
  one_holds : (name : List ℕ) → digits_value 10 name ≤ 4 → HoldsFormsAlone (generated (Some (load count)) name)
  one_holds name few =
      let k = digits_value 10 name in
      let has = script_forms k count few within in (
        has.0,
        record {
          script = script_of k count;
          known = refl;
          fits = omega (arith, script_length k count few within);
          read = has.1;
        },
      )

  pub loads_hold : AllByRecursion (λ name. HoldsFormsAlone (generated (Some (load count)) name)) (loads_of (Some (load count)))
  loads_hold = (
    one_holds (codes "0") (leb-true _ 4 refl),
    (
      one_holds (codes "1") (leb-true _ 4 refl),
      (
        one_holds (codes "2") (leb-true _ 4 refl),
        (one_holds (codes "3") (leb-true _ 4 refl), (one_holds (codes "4") (leb-true _ 4 refl), tt)),
      ),
    ),
  )
