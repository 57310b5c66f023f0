-- The commands of `clap` that read the words after a verb, and what is taken from their matches.
-- This project's own choice.
use Rattle.std.specs.Prelude.{Bool, true, false, List, [], ◌∷◌, Option, Some, None, ℕ, bytes_eq, codes}
use Rattle.std.specs.Option.{option_map_or}
use Rattle.clap.specs.Words.{App, Row, Rule, Text, all_of, first_of, fault_of, matches_of, new_app}
use Rattle.clap.specs.Words.{new_rule, with_rule, Kinds}
use Rattle.clap.specs.declared.builder.ArgAction.TheVariants.{Set, SetTrue, Append}
use Rattle.command_line.specs.Words.{Command, command_with, merge_at_in}

-- no program's name in front, and neither `--help` nor `--version`
abbrev pub plain_app : Text → App
plain_app name = record (new_app name) {
  top = record (new_app name).top {
    no_binary_name = true;
    disable_help_flag = true;
    disable_version_flag = true;
  };
}

abbrev pub merge_at_rule : Rule
merge_at_rule = record (new_rule (codes "merge-at")) {
  long = Some (codes "merge-at");
  action = Some Set;
}

abbrev pub strict_rule : Rule
strict_rule = record (new_rule (codes "strict")) {
  long = Some (codes "strict");
  action = Some SetTrue;
}

abbrev pub directory_rule : Rule
directory_rule = record (new_rule (codes "DIR")) { required = true }

-- Append, since an option may come between two scripts.
abbrev pub script_rule : Rule
script_rule = record (new_rule (codes "SCRIPT")) { required = true; action = Some Append }

abbrev pub run_app : App
run_app = with_rule (with_rule (with_rule (with_rule (plain_app (codes "run")) merge_at_rule)
    strict_rule) directory_rule) script_rule

-- one name, after `check` and `load`
abbrev pub name_rule : Rule
name_rule = record (new_rule (codes "NAME")) { required = true }

abbrev pub name_app : App
name_app = with_rule (plain_app (codes "factbase")) name_rule

-- two names, after `backup`
abbrev pub from_rule : Rule
from_rule = record (new_rule (codes "DIR")) { required = true }

abbrev pub to_rule : Rule
to_rule = record (new_rule (codes "DIR2")) { required = true }

abbrev pub pair_app : App
pair_app = with_rule (with_rule (plain_app (codes "factbase")) from_rule) to_rule

-- the matches where there is no fault
abbrev pub without_fault : Kinds → List Row → Option (List Row)
without_fault [] rows = Some rows
without_fault (k ∷ ks) rows = None

-- the matches that the command has on these words, where it takes them
abbrev pub parsed : App → List Text → Option (List Row)
parsed app words = without_fault (fault_of app words) (matches_of app words)

-- the word of a flag's row says that the flag was given
abbrev pub is_set : Option Text → Bool
is_set word = option_map_or (λ w. bytes_eq w (codes "true")) word false

abbrev pub run_with : Option Text → Option (List Text) → Option ℕ → Bool → Option Command
run_with (Some directory) (Some scripts) merge_at strict =
    command_with (directory ∷ scripts) merge_at strict
run_with _ _ merge_at strict = None

-- the run that the matches ask for
abbrev pub run_parsed : List Row → Option Command
run_parsed rows = run_with (first_of (codes "DIR") rows) (all_of (codes "SCRIPT") rows)
    (merge_at_in (first_of (codes "merge-at") rows)) (is_set (first_of (codes "strict") rows))

-- the name that they have
abbrev pub name_parsed : List Row → Option Text
name_parsed = first_of (codes "NAME")

-- the two names that they have
abbrev pub both_names : Option Text → Option Text → Option (Text × Text)
both_names (Some from) (Some to) = Some (from, to)
both_names _ _ = None

abbrev pub pair_parsed : List Row → Option (Text × Text)
pair_parsed rows = both_names (first_of (codes "DIR") rows) (first_of (codes "DIR2") rows)
