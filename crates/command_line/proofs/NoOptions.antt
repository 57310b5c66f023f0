-- What a word is to a command that has no option.
use Rattle.std.proofs.Common.{◌≡◌, ◌++◌, ◌∷◌, [], ℕ, false, refl, sym, ap, subst, List, Option, None, Some, codes}
use Rattle.std.specs.Str.{bytes_eq, IsUtf8}
use Rattle.clap.specs.Lexer.{long_of, name_and_value}
use Rattle.clap.specs.Walk.{Row, Rule, Text, arg_by_long, arg_by_short}
use Rattle.clap.specs.Faults.{flag_word_fault, long_fault}
use Rattle.clap.specs.declared.error.kind.ErrorKind.{ErrorKind}
use Rattle.clap.specs.declared.error.kind.ErrorKind.TheVariants.{UnknownArgument}
use Rattle.command_line.specs.Words.{is_name, merge_at_is}
use Rattle.command_line.proofs.Dashes.{HasOptions, IsNameWord, Meaning, asks, ends, flags, held, meaning_of, naming, says, stray}

pub record HasNoOption (c : List Rule) : Type 0 where
  pub short : (x : ℕ) → arg_by_short c x ≡ None
  pub long : (option : Text) → arg_by_long c option ≡ None

pub record IsUnknown (c : List Rule) (word : Text) : Type 0 where
  pub end : bytes_eq word (codes "--") ≡ false
  pub is : is_name word ≡ false
  pub kind : ErrorKind
  pub fault : (rows : List Row) (pending : Option (Text × List Text))
      → flag_word_fault c false (long_of word) word (held rows pending) ≡ kind ∷ []

pub data Kind (c : List Rule) (word : Text) : Type 0 where
  ending : word ≡ codes "--" → Kind c word
  unknown : IsUnknown c word → Kind c word
  name : IsNameWord word → Kind c word

module _ (c : List Rule) (none : HasNoOption c) where
  no_option : HasOptions c
  no_option = record {
    short = none.short;
    long = λ option e f. none.long option;
    kind = UnknownArgument;
    valued = λ value h. ap (λ o. long_fault c false o (Some value) h) (none.long (codes "strict"));
  }

  -- an option that a run has
  an_option : (word : Text) → bytes_eq word (codes "--") ≡ false → is_name word ≡ false
      → ((rows : List Row) (pending : Option (Text × List Text))
      → flag_word_fault c false (long_of word) word (held rows pending) ≡ UnknownArgument ∷ [])
      → IsUnknown c word
  an_option word end is fault = record { end = end; is = is; kind = UnknownArgument; fault = fault }

  long_unknown : (option : Text) (value : Option Text) (rows : List Row) (pending : Option (Text × List Text))
      → long_fault c false (arg_by_long c option) value (held rows pending) ≡ UnknownArgument ∷ []
  long_unknown option value rows pending = ap (λ o. long_fault c false o value (held rows pending)) (none.long option)

  kind_by : (word : Text) → Meaning c word → Kind c word
  kind_by word (ends is) = ending is
  kind_by word (asks is) =
      unknown (subst (IsUnknown c) (sym is) (an_option (codes "--merge-at") refl refl (long_unknown (codes "merge-at") None)))
  kind_by word (says v is) =
      unknown (subst (IsUnknown c) (sym is) (an_option (merge_at_is ++ v) refl refl
      (long_unknown (codes "merge-at") (name_and_value (codes "merge-at=" ++ v)).1)))
  kind_by word (flags is) =
      unknown (subst (IsUnknown c) (sym is) (an_option (codes "--strict") refl refl (long_unknown (codes "strict") None)))
  kind_by word (stray is) = unknown (record { end = is.other.end; is = is.is; kind = is.kind; fault = is.fault })
  kind_by word (naming is) = name is

  pub kind_of : (word : Text) → IsUtf8 word → Kind c word
  kind_of word utf8 = kind_by word (meaning_of c no_option word utf8)
