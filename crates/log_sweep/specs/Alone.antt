-- What is asked of each entry alone, where what holds in its history is not at hand.
-- This project's own choice.
use Rattle.std.specs.Prelude.{Bool, false, not, ◌&&◌, ◌||◌, List, [], ◌∷◌, ◌++◌, nat_eq, IsTrue}
use Rattle.std.specs.Prelude.{⊤}
use Rattle.std.specs.List.{list_all}
use Rattle.std.specs.Option.{option_map_or}
use Rattle.fb_values.specs.declared.facts.Datom.{Datom}
use Rattle.fb_values.specs.declared.facts.Entry.{Entry}
use Rattle.fb_values.specs.declared.facts.Value.{Value}
use Rattle.fb_values.specs.declared.facts.Value.TheVariants.{Ref}
use Rattle.fb_numbers.specs.Numbers.{cardinality, cardinality_one, cardinality_many, index}
use Rattle.fb_model.specs.Facts.{facts}
use Rattle.fb_model.specs.Laws.{says_attribute, facts_with}
use Rattle.fb_model.specs.Schema.{attribute_of, is_attribute, is_whole_attribute}
use Rattle.fb_schema.specs.Described.{SchemaStands}
use Rattle.tx_laws.specs.Own.{IsLatestOf, keeps_own_laws}
use Rattle.log_sweep.specs.declared.alone.Known.{Known}

-- ---- datoms that say what an attribute is

abbrev pub is_a_cardinality : Value → Bool
is_a_cardinality (Ref n) = nat_eq n cardinality_one || nat_eq n cardinality_many
is_a_cardinality v = false

-- a cardinality that is said is one of the two
abbrev pub has_a_cardinality : Datom → Bool
has_a_cardinality d = not (nat_eq d.a cardinality) || is_a_cardinality d.v

-- of an attribute that was there no more is said than whether it is indexed
abbrev pub may_be_said : List Datom → Datom → Bool
may_be_said before d = nat_eq d.a index || not (is_attribute before d.e)

-- if the datom says what an attribute is, it may be said, and the attribute is whole afterwards
abbrev pub describes_well : List Datom → List Datom → Datom → Bool
describes_well before after d =
    not (says_attribute d)
    || (may_be_said before d && (has_a_cardinality d
    && option_map_or is_whole_attribute (attribute_of after d.e) false))

-- ---- entries

-- the entry keeps what is asked of it alone
pub record KeepsAlone (h : List Entry) (entry : Entry) : Type 0 where
  pub own_laws : IsTrue (keeps_own_laws h entry)
  pub described : IsTrue (list_all (describes_well (facts h) (facts_with h entry)) entry.datoms)

-- each of the entries does, after those before it
abbrev pub KeepAlone : List Entry → List Entry → Type 0
KeepAlone h [] = ⊤
KeepAlone h (entry ∷ rest) = KeepsAlone h entry × KeepAlone (h ++ entry ∷ []) rest

-- it is what is known of the history
pub record IsKnownOf (known : Known) (h : List Entry) : Type 0 where
  pub latest : IsLatestOf known.latest h
  pub schema : SchemaStands known.schema h
