-- What may be wrong with an ask where the schema alone is looked at, and which asks are kept:
-- those of which every attribute is installed and every value of its type.
-- Datomic, Transaction Data and Schema (lookup refs, unique identities).
use Rattle.std.specs.Prelude.{◌≡◌, ℕ, Bool, true, false, not, ◌&&◌, ◌||◌, List, [], nat_eq, Option}
use Rattle.std.specs.Prelude.{Some, None}
use Rattle.std.specs.List.{list_any}
use Rattle.std.specs.Option.{option_map_or}
use Rattle.edn_model.specs.Form as edn
use Rattle.edn_model.specs.Form.{Form}
use Rattle.edn_form.specs.View.{form_of}
use Rattle.fb_values.specs.declared.facts.Datom.{Datom}
use Rattle.fb_model.specs.Schema.{attribute_named}
use Rattle.tx_model.specs.Asks as model
use Rattle.tx_model.specs.Asks.{names_of, attribute_of_ask}
use Rattle.tx_model.specs.NameRules.{lookups_from, is_unknown, has_unknown_lookup}
use Rattle.tx_model.specs.NameRules.{names_no_attribute, is_protected, adds_reserved_ident}
use Rattle.tx_model.specs.NameRules.{has_wrong_part, is_wrong_lookup, has_wrong_lookup}
use Rattle.tx_model.specs.NameRules.{has_other_lookup, attribute_in, is_lacking}
use Rattle.tx_asks.specs.declared.asks.LookupRef.{LookupRef}
use Rattle.tx_asks.specs.declared.asks.Operand.{Operand}
use Rattle.tx_asks.specs.declared.asks.Operand.TheVariants.{Plain, Entity}
use Rattle.tx_asks.specs.declared.asks.Ask.{Ask}
use Rattle.tx_asks.specs.declared.asks.Ask.TheVariants.{Adds, Retracts, RetractsAll, Compares}
use Rattle.tx_asks.specs.declared.asks.Ask.TheVariants.{RetractsEntity, Meets}
use Rattle.tx_asks.specs.Asks.{matters, IsTyped}
use Rattle.tx_expand.specs.declared.faults.NameFaults.{NameFaults}
use Rattle.tx_expand.specs.declared.faults.Faults.{Faults}
use Rattle.tx_expand.specs.declared.settle.Settled.{Settled}
use Rattle.tx_expand.specs.declared.settle.Settled.TheVariants.{Stands, Wrong, Unknown, Mere}
use Rattle.tx_expand.specs.View.{model_name}

-- ---- lookup refs

abbrev pub no_name_faults : NameFaults
no_name_faults = record { unknown = false; wrong = false; not_unique = false }

-- of either
abbrev pub either_name : NameFaults → NameFaults → NameFaults
either_name x y =
    record {
      unknown = x.unknown || y.unknown;
      wrong = x.wrong || y.wrong;
      not_unique = x.not_unique || y.not_unique;
    }

-- of one lookup ref: an attribute and a value
abbrev pub lookup_faults : List Datom → List ℕ × Form → NameFaults
lookup_faults facts ref =
    record {
      unknown = is_unknown facts ref.0;
      wrong = option_map_or (is_wrong_lookup ref.1) (attribute_named facts ref.0) false;
      not_unique = option_map_or (λ attribute. nat_eq attribute.uniqueness 0)
          (attribute_named facts ref.0) false;
    }

abbrev pub lookups_faults : List Datom → List (List ℕ × Form) → NameFaults
lookups_faults facts refs =
    record {
      unknown = list_any (λ (ref : List ℕ × Form). is_unknown facts ref.0) refs;
      wrong = list_any
          (λ (ref : List ℕ × Form).
          option_map_or (is_wrong_lookup ref.1) (attribute_named facts ref.0) false)
          refs;
      not_unique = list_any
          (λ (ref : List ℕ × Form). option_map_or (λ attribute. nat_eq attribute.uniqueness 0)
          (attribute_named facts ref.0) false)
          refs;
    }

-- the faults of a lookup ref that is given as a value, if there is one
abbrev pub lookups_inside : List Datom → Option (List ℕ × Form) → List (List ℕ × Form)
lookups_inside facts None = []
lookups_inside facts (Some ref) = lookups_from facts ref.0 ref.1

-- of a lookup ref of the program
abbrev pub ref_faults : List Datom → LookupRef → NameFaults
ref_faults facts ref =
    lookups_faults facts (lookups_from facts ref.attribute.now (form_of ref.value.now))

abbrev pub names_faults : List Datom → List model.Name → NameFaults
names_faults facts names =
    record {
      unknown = list_any (has_unknown_lookup facts) names;
      wrong = list_any (has_wrong_lookup facts) names;
      not_unique = list_any (has_other_lookup facts) names;
    }

-- ---- asks

abbrev pub is_of_unknown : List Datom → model.Ask → Bool
is_of_unknown facts ask = option_map_or (is_unknown facts) (attribute_of_ask ask) false

abbrev pub is_of_protected : List Datom → model.Ask → Bool
is_of_protected facts ask =
    option_map_or (is_protected facts) (attribute_of_ask ask) false || adds_reserved_ident facts ask

abbrev pub has_wrong_value : List Datom → model.Ask → Bool
has_wrong_value facts ask = option_map_or (has_wrong_part ask) (attribute_in facts ask) false

abbrev pub no_faults : Faults
no_faults =
    record {
      unknown = false;
      protected = false;
      wrong = false;
      not_unique = false;
      lacking = false;
    }

abbrev pub either : Faults → Faults → Faults
either x y =
    record {
      unknown = x.unknown || y.unknown;
      protected = x.protected || y.protected;
      wrong = x.wrong || y.wrong;
      not_unique = x.not_unique || y.not_unique;
      lacking = x.lacking || y.lacking;
    }

abbrev pub ask_faults : List Datom → model.Ask → Faults
ask_faults facts ask =
    record {
      unknown = is_of_unknown facts ask || list_any (has_unknown_lookup facts) (names_of ask);
      protected = is_of_protected facts ask;
      wrong = has_wrong_value facts ask || list_any (has_wrong_lookup facts) (names_of ask);
      not_unique = list_any (has_other_lookup facts) (names_of ask);
      lacking = is_lacking ask;
    }

-- of the asks of a form
abbrev pub form_faults : List Datom → List model.Ask → Faults
form_faults facts asks =
    record {
      unknown = list_any (names_no_attribute facts) asks;
      protected = list_any (is_of_protected facts) asks;
      wrong = list_any
          (λ ask. has_wrong_value facts ask || list_any (has_wrong_lookup facts) (names_of ask))
          asks;
      not_unique = list_any (λ ask. list_any (has_other_lookup facts) (names_of ask)) asks;
      lacking = list_any is_lacking asks;
    }

-- ---- asks that are kept

abbrev pub is_kept : List Datom → model.Ask → Bool
is_kept facts ask = matters ask && not (is_of_unknown facts ask || has_wrong_value facts ask)

abbrev pub part_read : List LookupRef → Operand → model.Operand
part_read all (Plain f v) = model.plain (form_of f.now)
part_read all (Entity name) = model.entity (model_name all name)

-- nil as the old value of a cas
abbrev pub old_part_read : List LookupRef → Option Operand → model.Operand
old_part_read all None = model.plain edn.nil
old_part_read all (Some part) = part_read all part

abbrev pub ask_read : List LookupRef → Ask → model.Ask
ask_read all (Adds on attribute part) =
    model.adds (model_name all on) attribute.now.ident (part_read all part)
ask_read all (Retracts on attribute part) =
    model.retracts (model_name all on) attribute.now.ident (part_read all part)
ask_read all (RetractsAll on attribute) = model.retracts_all (model_name all on) attribute.now.ident
ask_read all (Compares of) =
    model.compares (model_name all of.on) of.attribute.now.ident (old_part_read all of.old)
    (part_read all of.new)
ask_read all (RetractsEntity on) = model.retracts_entity (model_name all on)
ask_read all (Meets on) = model.meets (model_name all on)

-- what became of an ask, where these are the lookup refs of the transaction
abbrev pub Settles : List Datom → List LookupRef → model.Ask → Settled → Type 0
Settles facts all m (Stands ask) =
    (matters m ≡ true)
    × (is_of_unknown facts m ≡ false)
    × (has_wrong_value facts m ≡ false)
    × (ask_read all ask ≡ m)
    × IsTyped facts ask
Settles facts all m Wrong = (is_of_unknown facts m ≡ false) × (has_wrong_value facts m ≡ true)
Settles facts all m Unknown = (is_of_unknown facts m ≡ true) × (has_wrong_value facts m ≡ false)
Settles facts all m Mere =
    (matters m ≡ false) × (is_of_unknown facts m ≡ false) × (has_wrong_value facts m ≡ false)
