-- Entries for the examples. This project's own choice.
use Rattle.std.specs.Prelude.{ℕ, ◌+◌, pos, Bool, true, List, [], ◌∷◌, codes}
use Rattle.fb_values.specs.declared.facts.Datom.{Datom}
use Rattle.fb_values.specs.declared.facts.Entry.{Entry}
use Rattle.fb_values.specs.declared.facts.Value.{Value}
use Rattle.fb_values.specs.declared.facts.Value.TheVariants.{Keyword, Str, Ref, Long, Instant}
use Rattle.fb_values.specs.declared.facts.Value.TheVariants.{Bool as Boolean}
use Rattle.fb_numbers.specs.Numbers.{transaction_of, user_entity, ident, value_type, cardinality}
use Rattle.fb_numbers.specs.Numbers.{index, tx_instant, doc, type_long, cardinality_one}
use Rattle.fb_model.specs.FirstEntry.{first_entry}

abbrev pub datom : ℕ → ℕ → Value → ℕ → Bool → Datom
datom e a v t added = record { e = e; a = a; v = v; t = t; added = added }

-- transaction t, at the beginning of 2024 and t milliseconds
abbrev pub entry_of : ℕ → List Datom → Entry
entry_of t ds =
    let instant = pos (1704067200000 + t) in
    record {
      t = t;
      instant = instant;
      datoms = datom (transaction_of t) tx_instant (Instant instant) t true ∷ ds;
    }

-- a text about an entity
abbrev pub hi : ℕ → ℕ → Datom
hi t e = datom e doc (Str (codes "hi")) t true

-- the first transaction, about the first user entity
abbrev pub hi_entry : Entry
hi_entry = entry_of 1 (hi 1 (user_entity 1) ∷ [])

-- the facts that make an entity an attribute, whose values are numbers
abbrev pub makes_attribute : ℕ → ℕ → List ℕ → ℕ → List Datom
makes_attribute t e name count =
    datom e ident (Keyword name) t true
    ∷ datom e value_type (Ref type_long) t true
    ∷ datom e cardinality (Ref count) t true
    ∷ []

-- `:p/age` is installed by the first transaction; by the second, two entities are 5
abbrev pub age : ℕ
age = user_entity 1

abbrev pub ages : List Entry
ages =
    first_entry
    ∷ entry_of 1 (makes_attribute 1 age (codes "p/age") cardinality_one)
    ∷ entry_of 2 (datom (user_entity 2) age (Long (pos 5)) 2 true
    ∷ datom (user_entity 3) age (Long (pos 5)) 2 true ∷ [])
    ∷ []

-- a built-in attribute is to be indexed
abbrev pub altered_doc : Entry
altered_doc =
    let instant = pos 1704067200003 in
    record {
      t = 3;
      instant = instant;
      datoms = datom doc index (Boolean true) 3 true ∷ datom (transaction_of 3) tx_instant
          (Instant instant) 3 true ∷ [];
    }
