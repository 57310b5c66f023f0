-- A log with one transaction, byte by byte, for the examples. This project's own choice.
use Rattle.std.specs.Prelude.{ℕ, ◌+◌, ℤ, pos, true, List, [], ◌∷◌, ◌++◌, take, drop, codes}
use Rattle.fb_values.specs.declared.facts.Datom.{Datom}
use Rattle.fb_values.specs.declared.facts.Entry.{Entry}
use Rattle.fb_values.specs.declared.facts.Value.{Value}
use Rattle.fb_values.specs.declared.facts.Value.TheVariants.{Keyword, Str, Instant, Symbol, Uri}
use Rattle.fb_model.specs.FirstEntry.{first_entry}
use Rattle.log_model.specs.Nodes.{MergeRecord, record_bytes_in}
use Rattle.fb_numbers.specs.Numbers.{transaction_of, user_entity, tx_instant, doc}

-- the beginning of 2024
abbrev pub new_year : ℤ
new_year = pos 1704067200000

abbrev pub datom : ℕ → ℕ → Value → Datom
datom e a v = record { e = e; a = a; v = v; t = 1; added = true }

-- transaction 1, at that instant, with one datom of its own
abbrev pub entry_with : Datom → Entry
entry_with d =
    record {
      t = 1;
      instant = new_year;
      datoms = datom (transaction_of 1) tx_instant (Instant new_year) ∷ d ∷ [];
    }

-- the first user entity has the text `hi`
abbrev pub hi : Datom
hi = datom (user_entity 1) doc (Str (codes "hi"))

abbrev pub hi_entry : Entry
hi_entry = entry_with hi

-- the history of that one transaction
abbrev pub hi_history : List Entry
hi_history = first_entry ∷ hi_entry ∷ []

-- the same with a keyword in place of the text
abbrev pub keyword_entry : Entry
keyword_entry = entry_with (datom (user_entity 1) doc (Keyword (codes "hi")))

-- with a text past ASCII
abbrev pub accented_entry : Entry
accented_entry = entry_with (datom (user_entity 1) doc (Str (0xc3 ∷ 0xa9 ∷ [])))

-- with a symbol, of whatever attribute
abbrev pub symbol_entry : Entry
symbol_entry = entry_with (datom (user_entity 1) 9 (Symbol (codes "a.b/c")))

-- with a uri
abbrev pub uri_entry : Entry
uri_entry = entry_with (datom (user_entity 1) 9 (Uri (codes "http://a")))

abbrev pub entry_head : List ℕ
entry_head =
    0x02
    ∷ 0x00 ∷ 0x00 ∷ 0x00 ∷ 0x01
    ∷ 0x00 ∷ 0x00 ∷ 0x01 ∷ 0x8c ∷ 0xc2 ∷ 0x51 ∷ 0xf4 ∷ 0x00
    ∷ 0x00 ∷ 0x00 ∷ 0x00 ∷ 0x02
    ∷ []

abbrev pub instant_datom : List ℕ
instant_datom =
    0x00 ∷ 0x00 ∷ 0x0c ∷ 0x00 ∷ 0x00 ∷ 0x00 ∷ 0x00 ∷ 0x01
    ∷ 0x00 ∷ 0x00 ∷ 0x00 ∷ 0x00 ∷ 0x00 ∷ 0x00 ∷ 0x00 ∷ 0x08
    ∷ 0x06
    ∷ 0x00 ∷ 0x00 ∷ 0x01 ∷ 0x8c ∷ 0xc2 ∷ 0x51 ∷ 0xf4 ∷ 0x00
    ∷ 0x01
    ∷ []

abbrev pub hi_datom : List ℕ
hi_datom =
    0x00 ∷ 0x00 ∷ 0x10 ∷ 0x00 ∷ 0x00 ∷ 0x00 ∷ 0x00 ∷ 0x01
    ∷ 0x00 ∷ 0x00 ∷ 0x00 ∷ 0x00 ∷ 0x00 ∷ 0x00 ∷ 0x00 ∷ 0x07
    ∷ 0x02
    ∷ 0x00 ∷ 0x00 ∷ 0x00 ∷ 0x02
    ∷ 0x68 ∷ 0x69
    ∷ 0x01
    ∷ []

abbrev pub hi_payload : List ℕ
hi_payload = entry_head ++ instant_datom ++ hi_datom

-- the mark, an open gate, the length, the payload, and a closed gate: 92 bytes
abbrev pub hi_log : List ℕ
hi_log =
    0x46 ∷ 0x41 ∷ 0x43 ∷ 0x54 ∷ 0x42 ∷ 0x41 ∷ 0x53 ∷ 0x45
    ∷ 0x20 ∷ 0x4c ∷ 0x4f ∷ 0x47 ∷ 0x20 ∷ 0x31 ∷ 0x0a
    ∷ 0x01
    ∷ 0x00 ∷ 0x00 ∷ 0x00 ∷ 0x00 ∷ 0x00 ∷ 0x00 ∷ 0x00 ∷ 0x43
    ∷ (hi_payload ++ 0x00 ∷ [])

-- the bytes with another one at the place
abbrev pub with_byte : ℕ → ℕ → List ℕ → List ℕ
with_byte place byte bytes = take place bytes ++ byte ∷ drop (place + 1) bytes

-- the log with another byte at the place, where the payload is: its one record
abbrev pub record_with : ℕ → ℕ → List (List ℕ)
record_with place byte = take 67 (drop 24 (with_byte place byte hi_log)) ∷ []

-- ---- a merge record with one leaf, which has the text `hi`, and one directory, the EAVT tree

abbrev pub leaf_record : List ℕ
leaf_record =
    0x02
    ∷ 0x00 ∷ 0x00 ∷ 0x00 ∷ 0x01
    ∷ 0x00 ∷ 0x00 ∷ 0x00 ∷ 0x01
    ∷ 0x00 ∷ 0x00 ∷ 0x00 ∷ 0x00 ∷ 0x00 ∷ 0x00 ∷ 0x00 ∷ 0x01
    ∷ 0x00 ∷ 0x00 ∷ 0x00 ∷ 0x01
    ∷ (hi_datom ++ 0x00 ∷ 0x00 ∷ 0x00 ∷ 0x01
    ∷ 0x00 ∷ 0x00 ∷ 0x00 ∷ 0x01
    ∷ 0x00 ∷ 0x00 ∷ 0x00 ∷ 0x00 ∷ 0x00 ∷ 0x00 ∷ 0x00 ∷ 0x02
    ∷ 0x00 ∷ 0x00 ∷ 0x00 ∷ 0x01
    ∷ 0x00 ∷ 0x00 ∷ 0x00 ∷ 0x00 ∷ 0x00 ∷ 0x00 ∷ 0x00 ∷ 0x01
    ∷ 0x00 ∷ 0x00 ∷ 0x00 ∷ 0x01
    ∷ 0x00 ∷ 0x00 ∷ 0x00 ∷ 0x00 ∷ 0x00 ∷ 0x00 ∷ 0x00 ∷ 0x02
    ∷ 0x00 ∷ 0x00 ∷ 0x00 ∷ 0x00
    ∷ 0x00 ∷ 0x00 ∷ 0x00 ∷ 0x00
    ∷ 0x00 ∷ 0x00 ∷ 0x00 ∷ 0x00
    ∷ [])

abbrev pub leaf_merge : MergeRecord
leaf_merge =
    record {
      c = 1;
      leaves = record { id = 1; datoms = hi ∷ [] } ∷ [];
      directories = record { id = 2; leaves = 1 ∷ [] } ∷ [];
      roots = record { eavt = 2 ∷ []; aevt = []; avet = []; vaet = [] };
    }

-- the record after it: the same tree, for c = 2, without a new node
abbrev pub next_merge : MergeRecord
next_merge = record { c = 2; leaves = []; directories = []; roots = leaf_merge.roots }

abbrev pub next_record : List ℕ
next_record = record_bytes_in 2 next_merge
