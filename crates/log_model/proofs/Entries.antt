-- Entries that are read where they were written, and the other way round.
use Rattle.std.proofs.Common.{◌≡◌, ◌-◌, ◌≤◌, ℕ, ℤ, true, List, [], ◌∷◌, ◌++◌, length, get_or, refl, sym, ◌∙◌, ap, subst, arith}
use Rattle.std.proofs.Common.{append_assoc}
use Rattle.std.specs.Prelude.{◌&&◌, nat_eq, nat_le, flat_map}
use Rattle.std.specs.List.{list_all}
use Rattle.std.proofs.lemmas.Bool.{and_parts, and_from, le-leb, leb-true, eqb-true, eq-eqb}
use Rattle.std.proofs.lemmas.List.{append-nil}
use Rattle.fb_values.specs.declared.facts.Datom.{Datom}
use Rattle.fb_values.specs.declared.facts.Entry.{Entry}
use Rattle.fb_values.specs.declared.facts.Value.{Value}
use Rattle.log_model.specs.Fields.{Reading, found, misfit, and_then, that_fits, several, at_end, read_u8, read_u32, u32_bytes, read_u64}
use Rattle.log_model.specs.Fields.{u64_bytes, read_i64, i64_bytes, read_truth, truth_bytes}
use Rattle.log_model.specs.Values.{value_bytes, is_format, read_value, tag_of, last_tag, is_tag}
use Rattle.log_model.specs.Payload.{datom_bytes, entry_bytes_in, written_format, entry_bytes, read_datom, read_fields, read_entry}
use Rattle.log_model.specs.Payload.{PayloadSays, holds, breaks_at, said_by, payload_says}
use Rattle.log_model.specs.Storable.{is_u32, is_u64, is_i64, is_storable_content, is_storable_value, is_storable_datom, is_storable_in}
use Rattle.log_model.specs.Storable.{IsPayloadOf}
use Rattle.log_model.proofs.Numbers.{AreBytes}
use Rattle.log_model.proofs.Fields.{AreBytes-behind, Reads, Reads-then, Reads-that_fits, Reads-u8, Reads-u32, Reads-u64, Reads-i64}
use Rattle.log_model.proofs.Fields.{Reads-truth, Reads-several, IsFound, Wrote, then-found, fits-found, Wrote-u8, Wrote-u32, Wrote-u64}
use Rattle.log_model.proofs.Fields.{Wrote-i64, Wrote-truth, several-found}
use Rattle.log_model.proofs.Values.{Reads-value, Wrote-value, last_tag_is}

-- four fields, one behind another
pub in_a_row : (a b c d : List ℕ) → a ++ b ++ c ++ d ≡ a ++ (b ++ (c ++ d))
in_a_row a b c d = append_assoc (a ++ b) c d ∙ append_assoc a b (c ++ d)

pub four_and_rest : (a b c d rest : List ℕ) → a ++ (b ++ (c ++ (d ++ rest))) ≡ (a ++ b ++ c ++ d) ++ rest
four_and_rest a b c d rest =
    sym (ap (λ l. l ++ rest) (in_a_row a b c d) ∙ append_assoc a (b ++ (c ++ d)) rest ∙ ap (λ l. a ++ l) (append_assoc b (c ++ d) rest)
    ∙ ap (λ l. a ++ (b ++ l)) (append_assoc c d rest))

-- ---- datoms

-- a datom that is storable has the t of its entry
datom_with : (t : ℕ) (d : Datom) → d.t ≡ t → record { e = d.e; a = d.a; v = d.v; t = t; added = d.added } ≡ d
datom_with t d is = λ i. record { e = d.e; a = d.a; v = d.v; t = sym is i; added = d.added }

-- what is read behind each field
abbrev after_value : ℕ → ℕ → ℕ → Value → List ℕ → Reading Datom
after_value t e a v bytes = and_then (read_truth bytes) (λ added rest. found (record { e = e; a = a; v = v; t = t; added = added }) rest)

abbrev after_attribute : ℕ → ℕ → ℕ → ℕ → List ℕ → Reading Datom
after_attribute format t e a bytes = and_then (read_value format bytes) (after_value t e a)

abbrev after_entity : ℕ → ℕ → ℕ → List ℕ → Reading Datom
after_entity format t e bytes = and_then (read_u64 bytes) (after_attribute format t e)

pub Reads-datom : (format t : ℕ) (d : Datom) → is_storable_datom format t d ≡ true → Reads (read_datom format t) d (datom_bytes d)
Reads-datom format t d fits =
    let from_3 = and_parts (is_u64 d.e && is_u64 d.a && is_storable_value format d.v) (nat_eq d.t t) fits in
    let from_2 = and_parts (is_u64 d.e && is_u64 d.a) (is_storable_value format d.v) from_3.0 in
    let from_1 = and_parts (is_u64 d.e) (is_u64 d.a) from_2.0 in
    let made : Datom = record { e = d.e; a = d.a; v = d.v; t = t; added = d.added } in
    let last : Reads (after_value t d.e d.a d.v) made (truth_bytes d.added) =
    λ rest. ap (λ r. and_then r (λ added behind. found (record { e = d.e; a = d.a; v = d.v; t = t; added = added }) behind))
    (Reads-truth d.added rest) in
    let whole : Reads (read_datom format t) made (u64_bytes d.e ++ (u64_bytes d.a ++ (value_bytes d.v ++ truth_bytes d.added))) =
    Reads-then read_u64 (after_entity format t) d.e made (u64_bytes d.e) (u64_bytes d.a ++ (value_bytes d.v ++ truth_bytes d.added))
    (Reads-u64 d.e from_1.0)
    (Reads-then read_u64 (after_attribute format t d.e) d.a made (u64_bytes d.a) (value_bytes d.v ++ truth_bytes d.added)
    (Reads-u64 d.a from_1.1)
    (Reads-then (read_value format) (after_value t d.e d.a) d.v made (value_bytes d.v) (truth_bytes d.added)
    (Reads-value format d.v from_2.1) last)) in
    λ rest.
    ap (λ l. read_datom format t (l ++ rest)) (in_a_row (u64_bytes d.e) (u64_bytes d.a) (value_bytes d.v) (truth_bytes d.added))
    ∙ whole rest
    ∙ ap (λ x. found x rest) (datom_with t d (eqb-true d.t t from_3.1))

pub Wrote-datom : (format t : ℕ) → Wrote (read_datom format t) datom_bytes (is_storable_datom format t)
Wrote-datom format t bytes d rest are is =
    let at_e = then-found (read_u64 bytes) _ d rest is in
    let wrote_e = Wrote-u64 bytes at_e.0 at_e.1 are at_e.2 in
    let are_e : AreBytes at_e.1 = AreBytes-behind (u64_bytes at_e.0) at_e.1 (subst AreBytes wrote_e.0 are) in
    let at_a = then-found (read_u64 at_e.1) _ d rest at_e.3 in
    let wrote_a = Wrote-u64 at_e.1 at_a.0 at_a.1 are_e at_a.2 in
    let are_a : AreBytes at_a.1 = AreBytes-behind (u64_bytes at_a.0) at_a.1 (subst AreBytes wrote_a.0 are_e) in
    let at_v = then-found (read_value format at_a.1) _ d rest at_a.3 in
    let wrote_v = Wrote-value format at_a.1 at_v.0 at_v.1 are_a at_v.2 in
    let are_v : AreBytes at_v.1 = AreBytes-behind (value_bytes at_v.0) at_v.1 (subst AreBytes wrote_v.0 are_a) in
    let at_added = then-found (read_truth at_v.1) _ d rest at_v.3 in
    let wrote_added = Wrote-truth at_v.1 at_added.0 at_added.1 are_v at_added.2 in
    let made : Datom = record { e = at_e.0; a = at_a.0; v = at_v.0; t = t; added = at_added.0 } in
    let made_is : made ≡ d = at_added.3.0 in
    let row : bytes ≡ datom_bytes made ++ rest =
    wrote_e.0
    ∙ ap (λ l. u64_bytes at_e.0 ++ l) wrote_a.0
    ∙ ap (λ l. u64_bytes at_e.0 ++ (u64_bytes at_a.0 ++ l)) wrote_v.0
    ∙ ap (λ l. u64_bytes at_e.0 ++ (u64_bytes at_a.0 ++ (value_bytes at_v.0 ++ l)))
    (wrote_added ∙ ap (λ l. truth_bytes at_added.0 ++ l) at_added.3.1)
    ∙ four_and_rest (u64_bytes at_e.0) (u64_bytes at_a.0) (value_bytes at_v.0) (truth_bytes at_added.0) rest in
    let fits : is_storable_datom format t made ≡ true =
    and_from _ _ (and_from _ _ (and_from _ _ wrote_e.1 wrote_a.1) wrote_v.1) (eq-eqb t t refl) in
    (row ∙ ap (λ x. datom_bytes x ++ rest) made_is, ap (is_storable_datom format t) (sym made_is) ∙ fits)

-- ---- entries

abbrev after_count : ℕ → ℕ → ℤ → ℕ → List ℕ → Reading Entry
after_count format t instant count bytes =
    and_then (several (read_datom format t) count bytes) (λ datoms rest. found (record { t = t; instant = instant; datoms = datoms }) rest)

abbrev after_instant : ℕ → ℕ → ℤ → List ℕ → Reading Entry
after_instant format t instant bytes = and_then (read_u32 bytes) (after_count format t instant)

abbrev after_t : ℕ → ℕ → List ℕ → Reading Entry
after_t format t bytes = and_then (read_i64 bytes) (after_instant format t)

-- the fields behind the format
abbrev fields_of : Entry → List ℕ
fields_of entry = u32_bytes entry.t ++ i64_bytes entry.instant ++ u32_bytes (length entry.datoms) ++ flat_map datom_bytes entry.datoms

Reads-fields : (format : ℕ) (entry : Entry) → is_storable_in format entry ≡ true → Reads (read_fields format) entry (fields_of entry)
Reads-fields format entry fits =
    let from_3 =
    and_parts (is_u32 entry.t && is_i64 entry.instant && is_u32 (length entry.datoms))
    (list_all (is_storable_datom format entry.t) entry.datoms) fits in
    let from_2 = and_parts (is_u32 entry.t && is_i64 entry.instant) (is_u32 (length entry.datoms)) from_3.0 in
    let from_1 = and_parts (is_u32 entry.t) (is_i64 entry.instant) from_2.0 in
    let datoms = flat_map datom_bytes entry.datoms in
    let last : Reads (after_count format entry.t entry.instant (length entry.datoms)) entry datoms =
    λ rest. ap (λ r. and_then r (λ ds behind. found (record { t = entry.t; instant = entry.instant; datoms = ds }) behind))
    (Reads-several (read_datom format entry.t) datom_bytes (is_storable_datom format entry.t)
    (Reads-datom format entry.t) entry.datoms from_3.1 rest) in
    let whole : Reads (read_fields format) entry
    (u32_bytes entry.t ++ (i64_bytes entry.instant ++ (u32_bytes (length entry.datoms) ++ datoms))) =
    Reads-then read_u32 (after_t format) entry.t entry (u32_bytes entry.t)
    (i64_bytes entry.instant ++ (u32_bytes (length entry.datoms) ++ datoms)) (Reads-u32 entry.t from_1.0)
    (Reads-then read_i64 (after_instant format entry.t) entry.instant entry (i64_bytes entry.instant)
    (u32_bytes (length entry.datoms) ++ datoms) (Reads-i64 entry.instant from_1.1)
    (Reads-then read_u32 (after_count format entry.t entry.instant) (length entry.datoms) entry (u32_bytes (length entry.datoms)) datoms
    (Reads-u32 (length entry.datoms) from_2.1) last)) in
    λ rest.
    ap (λ l. read_fields format (l ++ rest))
    (in_a_row (u32_bytes entry.t) (i64_bytes entry.instant) (u32_bytes (length entry.datoms)) datoms)
    ∙ whole rest

pub read_entry-entry_bytes : (format : ℕ) (entry : Entry) → is_format format ≡ true → is_storable_in format entry ≡ true
    → read_entry (entry_bytes_in format entry) ≡ found entry []
read_entry-entry_bytes format entry known fits =
    let fields = fields_of entry in
    ap read_entry (sym (append-nil (format ∷ fields)))
    ∙ ap at_end (Reads-then (that_fits is_format read_u8) read_fields format entry (format ∷ []) fields
    (Reads-that_fits is_format read_u8 format (format ∷ []) known (Reads-u8 format))
    (Reads-fields format entry fits) [])

pub says-entry_bytes : (entry : Entry) (payload : List ℕ) → IsPayloadOf entry payload → payload_says payload ≡ holds entry
says-entry_bytes entry payload is =
    ap payload_says is.bytes
    ∙ ap (said_by (entry_bytes_in is.format entry)) (read_entry-entry_bytes is.format entry is.format_is is.storable)

Wrote-fields : (format : ℕ) → Wrote (read_fields format) fields_of (is_storable_in format)
Wrote-fields format bytes entry rest are is =
    let at_t = then-found (read_u32 bytes) _ entry rest is in
    let wrote_t = Wrote-u32 bytes at_t.0 at_t.1 are at_t.2 in
    let are_t : AreBytes at_t.1 = AreBytes-behind (u32_bytes at_t.0) at_t.1 (subst AreBytes wrote_t.0 are) in
    let at_instant = then-found (read_i64 at_t.1) _ entry rest at_t.3 in
    let wrote_instant = Wrote-i64 at_t.1 at_instant.0 at_instant.1 are_t at_instant.2 in
    let are_instant : AreBytes at_instant.1 =
    AreBytes-behind (i64_bytes at_instant.0) at_instant.1 (subst AreBytes wrote_instant.0 are_t) in
    let at_count = then-found (read_u32 at_instant.1) _ entry rest at_instant.3 in
    let wrote_count = Wrote-u32 at_instant.1 at_count.0 at_count.1 are_instant at_count.2 in
    let are_count : AreBytes at_count.1 = AreBytes-behind (u32_bytes at_count.0) at_count.1 (subst AreBytes wrote_count.0 are_instant) in
    let at_datoms = then-found (several (read_datom format at_t.0) at_count.0 at_count.1) _ entry rest at_count.3 in
    let wrote_datoms =
    several-found (read_datom format at_t.0) datom_bytes (is_storable_datom format at_t.0)
    (Wrote-datom format at_t.0) at_count.0 at_count.1 at_datoms.0 at_datoms.1 are_count at_datoms.2 in
    let made : Entry = record { t = at_t.0; instant = at_instant.0; datoms = at_datoms.0 } in
    let made_is : made ≡ entry = at_datoms.3.0 in
    let long : length at_datoms.0 ≡ at_count.0 = wrote_datoms.1 in
    let row : bytes ≡ fields_of made ++ rest =
    wrote_t.0
    ∙ ap (λ l. u32_bytes at_t.0 ++ l) wrote_instant.0
    ∙ ap (λ l. u32_bytes at_t.0 ++ (i64_bytes at_instant.0 ++ l)) wrote_count.0
    ∙ ap (λ n. u32_bytes at_t.0 ++ (i64_bytes at_instant.0 ++ (u32_bytes n ++ at_count.1))) (sym long)
    ∙ ap (λ l. u32_bytes at_t.0 ++ (i64_bytes at_instant.0 ++ (u32_bytes (length at_datoms.0) ++ l)))
    (wrote_datoms.0 ∙ ap (λ l. flat_map datom_bytes at_datoms.0 ++ l) at_datoms.3.1)
    ∙ four_and_rest (u32_bytes at_t.0) (i64_bytes at_instant.0) (u32_bytes (length at_datoms.0)) (flat_map datom_bytes at_datoms.0) rest in
    let fits : is_storable_in format made ≡ true =
    and_from _ _ (and_from _ _ (and_from _ _ wrote_t.1 wrote_instant.1) (ap is_u32 long ∙ wrote_count.1)) wrote_datoms.2 in (
      row ∙ ap (λ x. fields_of x ++ rest) made_is,
      ap (is_storable_in format) (sym made_is) ∙ fits,
    )

pub at_end-found : {A : Type 0} (r : Reading A) (a : A) (rest : List ℕ) → IsFound (at_end r) a rest → IsFound r a [] × (rest ≡ [])
at_end-found (found x []) a rest is = ((is.0, refl), sym is.1)
at_end-found (found x (b ∷ more)) a rest is = absurd is
at_end-found (misfit l) a rest is = absurd is

pub read_entry-IsPayloadOf : (payload : List ℕ) (entry : Entry) (rest : List ℕ) → AreBytes payload → IsFound (read_entry payload) entry rest
    → IsPayloadOf entry payload
read_entry-IsPayloadOf payload entry rest are is =
    let ended = at_end-found (and_then (that_fits is_format read_u8 payload) read_fields) entry rest is in
    let split = then-found (that_fits is_format read_u8 payload) read_fields entry [] ended.0 in
    let format = split.0 in
    let behind = split.1 in
    let fits = fits-found is_format read_u8 payload format behind split.2 in
    let first = Wrote-u8 payload format behind are fits.0 in
    let fields = Wrote-fields format behind entry [] (subst AreBytes first.0 are).1 split.3 in
    record {
      format = format;
      format_is = fits.1;
      storable = fields.1;
      bytes = first.0 ∙ ap (λ l. format ∷ l) (fields.0 ∙ append-nil (fields_of entry));
    }

abbrev entry_in : Entry → PayloadSays → Entry
entry_in other (holds entry) = entry
entry_in other (breaks_at byte) = other

pub holds-injective : (first second : Entry) → holds first ≡ holds second → first ≡ second
holds-injective first second same = ap (entry_in first) same

abbrev IsBreak : PayloadSays → Type 0
IsBreak (holds entry) = ⊥
IsBreak (breaks_at byte) = Unit {0}

pub holds-breaks : (entry : Entry) (byte : ℕ) → holds entry ≡ breaks_at byte → ⊥
holds-breaks entry byte same = subst IsBreak (sym same) tt

said_by-holds : (payload : List ℕ) (r : Reading Entry) (entry : Entry) → said_by payload r ≡ holds entry
    → (rest : List ℕ) × IsFound r entry rest
said_by-holds payload (found x rest) entry is = (rest, (holds-injective x entry is, refl))
said_by-holds payload (misfit rest) entry is = absurd (holds-breaks entry (length payload - length rest) (sym is))

pub says-IsPayloadOf : (payload : List ℕ) (entry : Entry) → AreBytes payload → payload_says payload ≡ holds entry
    → IsPayloadOf entry payload
says-IsPayloadOf payload entry are is =
    let back = said_by-holds payload (read_entry payload) entry is in
    read_entry-IsPayloadOf payload entry back.0 are back.1

-- ---- one entry a payload

pub one_entry : (first second : Entry) (payload : List ℕ) → IsPayloadOf first payload → IsPayloadOf second payload → first ≡ second
one_entry first second payload one other =
    holds-injective first second (sym (says-entry_bytes first payload one) ∙ says-entry_bytes second payload other)

-- ---- a fault lies within the payload

abbrev pub byte_in : PayloadSays → ℕ
byte_in (holds entry) = 0
byte_in (breaks_at byte) = byte

pub fault-within : (payload : List ℕ) (byte : ℕ) → payload_says payload ≡ breaks_at byte → byte ≤ length payload
fault-within payload byte is = go (read_entry payload) is
  where
    go : (r : Reading Entry) → said_by payload r ≡ breaks_at byte → byte ≤ length payload
    go (found entry rest) same = absurd (holds-breaks entry byte same)
    go (misfit rest) same = let b : length payload - length rest ≡ byte = ap byte_in same in omega (arith, b)

-- ---- the written format

pub written-entry_bytes : (entry : Entry) (fields : List ℕ) → IsPayloadOf entry (written_format ∷ fields)
    → written_format ∷ fields ≡ entry_bytes entry
written-entry_bytes entry fields is =
    let written : written_format ≡ is.format = ap (λ l. get_or l 0 0) is.bytes in
    is.bytes ∙ ap (λ format. entry_bytes_in format entry) (sym written)

-- ---- what is storable in either format is so in the written one

written_value : (format : ℕ) (v : Value) → is_storable_value format v ≡ true → is_storable_value written_format v ≡ true
written_value format v fits =
    let parts = and_parts (is_tag format (tag_of v)) (is_storable_content v) fits in
    let bounds = and_parts (nat_le 1 (tag_of v)) (nat_le (tag_of v) (last_tag format)) parts.0 in
    let high = leb-true (tag_of v) (last_tag format) bounds.1 in
    and_from _ _ (and_from _ _ bounds.0 (le-leb (tag_of v) 9 (omega (arith, high, last_tag_is format)))) parts.1

written_datom : (format t : ℕ) (d : Datom) → is_storable_datom format t d ≡ true → is_storable_datom written_format t d ≡ true
written_datom format t d fits =
    let from_2 = and_parts (is_u64 d.e && is_u64 d.a && is_storable_value format d.v) (nat_eq d.t t) fits in
    let from_1 = and_parts (is_u64 d.e && is_u64 d.a) (is_storable_value format d.v) from_2.0 in
    and_from _ _ (and_from _ _ from_1.0 (written_value format d.v from_1.1)) from_2.1

written_datoms : (format t : ℕ) (ds : List Datom) → list_all (is_storable_datom format t) ds ≡ true
    → list_all (is_storable_datom written_format t) ds ≡ true
written_datoms format t [] every = refl
written_datoms format t (d ∷ ds) every =
    let parts = and_parts (is_storable_datom format t d) (list_all (is_storable_datom format t) ds) every in
    and_from _ _ (written_datom format t d parts.0) (written_datoms format t ds parts.1)

pub written-storable : (format : ℕ) (entry : Entry) → is_storable_in format entry ≡ true → is_storable_in written_format entry ≡ true
written-storable format entry fits =
    let parts =
    and_parts (is_u32 entry.t && is_i64 entry.instant && is_u32 (length entry.datoms))
    (list_all (is_storable_datom format entry.t) entry.datoms) fits in
    and_from _ _ parts.0 (written_datoms format entry.t entry.datoms parts.1)
