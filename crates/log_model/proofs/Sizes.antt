-- The size of an entry is the number of its bytes.
use Rattle.std.proofs.Common.{◌≡◌, ◌+◌, ℕ, suc, List, ◌++◌, length, refl, ◌∙◌, ap, arith, length-append}
use Rattle.std.specs.Prelude.{flat_map, sum_by}
use Rattle.std.proofs.lemmas.List.Concat.{length-flat_map}
use Rattle.fb_values.specs.declared.facts.Datom.{Datom}
use Rattle.fb_values.specs.declared.facts.Entry.{Entry}
use Rattle.fb_values.specs.declared.facts.Value.{Value}
use Rattle.fb_values.specs.declared.facts.Value.TheVariants.{Keyword, Str, Bool as Boolean, Long, Ref, Instant, Uuid, Symbol, Uri}
use Rattle.tx_model.specs.Size.{value_size, entry_size}
use Rattle.log_model.specs.Fields.{u32_bytes, u64_bytes, i64_bytes, truth_bytes, text_bytes}
use Rattle.log_model.specs.Values.{value_bytes}
use Rattle.log_model.specs.Payload.{datom_bytes, entry_bytes_in}

length-text_bytes : (text : List ℕ) → suc (length (text_bytes text)) ≡ 5 + length text
length-text_bytes text = omega (arith, length-append (u32_bytes (length text)) text)

length-value_bytes : (v : Value) → length (value_bytes v) ≡ value_size v
length-value_bytes (Keyword text) = length-text_bytes text
length-value_bytes (Str text) = length-text_bytes text
length-value_bytes (Boolean b) = refl
length-value_bytes (Long n) = refl
length-value_bytes (Ref e) = refl
length-value_bytes (Instant n) = refl
length-value_bytes (Uuid n) = refl
length-value_bytes (Symbol text) = length-text_bytes text
length-value_bytes (Uri text) = length-text_bytes text

length-datom_bytes : (d : Datom) → length (datom_bytes d) ≡ 17 + value_size d.v
length-datom_bytes d =
    omega (
      arith,
      length-append (u64_bytes d.e ++ u64_bytes d.a ++ value_bytes d.v) (truth_bytes d.added),
      length-append (u64_bytes d.e ++ u64_bytes d.a) (value_bytes d.v),
      length-value_bytes d.v,
    )

pub length-entry_bytes : (format : ℕ) (entry : Entry) → length (entry_bytes_in format entry) ≡ entry_size entry.datoms
length-entry_bytes format entry =
    let head = u32_bytes entry.t ++ i64_bytes entry.instant ++ u32_bytes (length entry.datoms) in
    let datoms = flat_map datom_bytes entry.datoms in
    let counted : length datoms ≡ sum_by (λ (d : Datom). 17 + value_size d.v) entry.datoms =
    length-flat_map datom_bytes entry.datoms ∙ ap (λ (size : Datom → ℕ). sum_by size entry.datoms) (λ i d. length-datom_bytes d i) in
    omega (arith, length-append head datoms, counted)
