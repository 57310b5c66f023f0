-- Fields that are written, one behind another.
use Rattle.std.proofs.Common.{◌≡◌, ℕ, true, List, [], ◌∷◌, ◌++◌, ap, ◌∙◌, refl, append_assoc}
use Rattle.std.specs.Prelude.{◌&&◌, nat_eq}
use Rattle.std.specs.List.{list_all}
use Rattle.std.proofs.lemmas.Bool.{and_parts, and_from}
use Rattle.fb_values.specs.declared.facts.Datom.{Datom}
use Rattle.log_model.specs.Fields.{u64_bytes, truth_bytes}
use Rattle.log_model.specs.Values.{value_bytes}
use Rattle.log_model.specs.Payload.{datom_bytes}
use Rattle.log_model.specs.Storable.{is_u64, is_storable_value, is_storable_datom}
use Rattle.fb_codec.specs.Entries.{has_storable_value}

-- four fields, each written behind what stood there
pub four_written : (old a b c d with_a with_b with_c with_d : List ℕ)
    → with_a ≡ old ++ a → with_b ≡ with_a ++ b → with_c ≡ with_b ++ c → with_d ≡ with_c ++ d
    → with_d ≡ old ++ (a ++ b ++ c ++ d)
four_written old a b c d with_a with_b with_c with_d is_a is_b is_c is_d =
    is_d
    ∙ ap (λ l. l ++ d) (is_c ∙ ap (λ l. l ++ c) (is_b ∙ ap (λ l. l ++ b) is_a ∙ append_assoc old a b) ∙ append_assoc old (a ++ b) c)
    ∙ append_assoc old (a ++ b ++ c) d

pub datom_written : (d : Datom) (old with_e with_a with_v whole : List ℕ)
    → with_e ≡ old ++ u64_bytes d.e → with_a ≡ with_e ++ u64_bytes d.a → with_v ≡ with_a ++ value_bytes d.v
    → whole ≡ with_v ++ truth_bytes d.added → whole ≡ old ++ datom_bytes d
datom_written d old with_e with_a with_v whole =
    four_written old (u64_bytes d.e) (u64_bytes d.a) (value_bytes d.v) (truth_bytes d.added) with_e with_a with_v whole

-- the values of storable datoms are storable
pub values_storable : (t : ℕ) (ds : List Datom) → list_all (is_storable_datom 2 t) ds ≡ true → list_all has_storable_value ds ≡ true
values_storable t [] every = refl
values_storable t (d ∷ ds) every =
    let parts = and_parts (is_storable_datom 2 t d) (list_all (is_storable_datom 2 t) ds) every in
    let fields = and_parts (is_u64 d.e && is_u64 d.a && is_storable_value 2 d.v) (nat_eq d.t t) parts.0 in
    let value = and_parts (is_u64 d.e && is_u64 d.a) (is_storable_value 2 d.v) fields.0 in
    and_from (has_storable_value d) (list_all has_storable_value ds) value.1 (values_storable t ds parts.1)
