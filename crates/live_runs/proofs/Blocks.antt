-- The datoms of a table's blocks.
use Rattle.std.proofs.Common.{◌≡◌, ℕ, ◌+◌, ◌*◌, ◌<◌, List, [], ◌∷◌, Option, Some, length-append, ◌++◌, length, append_assoc, refl, sym, ap, ◌∙◌, arith}
use Rattle.std.specs.List.{All}
use Rattle.std.specs.Prelude.{◌^◌}
use Rattle.std.proofs.lemmas.List.{append-nil}
use Rattle.std.proofs.lemmas.List.Elements.{All-append, All-from_recursion}
use Rattle.fb_chunks.specs.Chunks.{joined, IsLayer}
use Rattle.fb_chunks.proofs.Joined.{layered, length-whole}
use Rattle.fb_values.specs.declared.facts.Datom.{Datom}
use Rattle.live_runs.specs.declared.table.TheConstants.{TOGETHER}
use Rattle.live_runs.specs.Tables.{blocks_of, datoms_of, IsTable}

-- the last datoms may as well be a block
pub joined_more : (blocks : List (List Datom)) (last : List Datom) → joined (blocks ++ last ∷ []) ++ [] ≡ joined blocks ++ last
joined_more [] last = rw (append-nil last) (append-nil last)
joined_more (block ∷ blocks) last =
    append_assoc block (joined (blocks ++ last ∷ [])) [] ∙ ap (λ rest. block ++ rest) (joined_more blocks last)
    ∙ sym (append_assoc block (joined blocks) last)

-- how many blocks and last datoms there are
pub counted : {datoms : List Datom} {blocks : List (List Datom)} {last : List Datom} {len : ℕ} → joined blocks ++ last ≡ datoms
    → IsLayer TOGETHER blocks last len → length datoms ≡ length blocks * TOGETHER + length last
counted view layer = length-whole (layered view layer (omega arith))

-- the last datoms, which have become as many as a block has, are one
pub more_table : (blocks more : List (List Datom)) (last block none : List Datom)
    → IsLayer TOGETHER blocks last (length (joined blocks ++ last)) → length last ≡ TOGETHER → length (joined blocks ++ last) < 2 ^ 32
    → block ≡ last → more ≡ blocks ++ block ∷ [] → none ≡ [] → IsTable (Some more) none
more_table blocks more last block none layer whole few same more_is none_is =
    let one : All (λ (b : List Datom). length b ≡ TOGETHER) (last ∷ []) =
    All-from_recursion (λ (b : List Datom). length b ≡ TOGETHER) (last ∷ []) (whole, tt) in
    let is : IsTable (Some (blocks ++ last ∷ [])) [] =
    record {
      layer =
          record {
            full = All-append (λ (b : List Datom). length b ≡ TOGETHER) blocks (last ∷ []) layer.full one;
            last_fits = omega arith;
            counted = refl;
          };
      short = omega arith;
      few = rw (joined_more blocks last) few;
    } in
    rw more_is (rw none_is (rw same is))

pub more_datoms : (blocks more : List (List Datom)) (last block none : List Datom) → block ≡ last → more ≡ blocks ++ block ∷ [] → none ≡ []
    → joined more ++ none ≡ joined blocks ++ last
more_datoms blocks more last block none same more_is none_is = rw more_is (rw none_is (rw same (joined_more blocks last)))

-- ---- one datom more

pub longer : (full : Option (List (List Datom))) (last : List Datom) (d : Datom)
    → datoms_of full (last ++ d ∷ []) ≡ datoms_of full last ++ d ∷ []
longer full last d = sym (append_assoc (joined (blocks_of full)) last (d ∷ []))

pub longer_layer : (full : Option (List (List Datom))) (last : List Datom) (d : Datom) → IsTable full last
    → IsLayer TOGETHER (blocks_of full) (last ++ d ∷ []) (length (datoms_of full (last ++ d ∷ [])))
longer_layer full last d table =
    record {
      full = table.layer.full;
      last_fits = omega (arith, table.short, length-append last (d ∷ []));
      counted = refl;
    }

pub longer_few : (full : Option (List (List Datom))) (last : List Datom) (d : Datom) → length (datoms_of full last) + 1 < 2 ^ 32
    → length (datoms_of full (last ++ d ∷ [])) < 2 ^ 32
longer_few full last d few = omega (arith, few, length-append (datoms_of full last) (d ∷ []), ap length (longer full last d))

pub longer_table : (full : Option (List (List Datom))) (last : List Datom) (d : Datom) → IsTable full last
    → length (datoms_of full last) + 1 < 2 ^ 32 → length (last ++ d ∷ []) < TOGETHER → IsTable full (last ++ d ∷ [])
longer_table full last d table few short =
    record {
      layer = longer_layer full last d table;
      short = short;
      few = longer_few full last d few;
    }
