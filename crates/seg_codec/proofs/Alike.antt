-- What a record says over the nodes before it: of their leaves the ids alone decide.
use Rattle.std.proofs.Common.{◌≡◌, ℕ, zero, suc, Bool, not, ◌&&◌, List, [], ◌∷◌, ◌++◌, map, refl, sym, ◌∙◌, ap}
use Rattle.std.specs.Prelude.{fold, filter, flat_map, nat_eq, nat_lt, ◌^◌, ⊤}
use Rattle.std.specs.List.{list_all}
use Rattle.std.proofs.lemmas.List.{map-append}
use Rattle.fb_values.specs.declared.facts.Datom.{Datom}
use Rattle.log_model.specs.Fields.{Reading, found, misfit, and_then, mapped, that_fits, at_end, read_u8, read_u32, read_u64}
use Rattle.log_model.specs.Values.{is_format}
use Rattle.log_model.specs.Storable.{is_u32}
use Rattle.log_model.specs.Nodes.{Leaf, Directory, Nodes, Roots, MergeRecord, is_among, is_new_id, with_leaf, with_directory}
use Rattle.log_model.specs.Nodes.{is_directory_id, reaching, is_node_length}
use Rattle.log_model.specs.Merges.{several_over, read_list, read_dated, read_leaf, read_directory, four, read_roots, read_record_fields}
use Rattle.log_model.specs.Merges.{MergeSays, read_record, merge_said_by, record_says}

-- leaves of the same ids, and the same directories
pub record AreAlike (a b : Nodes) : Type 0 where
  pub leaves : map (λ (l : Leaf). l.id) a.leaves ≡ map (λ (l : Leaf). l.id) b.leaves
  pub directories : a.directories ≡ b.directories

-- ---- readings that agree

then_same : {A B : Type 0} (reading : Reading A) (next other : A → List ℕ → Reading B)
    → ((a : A) (rest : List ℕ) → next a rest ≡ other a rest) → and_then reading next ≡ and_then reading other
then_same (found a rest) next other each = each a rest
then_same (misfit rest) next other each = refl

both_same : {A B : Type 0} (reading also : Reading A) (next other : A → List ℕ → Reading B) → reading ≡ also
    → ((a : A) (rest : List ℕ) → next a rest ≡ other a rest) → and_then reading next ≡ and_then also other
both_same reading also next other same each = ap (λ r. and_then r next) same ∙ then_same also next other each

module _ {S Z A : Type 0} (read : S → List ℕ → Reading A) (also : Z → List ℕ → Reading A) (after : S → A → S) (behind : Z → A → Z)
    (Agree : S → Z → Type 0) (same : (s : S) (z : Z) → Agree s z → (bytes : List ℕ) → read s bytes ≡ also z bytes)
    (goes_on : (s : S) (z : Z) (a : A) → Agree s z → Agree (after s a) (behind z a)) where
  several_same : (n : ℕ) (s : S) (z : Z) (bytes : List ℕ) → Agree s z
      → several_over read after s n bytes ≡ several_over also behind z n bytes
  several_same zero s z bytes agree = refl
  several_same (suc n) s z bytes agree =
      both_same (read s bytes) (also z bytes)
      (λ a rest. mapped (λ more. a ∷ more) (several_over read after (after s a) n rest))
      (λ a rest. mapped (λ more. a ∷ more) (several_over also behind (behind z a) n rest))
      (same s z agree bytes)
      (λ a rest. ap (mapped (λ more. a ∷ more)) (several_same n (after s a) (behind z a) rest (goes_on s z a agree)))

  pub list_same : (fits : ℕ → Bool) (s : S) (z : Z) (bytes : List ℕ) → Agree s z
      → read_list fits read after s bytes ≡ read_list fits also behind z bytes
  list_same fits s z bytes agree =
      then_same (that_fits fits read_u32 bytes) (several_over read after s) (several_over also behind z)
      (λ n rest. several_same n s z rest agree)

-- ---- nodes

module _ (a b : Nodes) (alike : AreAlike a b) where
  new_same : is_new_id a ≡ is_new_id b
  new_same i id =
      nat_lt id (2 ^ 62) && not (is_among (alike.leaves i ++ map (λ (d : Directory). d.id) (alike.directories i)) id)

  pub leaf_same : (format : ℕ) (bytes : List ℕ) → read_leaf format a bytes ≡ read_leaf format b bytes
  leaf_same format bytes =
      both_same (that_fits (is_new_id a) read_u64 bytes) (that_fits (is_new_id b) read_u64 bytes)
      (λ id rest. mapped (λ (datoms : List Datom). record { id = id; datoms = datoms })
      (read_list is_node_length (λ (_ : Nodes) behind. read_dated format behind) (λ s _. s) a rest))
      (λ id rest. mapped (λ (datoms : List Datom). record { id = id; datoms = datoms })
      (read_list is_node_length (λ (_ : Nodes) behind. read_dated format behind) (λ s _. s) b rest))
      (ap (λ test. that_fits test read_u64 bytes) new_same)
      (λ id rest. ap (mapped (λ (datoms : List Datom). record { id = id; datoms = datoms }))
      (list_same (λ (_ : Nodes) behind. read_dated format behind) (λ (_ : Nodes) behind. read_dated format behind) (λ s _. s) (λ s _. s)
      (λ _ _. ⊤) (λ s z _ more. refl) (λ s z d _. tt) is_node_length a b rest tt))

  pub directory_same : (bytes : List ℕ) → read_directory a bytes ≡ read_directory b bytes
  directory_same bytes i =
      and_then (that_fits (new_same i) read_u64 bytes) (λ id rest.
      mapped (λ leaves. record { id = id; leaves = leaves })
      (read_list is_node_length
      (λ before behind. that_fits (λ leaf. is_among (alike.leaves i) leaf && not (is_among before leaf)) read_u64 behind)
      (λ before leaf. before ++ leaf ∷ []) [] rest))

  reach_same : reaching a ≡ reaching b
  reach_same i reached id =
      reached
      ++ id ∷ flat_map (λ (d : Directory). d.leaves) (filter (λ (d : Directory). nat_eq d.id id) (alike.directories i))

  test_same : is_directory_id a ≡ is_directory_id b
  test_same i reached id =
      is_among (map (λ (d : Directory). d.id) (alike.directories i)) id
      && list_all (λ below. not (is_among reached below))
      (id ∷ flat_map (λ (d : Directory). d.leaves) (filter (λ (d : Directory). nat_eq d.id id) (alike.directories i)))

  pub roots_same : (bytes : List ℕ) → read_roots a bytes ≡ read_roots b bytes
  roots_same bytes i =
      mapped four (several_over
      (λ reached more. read_list is_u32 (λ before behind. that_fits (test_same i before) read_u64 behind) (reach_same i) reached more)
      (fold (reach_same i)) [] 4 bytes)

with_same : (a b : Nodes) (d : Directory) → AreAlike a b → AreAlike (with_directory a d) (with_directory b d)
with_same a b d alike = record { leaves = alike.leaves; directories = ap (λ l. l ++ d ∷ []) alike.directories }

-- one leaf more, in whatever way it is held
pub leaf_more : (a b : Nodes) (l other : Leaf) → l.id ≡ other.id → AreAlike a b → AreAlike (with_leaf a l) (with_leaf b other)
leaf_more a b l other same alike = record {
  leaves = map-append (λ (x : Leaf). x.id) a.leaves (l ∷ [])
      ∙ (λ i. alike.leaves i ++ same i ∷ [])
      ∙ sym (map-append (λ (x : Leaf). x.id) b.leaves (other ∷ []));
  directories = alike.directories;
}

pub directories_more : (a b : Nodes) (ds : List Directory) → AreAlike a b → AreAlike (fold with_directory a ds) (fold with_directory b ds)
directories_more a b [] alike = alike
directories_more a b (d ∷ ds) alike = directories_more (with_directory a d) (with_directory b d) ds (with_same a b d alike)

leaves_more : (a b : Nodes) (ls : List Leaf) → AreAlike a b → AreAlike (fold with_leaf a ls) (fold with_leaf b ls)
leaves_more a b [] alike = alike
leaves_more a b (l ∷ ls) alike = leaves_more (with_leaf a l) (with_leaf b l) ls (leaf_more a b l l refl alike)

pub directories_same : (a b : Nodes) (bytes : List ℕ) → AreAlike a b
    → read_list is_u32 read_directory with_directory a bytes ≡ read_list is_u32 read_directory with_directory b bytes
directories_same a b bytes alike =
    list_same read_directory read_directory with_directory with_directory AreAlike (λ s z agree. directory_same s z agree)
    (λ s z d agree. with_same s z d agree) is_u32 a b bytes alike

-- ---- a record

abbrev roots_then : Nodes → ℕ → List Leaf → List Directory → List ℕ → Reading MergeRecord
roots_then nodes c leaves directories bytes =
    and_then (read_roots (fold with_directory (fold with_leaf nodes leaves) directories) bytes)
    (λ roots rest. found (record { c = c; leaves = leaves; directories = directories; roots = roots }) rest)

abbrev directories_then : Nodes → ℕ → List Leaf → List ℕ → Reading MergeRecord
directories_then nodes c leaves bytes =
    and_then (read_list is_u32 read_directory with_directory (fold with_leaf nodes leaves) bytes) (roots_then nodes c leaves)

abbrev leaves_then : Nodes → ℕ → ℕ → List ℕ → Reading MergeRecord
leaves_then nodes format c bytes = and_then (read_list is_u32 (read_leaf format) with_leaf nodes bytes) (directories_then nodes c)

module _ (a b : Nodes) (alike : AreAlike a b) where
  roots_agree : (c : ℕ) (leaves : List Leaf) (directories : List Directory) (bytes : List ℕ)
      → roots_then a c leaves directories bytes ≡ roots_then b c leaves directories bytes
  roots_agree c leaves directories bytes =
      let made : Roots → List ℕ → Reading MergeRecord =
      λ roots rest. found (record { c = c; leaves = leaves; directories = directories; roots = roots }) rest in
      ap (λ (r : Reading Roots). and_then r made)
      (roots_same (fold with_directory (fold with_leaf a leaves) directories) (fold with_directory (fold with_leaf b leaves) directories)
      (directories_more (fold with_leaf a leaves) (fold with_leaf b leaves) directories (leaves_more a b leaves alike)) bytes)

  directories_agree : (c : ℕ) (leaves : List Leaf) (bytes : List ℕ) → directories_then a c leaves bytes ≡ directories_then b c leaves bytes
  directories_agree c leaves bytes =
      both_same (read_list is_u32 read_directory with_directory (fold with_leaf a leaves) bytes)
      (read_list is_u32 read_directory with_directory (fold with_leaf b leaves) bytes) (roots_then a c leaves) (roots_then b c leaves)
      (directories_same (fold with_leaf a leaves) (fold with_leaf b leaves) bytes (leaves_more a b leaves alike))
      (λ directories rest. roots_agree c leaves directories rest)

  leaves_agree : (format c : ℕ) (bytes : List ℕ) → leaves_then a format c bytes ≡ leaves_then b format c bytes
  leaves_agree format c bytes =
      both_same (read_list is_u32 (read_leaf format) with_leaf a bytes) (read_list is_u32 (read_leaf format) with_leaf b bytes)
      (directories_then a c) (directories_then b c)
      (list_same (read_leaf format) (read_leaf format) with_leaf with_leaf AreAlike (λ s z agree. leaf_same s z agree format)
      (λ s z l agree. leaf_more s z l l refl agree) is_u32 a b bytes alike)
      (λ leaves rest. directories_agree c leaves rest)

  fields_same : (format : ℕ) (bytes : List ℕ) → read_record_fields a format bytes ≡ read_record_fields b format bytes
  fields_same format bytes = then_same (read_u32 bytes) (leaves_then a format) (leaves_then b format) (leaves_agree format)

  pub says_same : (payload : List ℕ) → record_says a payload ≡ record_says b payload
  says_same payload =
      ap (λ (r : Reading MergeRecord). merge_said_by payload (at_end r))
      (then_same (that_fits is_format read_u8 payload) (read_record_fields a) (read_record_fields b) fields_same)
