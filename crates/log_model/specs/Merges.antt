-- Merge records: what a record of the file of segments says over the nodes that the file has before
-- it, and which records may be written over these nodes. This project's own choice.
use Rattle.std.specs.Prelude.{◌≡◌, ℕ, zero, suc, ◌-◌, IsTrue, Bool, true, ◌&&◌, List, [], ◌∷◌, ◌++◌}
use Rattle.std.specs.Prelude.{length, fold}
use Rattle.fb_values.specs.declared.facts.Datom.{Datom}
use Rattle.log_model.specs.Fields.{Reading, found, misfit, and_then, mapped, that_fits, at_end}
use Rattle.log_model.specs.Fields.{read_u8, read_u32, read_u64}
use Rattle.log_model.specs.Values.{is_format}
use Rattle.log_model.specs.Payload.{read_datom}
use Rattle.log_model.specs.Storable.{is_u32, is_u64, is_storable_datom}
use Rattle.log_model.specs.Nodes.{Leaf, Directory, Nodes, Roots, MergeRecord, in_order_of_indexes}
use Rattle.log_model.specs.Nodes.{record_bytes_in, is_new_id, with_leaf, with_directory, is_leaf_id}
use Rattle.log_model.specs.Nodes.{is_directory_id, reaching, is_node_length}

-- ---- what a record says

-- so many of a kind, where what fits depends on what comes before
abbrev pub several_over : {S A : Type 0}
    → (S → List ℕ → Reading A) → (S → A → S) → S → ℕ → List ℕ → Reading (List A)
several_over read after s zero bytes = found [] bytes
several_over read after s (suc n) bytes =
    and_then (read s bytes)
    (λ a rest. mapped (λ more. a ∷ more) (several_over read after (after s a) n rest))

-- a number that passes the test, and so many of a kind
abbrev pub read_list : {S A : Type 0}
    → (ℕ → Bool) → (S → List ℕ → Reading A) → (S → A → S) → S → List ℕ → Reading (List A)
read_list fits read after s bytes =
    and_then (that_fits fits read_u32 bytes) (several_over read after s)

abbrev pub read_dated : ℕ → List ℕ → Reading Datom
read_dated format bytes =
    and_then (read_datom format 0 bytes) (λ d rest.
    mapped (λ t. record { e = d.e; a = d.a; v = d.v; t = t; added = d.added }) (read_u32 rest))

abbrev pub read_leaf : ℕ → Nodes → List ℕ → Reading Leaf
read_leaf format nodes bytes =
    and_then (that_fits (is_new_id nodes) read_u64 bytes) (λ id rest.
    mapped (λ datoms. record { id = id; datoms = datoms })
    (read_list is_node_length (λ _ behind. read_dated format behind) (λ s _. s) nodes rest))

abbrev pub read_directory : Nodes → List ℕ → Reading Directory
read_directory nodes bytes =
    and_then (that_fits (is_new_id nodes) read_u64 bytes) (λ id rest.
    mapped (λ leaves. record { id = id; leaves = leaves })
    (read_list is_node_length
    (λ before behind. that_fits (is_leaf_id nodes before) read_u64 behind)
    (λ before leaf. before ++ leaf ∷ []) [] rest))

abbrev pub read_root : Nodes → List ℕ → List ℕ → Reading (List ℕ)
read_root nodes reached bytes =
    read_list is_u32 (λ before behind. that_fits (is_directory_id nodes before) read_u64 behind)
    (reaching nodes) reached bytes

abbrev pub four : List (List ℕ) → Roots
four (eavt ∷ aevt ∷ avet ∷ vaet ∷ []) =
    record { eavt = eavt; aevt = aevt; avet = avet; vaet = vaet }
four other = record { eavt = []; aevt = []; avet = []; vaet = [] }

abbrev pub read_roots : Nodes → List ℕ → Reading Roots
read_roots nodes bytes =
    mapped four (several_over (read_root nodes) (fold (reaching nodes)) [] 4 bytes)

abbrev pub read_record_fields : Nodes → ℕ → List ℕ → Reading MergeRecord
read_record_fields nodes format bytes =
    and_then (read_u32 bytes) (λ c behind_c.
    and_then (read_list is_u32 (read_leaf format) with_leaf nodes behind_c) (λ leaves behind_leaves.
    and_then
    (read_list is_u32 read_directory with_directory (fold with_leaf nodes leaves) behind_leaves)
    (λ directories behind.
    and_then (read_roots (fold with_directory (fold with_leaf nodes leaves) directories) behind)
    (λ roots rest.
    found (record { c = c; leaves = leaves; directories = directories; roots = roots }) rest))))

abbrev pub read_record : Nodes → List ℕ → Reading MergeRecord
read_record nodes bytes =
    at_end (and_then (that_fits is_format read_u8 bytes) (read_record_fields nodes))

pub data MergeSays : Type 0 where
  merges : MergeRecord → MergeSays
  -- the first field that does not fit begins at this byte
  bad_from : ℕ → MergeSays

abbrev pub merge_said_by : List ℕ → Reading MergeRecord → MergeSays
merge_said_by payload (found merge rest) = merges merge
merge_said_by payload (misfit rest) = bad_from (length payload - length rest)

-- over the nodes of the records before it
abbrev pub record_says : Nodes → List ℕ → MergeSays
record_says nodes payload = merge_said_by payload (read_record nodes payload)

-- ---- which records may be written over these nodes

-- each passes, where the test depends on what comes before
abbrev pub all_over : {S A : Type 0} → (S → A → Bool) → (S → A → S) → S → List A → Bool
all_over test after s [] = true
all_over test after s (a ∷ items) = test s a && all_over test after (after s a) items

abbrev pub is_list_over : {S A : Type 0}
    → (ℕ → Bool) → (S → A → Bool) → (S → A → S) → S → List A → Bool
is_list_over fits test after s items =
    (is_u32 (length items) && fits (length items)) && all_over test after s items

abbrev pub is_storable_dated : ℕ → Datom → Bool
is_storable_dated format d = is_storable_datom format d.t d && is_u32 d.t

abbrev pub is_leaf_over : ℕ → Nodes → Leaf → Bool
is_leaf_over format nodes leaf =
    is_new_id nodes leaf.id
    && is_list_over is_node_length (λ _ d. is_storable_dated format d) (λ s _. s) nodes leaf.datoms

abbrev pub is_directory_over : Nodes → Directory → Bool
is_directory_over nodes directory =
    is_new_id nodes directory.id
    && is_list_over is_node_length (λ before id. is_u64 id && is_leaf_id nodes before id)
    (λ before leaf. before ++ leaf ∷ []) [] directory.leaves

abbrev pub is_root_over : Nodes → List ℕ → List ℕ → Bool
is_root_over nodes reached ids =
    is_list_over is_u32 (λ before id. is_u64 id && is_directory_id nodes before id) (reaching nodes)
    reached ids

abbrev pub is_record_over : ℕ → Nodes → MergeRecord → Bool
is_record_over format nodes merge =
    is_u32 merge.c
    && is_list_over is_u32 (is_leaf_over format) with_leaf nodes merge.leaves
    && is_list_over is_u32 is_directory_over with_directory (fold with_leaf nodes merge.leaves)
    merge.directories
    && all_over
    (is_root_over (fold with_directory (fold with_leaf nodes merge.leaves) merge.directories))
    (fold (reaching (fold with_directory (fold with_leaf nodes merge.leaves) merge.directories))) []
    (in_order_of_indexes merge.roots)

-- The payload is the bytes of this record in one of the two formats, over the nodes before it.
pub record IsRecordOf (nodes : Nodes) (merge : MergeRecord) (payload : List ℕ) : Type 0 where
  pub format : ℕ
  pub format_is : IsTrue (is_format format)
  pub storable : IsTrue (is_record_over format nodes merge)
  pub bytes : payload ≡ record_bytes_in format merge
