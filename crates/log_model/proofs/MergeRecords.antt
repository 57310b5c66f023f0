-- Merge records that are read where they were written, and the other way round.
use Rattle.std.proofs.Common.{◌≡◌, ◌^◌, ℕ, zero, suc, Bool, true, List, [], ◌∷◌, ◌++◌, length, refl, sym, ◌∙◌, ap, subst, arith}
use Rattle.std.proofs.Common.{append_assoc}
use Rattle.std.specs.Prelude.{◌&&◌, nat_eq, flat_map, fold}
use Rattle.std.proofs.lemmas.Bool.{and_parts, and_from, ltb-true, lt-ltb, eq-eqb}
use Rattle.std.proofs.lemmas.List.{append-nil}
use Rattle.fb_values.specs.declared.facts.Datom.{Datom}
use Rattle.log_model.specs.Fields.{Reading, found, misfit, and_then, mapped, that_fits, at_end, read_u8, read_u32, u32_bytes, read_u64}
use Rattle.log_model.specs.Fields.{u64_bytes}
use Rattle.log_model.specs.Values.{is_format}
use Rattle.log_model.specs.Payload.{datom_bytes, read_datom}
use Rattle.log_model.specs.Storable.{is_u32, is_u64, is_storable_value, is_storable_datom}
use Rattle.log_model.specs.Nodes.{Leaf, Directory, Nodes, Roots, MergeRecord, list_bytes, dated_bytes, leaf_bytes, directory_bytes}
use Rattle.log_model.specs.Nodes.{in_order_of_indexes, record_bytes_in, is_new_id, with_leaf, with_directory, is_leaf_id, is_directory_id}
use Rattle.log_model.specs.Nodes.{reaching, is_node_length}
use Rattle.log_model.specs.Merges.{several_over, read_list, read_dated, read_leaf, read_directory, read_root, four, read_roots}
use Rattle.log_model.specs.Merges.{read_record_fields, read_record, MergeSays, merges, bad_from, merge_said_by, record_says, all_over}
use Rattle.log_model.specs.Merges.{is_list_over, is_storable_dated, is_leaf_over, is_directory_over, is_root_over, is_record_over}
use Rattle.log_model.specs.Merges.{IsRecordOf}
use Rattle.log_model.proofs.Numbers.{AreBytes}
use Rattle.log_model.proofs.Fields.{AreBytes-behind, Reads, Reads-then, Reads-mapped, Reads-that_fits, Reads-u8, Reads-u32, Reads-u64}
use Rattle.log_model.proofs.Fields.{IsFound, Wrote, then-found, mapped-found, fits-found, Wrote-u8, Wrote-u32, Wrote-u64}
use Rattle.log_model.proofs.Entries.{in_a_row, four_and_rest, at_end-found, Reads-datom, Wrote-datom}

-- ---- lists in which what fits depends on what stands before

module _ {S A : Type 0} (read : S → List ℕ → Reading A) (write : A → List ℕ) (test : S → A → Bool) (after : S → A → S) where
  Reads-several_over : ((s : S) (a : A) → test s a ≡ true → Reads (read s) a (write a)) → (s : S) (items : List A)
      → all_over test after s items ≡ true
      → Reads (several_over read after s (length items)) items (flat_map write items)
  Reads-several_over each s [] every = λ rest. refl
  Reads-several_over each s (a ∷ items) every =
      let parts = and_parts (test s a) (all_over test after (after s a) items) every in
      Reads-then (read s) (λ x behind. mapped (λ more. x ∷ more) (several_over read after (after s x) (length items) behind)) a (a ∷ items)
      (write a) (flat_map write items)
      (each s a parts.0)
      (Reads-mapped (λ more. a ∷ more) (several_over read after (after s a) (length items)) items (flat_map write items)
      (Reads-several_over each (after s a) items parts.1))

  Reads-list : ((s : S) (a : A) → test s a ≡ true → Reads (read s) a (write a)) → (fits : ℕ → Bool) (s : S) (items : List A)
      → is_list_over fits test after s items ≡ true
      → Reads (read_list fits read after s) items (list_bytes write items)
  Reads-list each fits s items every =
      let parts = and_parts (is_u32 (length items) && fits (length items)) (all_over test after s items) every in
      let long = and_parts (is_u32 (length items)) (fits (length items)) parts.0 in
      Reads-then (that_fits fits read_u32) (several_over read after s) (length items) items (u32_bytes (length items))
      (flat_map write items)
      (Reads-that_fits fits read_u32 (length items) (u32_bytes (length items)) long.1 (Reads-u32 (length items) long.0))
      (Reads-several_over each s items parts.1)

  several_over-found : ((s : S) → Wrote (read s) write (test s)) → (n : ℕ) (s : S) (bytes : List ℕ) (items : List A) (rest : List ℕ)
      → AreBytes bytes → IsFound (several_over read after s n bytes) items rest
      → (bytes ≡ flat_map write items ++ rest) × (length items ≡ n) × (all_over test after s items ≡ true)
  several_over-found each zero s bytes items rest are is =
      (is.1 ∙ ap (λ l. flat_map write l ++ rest) is.0, ap length (sym is.0), ap (all_over test after s) (sym is.0))
  several_over-found each (suc n) s bytes items rest are is =
      let split =
      then-found (read s bytes) (λ a behind. mapped (λ more. a ∷ more) (several_over read after (after s a) n behind)) items rest is in
      let a = split.0 in
      let behind = split.1 in
      let first = each s bytes a behind are split.2 in
      let back = mapped-found (λ more. a ∷ more) (several_over read after (after s a) n behind) items rest split.3 in
      let more = back.0 in
      let others =
      several_over-found each n (after s a) behind more rest (AreBytes-behind (write a) behind (subst AreBytes first.0 are)) back.1 in (
        first.0
            ∙ ap (λ l. write a ++ l) others.0
            ∙ sym (append_assoc (write a) (flat_map write more) rest)
            ∙ ap (λ l. flat_map write l ++ rest) back.2,
        ap length (sym back.2) ∙ ap suc others.1,
        ap (all_over test after s) (sym back.2) ∙ and_from (test s a) (all_over test after (after s a) more) first.1 others.2,
      )

  Wrote-list : ((s : S) → Wrote (read s) write (test s)) → (fits : ℕ → Bool) (s : S)
      → Wrote (read_list fits read after s) (list_bytes write) (is_list_over fits test after s)
  Wrote-list each fits s bytes items rest are is =
      let split = then-found (that_fits fits read_u32 bytes) (several_over read after s) items rest is in
      let n = split.0 in
      let behind = split.1 in
      let long = fits-found fits read_u32 bytes n behind split.2 in
      let first = Wrote-u32 bytes n behind are long.0 in
      let others =
      several_over-found each n s behind items rest (AreBytes-behind (u32_bytes n) behind (subst AreBytes first.0 are)) split.3 in (
        first.0
            ∙ ap (λ l. u32_bytes n ++ l) others.0
            ∙ ap (λ m. u32_bytes m ++ (flat_map write items ++ rest)) (sym others.1)
            ∙ sym (append_assoc (u32_bytes (length items)) (flat_map write items) rest),
        and_from _ _ (and_from _ _ (ap is_u32 others.1 ∙ first.1) (ap fits others.1 ∙ long.1)) others.2,
      )

-- an id that passes a test
Reads-id : (test : ℕ → Bool) (id : ℕ) → is_u64 id ≡ true → test id ≡ true → Reads (that_fits test read_u64) id (u64_bytes id)
Reads-id test id small passes = Reads-that_fits test read_u64 id (u64_bytes id) passes (Reads-u64 id small)

Wrote-id : (test : ℕ → Bool) → Wrote (that_fits test read_u64) u64_bytes (λ id. is_u64 id && test id)
Wrote-id test bytes id rest are is =
    let fits = fits-found test read_u64 bytes id rest is in
    let parts = Wrote-u64 bytes id rest are fits.0 in
    (parts.0, and_from (is_u64 id) (test id) parts.1 fits.1)

new_id_small : (nodes : Nodes) (id : ℕ) → is_new_id nodes id ≡ true → is_u64 id ≡ true
new_id_small nodes id is = lt-ltb id (2 ^ 64) (omega (arith, ltb-true id (2 ^ 62) (and_parts _ _ is).0))

-- ---- datoms with their t

abbrev undated : Datom → Datom
undated d = record { e = d.e; a = d.a; v = d.v; t = 0; added = d.added }

Reads-dated : (format : ℕ) (d : Datom) → is_storable_dated format d ≡ true → Reads (read_dated format) d (dated_bytes d)
Reads-dated format d fits =
    let parts = and_parts (is_storable_datom format d.t d) (is_u32 d.t) fits in
    let fields = and_parts (is_u64 d.e && is_u64 d.a && is_storable_value format d.v) (nat_eq d.t d.t) parts.0 in
    Reads-then (read_datom format 0) (λ x rest. mapped (λ t. record { e = x.e; a = x.a; v = x.v; t = t; added = x.added }) (read_u32 rest))
    (undated d) d (datom_bytes d) (u32_bytes d.t)
    (Reads-datom format 0 (undated d) (and_from _ _ fields.0 refl))
    (Reads-mapped (λ t. record { e = d.e; a = d.a; v = d.v; t = t; added = d.added }) read_u32 d.t (u32_bytes d.t) (Reads-u32 d.t parts.1))

Wrote-dated : (format : ℕ) → Wrote (read_dated format) dated_bytes (is_storable_dated format)
Wrote-dated format bytes d rest are is =
    let split =
    then-found (read_datom format 0 bytes)
    (λ x behind. mapped (λ t. record { e = x.e; a = x.a; v = x.v; t = t; added = x.added }) (read_u32 behind)) d rest is in
    let x = split.0 in
    let behind = split.1 in
    let first = Wrote-datom format 0 bytes x behind are split.2 in
    let back = mapped-found (λ t. record { e = x.e; a = x.a; v = x.v; t = t; added = x.added }) (read_u32 behind) d rest split.3 in
    let t = back.0 in
    let last = Wrote-u32 behind t rest (AreBytes-behind (datom_bytes x) behind (subst AreBytes first.0 are)) back.1 in
    let made : Datom = record { e = x.e; a = x.a; v = x.v; t = t; added = x.added } in
    let fields = and_parts (is_u64 x.e && is_u64 x.a && is_storable_value format x.v) (nat_eq x.t 0) first.1 in (
      first.0
          ∙ ap (λ l. datom_bytes x ++ l) last.0
          ∙ sym (append_assoc (datom_bytes x) (u32_bytes t) rest)
          ∙ ap (λ y. dated_bytes y ++ rest) back.2,
      ap (is_storable_dated format) (sym back.2) ∙ and_from _ _ (and_from _ _ fields.0 (eq-eqb t t refl)) last.1,
    )

-- ---- nodes

Reads-leaf : (format : ℕ) (nodes : Nodes) (leaf : Leaf) → is_leaf_over format nodes leaf ≡ true
    → Reads (read_leaf format nodes) leaf (leaf_bytes leaf)
Reads-leaf format nodes leaf fits =
    let parts =
    and_parts (is_new_id nodes leaf.id)
    (is_list_over is_node_length (λ _ d. is_storable_dated format d) (λ s _. s) nodes leaf.datoms) fits in
    let read = read_list is_node_length (λ (_ : Nodes) behind. read_dated format behind) (λ s _. s) nodes in
    Reads-then (that_fits (is_new_id nodes) read_u64) (λ id rest. mapped (λ datoms. record { id = id; datoms = datoms }) (read rest))
    leaf.id leaf (u64_bytes leaf.id) (list_bytes dated_bytes leaf.datoms)
    (Reads-id (is_new_id nodes) leaf.id (new_id_small nodes leaf.id parts.0) parts.0)
    (Reads-mapped (λ datoms. record { id = leaf.id; datoms = datoms }) read leaf.datoms (list_bytes dated_bytes leaf.datoms)
    (Reads-list (λ (_ : Nodes) behind. read_dated format behind) dated_bytes (λ _ d. is_storable_dated format d) (λ s _. s)
    (λ s d is. Reads-dated format d is) is_node_length nodes leaf.datoms parts.1))

Wrote-leaf : (format : ℕ) (nodes : Nodes) → Wrote (read_leaf format nodes) leaf_bytes (is_leaf_over format nodes)
Wrote-leaf format nodes bytes leaf rest are is =
    let read = read_list is_node_length (λ (_ : Nodes) behind. read_dated format behind) (λ s _. s) nodes in
    let split =
    then-found (that_fits (is_new_id nodes) read_u64 bytes)
    (λ id behind. mapped (λ datoms. record { id = id; datoms = datoms }) (read behind)) leaf rest is in
    let id = split.0 in
    let behind = split.1 in
    let first = Wrote-id (is_new_id nodes) bytes id behind are split.2 in
    let back = mapped-found (λ datoms. record { id = id; datoms = datoms }) (read behind) leaf rest split.3 in
    let last =
    Wrote-list (λ (_ : Nodes) l. read_dated format l) dated_bytes (λ _ d. is_storable_dated format d) (λ s _. s) (λ s. Wrote-dated format)
    is_node_length nodes behind back.0 rest (AreBytes-behind (u64_bytes id) behind (subst AreBytes first.0 are)) back.1 in (
      first.0
          ∙ ap (λ l. u64_bytes id ++ l) last.0
          ∙ sym (append_assoc (u64_bytes id) (list_bytes dated_bytes back.0) rest)
          ∙ ap (λ y. leaf_bytes y ++ rest) back.2,
      ap (is_leaf_over format nodes) (sym back.2) ∙ and_from _ _ (and_parts _ _ first.1).1 last.1,
    )

abbrev read_leaf_id : Nodes → List ℕ → List ℕ → Reading ℕ
read_leaf_id nodes before bytes = that_fits (is_leaf_id nodes before) read_u64 bytes

abbrev is_listed_leaf : Nodes → List ℕ → ℕ → Bool
is_listed_leaf nodes before id = is_u64 id && is_leaf_id nodes before id

abbrev one_more : List ℕ → ℕ → List ℕ
one_more before leaf = before ++ leaf ∷ []

Reads-directory : (nodes : Nodes) (directory : Directory) → is_directory_over nodes directory ≡ true
    → Reads (read_directory nodes) directory (directory_bytes directory)
Reads-directory nodes directory fits =
    let parts =
    and_parts (is_new_id nodes directory.id) (is_list_over is_node_length (is_listed_leaf nodes) one_more [] directory.leaves) fits in
    let read = read_list is_node_length (read_leaf_id nodes) one_more [] in
    Reads-then (that_fits (is_new_id nodes) read_u64) (λ id rest. mapped (λ leaves. record { id = id; leaves = leaves }) (read rest))
    directory.id directory (u64_bytes directory.id) (list_bytes u64_bytes directory.leaves)
    (Reads-id (is_new_id nodes) directory.id (new_id_small nodes directory.id parts.0) parts.0)
    (Reads-mapped (λ leaves. record { id = directory.id; leaves = leaves }) read directory.leaves (list_bytes u64_bytes directory.leaves)
    (Reads-list (read_leaf_id nodes) u64_bytes (is_listed_leaf nodes) one_more
    (λ before id is. let both = and_parts (is_u64 id) (is_leaf_id nodes before id) is in
    Reads-id (is_leaf_id nodes before) id both.0 both.1) is_node_length [] directory.leaves parts.1))

Wrote-directory : (nodes : Nodes) → Wrote (read_directory nodes) directory_bytes (is_directory_over nodes)
Wrote-directory nodes bytes directory rest are is =
    let read = read_list is_node_length (read_leaf_id nodes) one_more [] in
    let split =
    then-found (that_fits (is_new_id nodes) read_u64 bytes)
    (λ id behind. mapped (λ leaves. record { id = id; leaves = leaves }) (read behind)) directory rest is in
    let id = split.0 in
    let behind = split.1 in
    let first = Wrote-id (is_new_id nodes) bytes id behind are split.2 in
    let back = mapped-found (λ leaves. record { id = id; leaves = leaves }) (read behind) directory rest split.3 in
    let last =
    Wrote-list (read_leaf_id nodes) u64_bytes (is_listed_leaf nodes) one_more (λ before. Wrote-id (is_leaf_id nodes before)) is_node_length
    [] behind back.0 rest (AreBytes-behind (u64_bytes id) behind (subst AreBytes first.0 are)) back.1 in (
      first.0
          ∙ ap (λ l. u64_bytes id ++ l) last.0
          ∙ sym (append_assoc (u64_bytes id) (list_bytes u64_bytes back.0) rest)
          ∙ ap (λ y. directory_bytes y ++ rest) back.2,
      ap (is_directory_over nodes) (sym back.2) ∙ and_from _ _ (and_parts _ _ first.1).1 last.1,
    )

-- ---- roots

module _ (nodes : Nodes) where
  abbrev read_root_id : List ℕ → List ℕ → Reading ℕ
  read_root_id reached bytes = that_fits (is_directory_id nodes reached) read_u64 bytes

  abbrev is_root_id : List ℕ → ℕ → Bool
  is_root_id reached id = is_u64 id && is_directory_id nodes reached id

  Reads-root : (reached ids : List ℕ) → is_root_over nodes reached ids ≡ true
      → Reads (read_root nodes reached) ids (list_bytes u64_bytes ids)
  Reads-root reached ids fits =
      Reads-list read_root_id u64_bytes is_root_id (reaching nodes)
      (λ before id is. let both = and_parts (is_u64 id) (is_directory_id nodes before id) is in
      Reads-id (is_directory_id nodes before) id both.0 both.1) is_u32 reached ids fits

  Wrote-root : (reached : List ℕ) → Wrote (read_root nodes reached) (list_bytes u64_bytes) (is_root_over nodes reached)
  Wrote-root reached =
      Wrote-list read_root_id u64_bytes is_root_id (reaching nodes) (λ before. Wrote-id (is_directory_id nodes before)) is_u32 reached

  abbrev are_roots : Roots → Bool
  are_roots roots = all_over (is_root_over nodes) (fold (reaching nodes)) [] (in_order_of_indexes roots)

  abbrev roots_bytes : Roots → List ℕ
  roots_bytes roots = flat_map (list_bytes u64_bytes) (in_order_of_indexes roots)

  Reads-roots : (roots : Roots) → are_roots roots ≡ true → Reads (read_roots nodes) roots (roots_bytes roots)
  Reads-roots roots fits =
      Reads-mapped four (several_over (read_root nodes) (fold (reaching nodes)) [] 4) (in_order_of_indexes roots) (roots_bytes roots)
      (Reads-several_over (read_root nodes) (list_bytes u64_bytes) (is_root_over nodes) (fold (reaching nodes)) Reads-root []
      (in_order_of_indexes roots) fits)

  four-of : (lists : List (List ℕ)) → length lists ≡ 4 → in_order_of_indexes (four lists) ≡ lists
  four-of [] long = absurd (omega (arith, long))
  four-of (a ∷ []) long = absurd (omega (arith, long))
  four-of (a ∷ b ∷ []) long = absurd (omega (arith, long))
  four-of (a ∷ b ∷ c ∷ []) long = absurd (omega (arith, long))
  four-of (a ∷ b ∷ c ∷ d ∷ []) long = refl
  four-of (a ∷ b ∷ c ∷ d ∷ e ∷ lists) long = absurd (omega (arith, long))

  Wrote-roots : Wrote (read_roots nodes) roots_bytes are_roots
  Wrote-roots bytes roots rest are is =
      let back = mapped-found four (several_over (read_root nodes) (fold (reaching nodes)) [] 4 bytes) roots rest is in
      let lists = back.0 in
      let parts =
      several_over-found (read_root nodes) (list_bytes u64_bytes) (is_root_over nodes)
      (fold (reaching nodes)) Wrote-root 4 [] bytes lists rest are back.1 in
      let same : lists ≡ in_order_of_indexes roots = sym (four-of lists parts.1) ∙ ap in_order_of_indexes back.2 in (
        parts.0 ∙ ap (λ l. flat_map (list_bytes u64_bytes) l ++ rest) same,
        ap (all_over (is_root_over nodes) (fold (reaching nodes)) []) (sym same) ∙ parts.2,
      )

-- ---- records

module _ (format : ℕ) (nodes : Nodes) where
  abbrev nodes_with : List Leaf → Nodes
  nodes_with leaves = fold with_leaf nodes leaves

  abbrev all_nodes : List Leaf → List Directory → Nodes
  all_nodes leaves directories = fold with_directory (nodes_with leaves) directories

  abbrev read_leaves : List ℕ → Reading (List Leaf)
  read_leaves bytes = read_list is_u32 (read_leaf format) with_leaf nodes bytes

  abbrev read_directories : List Leaf → List ℕ → Reading (List Directory)
  read_directories leaves bytes = read_list is_u32 read_directory with_directory (nodes_with leaves) bytes

  abbrev after_directories : ℕ → List Leaf → List Directory → List ℕ → Reading MergeRecord
  after_directories c leaves directories bytes =
      and_then (read_roots (all_nodes leaves directories) bytes)
      (λ roots rest. found (record { c = c; leaves = leaves; directories = directories; roots = roots }) rest)

  abbrev after_leaves : ℕ → List Leaf → List ℕ → Reading MergeRecord
  after_leaves c leaves bytes = and_then (read_directories leaves bytes) (after_directories c leaves)

  abbrev after_c : ℕ → List ℕ → Reading MergeRecord
  after_c c bytes = and_then (read_leaves bytes) (after_leaves c)

  abbrev fields_of : MergeRecord → List ℕ
  fields_of merge =
      u32_bytes merge.c ++ list_bytes leaf_bytes merge.leaves ++ list_bytes directory_bytes merge.directories
      ++ flat_map (list_bytes u64_bytes) (in_order_of_indexes merge.roots)

  Reads-record_fields : (merge : MergeRecord) → is_record_over format nodes merge ≡ true
      → Reads (read_record_fields nodes format) merge (fields_of merge)
  Reads-record_fields merge fits =
      let all = all_nodes merge.leaves merge.directories in
      let from_3 =
      and_parts (is_u32 merge.c && is_list_over is_u32 (is_leaf_over format) with_leaf nodes merge.leaves && is_list_over is_u32
      is_directory_over with_directory (nodes_with merge.leaves) merge.directories) (are_roots all merge.roots) fits in
      let from_2 =
      and_parts (is_u32 merge.c && is_list_over is_u32 (is_leaf_over format) with_leaf nodes merge.leaves)
      (is_list_over is_u32 is_directory_over with_directory (nodes_with merge.leaves) merge.directories) from_3.0 in
      let from_1 = and_parts (is_u32 merge.c) (is_list_over is_u32 (is_leaf_over format) with_leaf nodes merge.leaves) from_2.0 in
      let leaves = list_bytes leaf_bytes merge.leaves in
      let directories = list_bytes directory_bytes merge.directories in
      let roots = flat_map (list_bytes u64_bytes) (in_order_of_indexes merge.roots) in
      let last : Reads (after_directories merge.c merge.leaves merge.directories) merge roots =
      λ rest. ap (λ r.
      and_then r (λ x behind. found (record { c = merge.c; leaves = merge.leaves; directories = merge.directories; roots = x }) behind))
      (Reads-roots all merge.roots from_3.1 rest) in
      let whole : Reads (read_record_fields nodes format) merge (u32_bytes merge.c ++ (leaves ++ (directories ++ roots))) =
      Reads-then read_u32 after_c merge.c merge (u32_bytes merge.c) (leaves ++ (directories ++ roots)) (Reads-u32 merge.c from_1.0)
      (Reads-then read_leaves (after_leaves merge.c) merge.leaves merge leaves (directories ++ roots)
      (Reads-list (read_leaf format) leaf_bytes (is_leaf_over format) with_leaf (Reads-leaf format) is_u32 nodes merge.leaves from_1.1)
      (Reads-then (read_directories merge.leaves) (after_directories merge.c merge.leaves) merge.directories merge directories roots
      (Reads-list read_directory directory_bytes is_directory_over with_directory Reads-directory is_u32
      (nodes_with merge.leaves) merge.directories from_2.1) last)) in
      λ rest. ap (λ l. read_record_fields nodes format (l ++ rest)) (in_a_row (u32_bytes merge.c) leaves directories roots) ∙ whole rest

  pub says-record_bytes : (merge : MergeRecord) → is_format format ≡ true → is_record_over format nodes merge ≡ true
      → record_says nodes (record_bytes_in format merge) ≡ merges merge
  says-record_bytes merge known fits =
      ap (λ l. merge_said_by (record_bytes_in format merge) (read_record nodes l)) (sym (append-nil (format ∷ fields_of merge)))
      ∙ ap (λ r. merge_said_by (record_bytes_in format merge) (at_end r))
      (Reads-then (that_fits is_format read_u8) (read_record_fields nodes) format merge (format ∷ []) (fields_of merge)
      (Reads-that_fits is_format read_u8 format (format ∷ []) known (Reads-u8 format))
      (Reads-record_fields merge fits) [])

  Wrote-record_fields : Wrote (read_record_fields nodes format) fields_of (is_record_over format nodes)
  Wrote-record_fields bytes merge rest are is =
      let at_c = then-found (read_u32 bytes) after_c merge rest is in
      let wrote_c = Wrote-u32 bytes at_c.0 at_c.1 are at_c.2 in
      let are_c : AreBytes at_c.1 = AreBytes-behind (u32_bytes at_c.0) at_c.1 (subst AreBytes wrote_c.0 are) in
      let at_leaves = then-found (read_leaves at_c.1) (after_leaves at_c.0) merge rest at_c.3 in
      let wrote_leaves =
      Wrote-list (read_leaf format) leaf_bytes (is_leaf_over format) with_leaf
      (Wrote-leaf format) is_u32 nodes at_c.1 at_leaves.0 at_leaves.1 are_c at_leaves.2 in
      let are_leaves : AreBytes at_leaves.1 =
      AreBytes-behind (list_bytes leaf_bytes at_leaves.0) at_leaves.1 (subst AreBytes wrote_leaves.0 are_c) in
      let at_directories =
      then-found (read_directories at_leaves.0 at_leaves.1) (after_directories at_c.0 at_leaves.0) merge rest at_leaves.3 in
      let wrote_directories =
      Wrote-list read_directory directory_bytes is_directory_over with_directory Wrote-directory is_u32
      (nodes_with at_leaves.0) at_leaves.1 at_directories.0 at_directories.1 are_leaves at_directories.2 in
      let are_directories : AreBytes at_directories.1 =
      AreBytes-behind (list_bytes directory_bytes at_directories.0) at_directories.1 (subst AreBytes wrote_directories.0 are_leaves) in
      let at_roots =
      then-found (read_roots (all_nodes at_leaves.0 at_directories.0) at_directories.1)
      (λ roots behind. found (record { c = at_c.0; leaves = at_leaves.0; directories = at_directories.0; roots = roots }) behind) merge rest
      at_directories.3 in
      let wrote_roots =
      Wrote-roots (all_nodes at_leaves.0 at_directories.0) at_directories.1 at_roots.0 at_roots.1 are_directories at_roots.2 in
      let made : MergeRecord = record { c = at_c.0; leaves = at_leaves.0; directories = at_directories.0; roots = at_roots.0 } in
      let made_is : made ≡ merge = at_roots.3.0 in
      let roots = flat_map (list_bytes u64_bytes) (in_order_of_indexes at_roots.0) in
      let leaves = list_bytes leaf_bytes at_leaves.0 in
      let directories = list_bytes directory_bytes at_directories.0 in
      let row : bytes ≡ fields_of made ++ rest =
      wrote_c.0
      ∙ ap (λ l. u32_bytes at_c.0 ++ l) wrote_leaves.0
      ∙ ap (λ l. u32_bytes at_c.0 ++ (leaves ++ l)) wrote_directories.0
      ∙ ap (λ l. u32_bytes at_c.0 ++ (leaves ++ (directories ++ l))) (wrote_roots.0 ∙ ap (λ l. roots ++ l) at_roots.3.1)
      ∙ four_and_rest (u32_bytes at_c.0) leaves directories roots rest in
      let fits : is_record_over format nodes made ≡ true =
      and_from _ _ (and_from _ _ (and_from _ _ wrote_c.1 wrote_leaves.1) wrote_directories.1) wrote_roots.1 in
      (row ∙ ap (λ x. fields_of x ++ rest) made_is, ap (is_record_over format nodes) (sym made_is) ∙ fits)

-- ---- what a payload says

abbrev merge_in : MergeRecord → MergeSays → MergeRecord
merge_in other (merges merge) = merge
merge_in other (bad_from byte) = other

abbrev IsBad : MergeSays → Type 0
IsBad (merges merge) = ⊥
IsBad (bad_from byte) = Unit {0}

pub merge_said_by-merges : (payload : List ℕ) (r : Reading MergeRecord) (merge : MergeRecord) → merge_said_by payload r ≡ merges merge
    → (rest : List ℕ) × IsFound r merge rest
merge_said_by-merges payload (found x rest) merge is = (rest, (ap (merge_in merge) is, refl))
merge_said_by-merges payload (misfit rest) merge is = absurd (subst IsBad is tt)

pub says-IsRecordOf : (nodes : Nodes) (merge : MergeRecord) (payload : List ℕ) → AreBytes payload → record_says nodes payload ≡ merges merge
    → IsRecordOf nodes merge payload
says-IsRecordOf nodes merge payload are is =
    let back = merge_said_by-merges payload (read_record nodes payload) merge is in
    let ended = at_end-found (and_then (that_fits is_format read_u8 payload) (read_record_fields nodes)) merge back.0 back.1 in
    let split = then-found (that_fits is_format read_u8 payload) (read_record_fields nodes) merge [] ended.0 in
    let format = split.0 in
    let behind = split.1 in
    let fits = fits-found is_format read_u8 payload format behind split.2 in
    let first = Wrote-u8 payload format behind are fits.0 in
    let fields = Wrote-record_fields format nodes behind merge [] (subst AreBytes first.0 are).1 split.3 in
    record {
      format = format;
      format_is = fits.1;
      storable = fields.1;
      bytes = first.0 ∙ ap (λ l. format ∷ l) (fields.0 ∙ append-nil (fields_of format nodes merge));
    }

pub IsRecordOf-says : (nodes : Nodes) (merge : MergeRecord) (payload : List ℕ) → IsRecordOf nodes merge payload
    → record_says nodes payload ≡ merges merge
IsRecordOf-says nodes merge payload is = ap (record_says nodes) is.bytes ∙ says-record_bytes is.format nodes merge is.format_is is.storable

pub one_record : (nodes : Nodes) (first second : MergeRecord) (payload : List ℕ) → IsRecordOf nodes first payload
    → IsRecordOf nodes second payload → first ≡ second
one_record nodes first second payload one other =
    ap (merge_in first) (sym (IsRecordOf-says nodes first payload one) ∙ IsRecordOf-says nodes second payload other)
