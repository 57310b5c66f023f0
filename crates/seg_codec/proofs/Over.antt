-- Records of what a file lacks stand over its nodes.
use Rattle.std.proofs.Common.{◌≡◌, ◌≤◌, ◌<◌, ◌+◌, ◌^◌, ℕ, Bool, true, false, cond, not, ◌&&◌, ◌||◌, List, [], ◌∷◌, ◌++◌, length, map, refl}
use Rattle.std.proofs.Common.{sym, ◌∙◌, ap, subst, arith, inl, inr, append_assoc, length-append}
use Rattle.std.specs.Prelude.{filter, fold, nat_eq, Contains, All, IsTrue}
use Rattle.std.specs.List.{list_all}
use Rattle.std.proofs.lemmas.Bool.{true≢false, and_from, or_parts, or_from, ne_eqb, lt-ltb, le-leb, not_from_false, false_from_ne_true}
use Rattle.std.proofs.lemmas.Bool.{or_cases}
use Rattle.std.proofs.lemmas.List.{append-nil, map-append, length-map}
use Rattle.std.proofs.lemmas.List.Elements.{All-contains, All-head, All-tail, All-filter, Contains-append_left, Contains-append_right}
use Rattle.fb_values.specs.declared.facts.Datom.{Datom}
use Rattle.log_model.specs.Payload.{written_format}
use Rattle.log_model.specs.Storable.{is_u32, is_u64}
use Rattle.log_model.specs.Nodes.{Leaf, Directory, Nodes, ids_in, is_among, is_new_id, with_leaf, with_directory, is_leaf_id}
use Rattle.log_model.specs.Nodes.{is_directory_id, reaching, is_node_length, in_order_of_indexes, record_bytes_in}
use Rattle.log_model.specs.Merges.{all_over, is_storable_dated, is_leaf_over, is_directory_over, is_root_over, IsRecordOf}
use Rattle.log_model.specs.Kept.{with_nodes}
use Rattle.seg_tree.specs.Nodes.{LeafNode, DirectoryNode, tree_leaves}
use Rattle.seg_tree.specs.Ids.{leaf_ids, node_ids, count_of, AreDistinct}
use Rattle.seg_tree.specs.Indexes.{root_ids}
use Rattle.seg_tree.specs.declared.roots.Roots.{Roots as SegRoots}
use Rattle.seg_codec.specs.Trees.{file_leaf, file_directory, directory_ids, leaves_of_four, directories_of_four, roots_of, Fits, merge_of}
use Rattle.seg_codec.specs.Trees.{AreWritable}
use Rattle.seg_codec.proofs.Among.{member_here, member_there, member_cases, no_member, All-made, among, among-append, among_mapped}
use Rattle.seg_codec.proofs.Among.{first_of_four, second_of_four, third_of_four, fourth_of_four, mapped_among, AreOnce, once_cons}
use Rattle.seg_codec.proofs.Among.{once_head, once_tail, once_join, once_front, once_back, once_apart}
use Rattle.seg_codec.proofs.Counted.{among_counted, uncounted_among, once_counted, ids_below_all, below-append, node_ids-append}
use Rattle.seg_codec.proofs.Counted.{tree_leaves-append, count_below, count_both, count_listed}
use Rattle.seg_codec.proofs.Kept.{leaves_with, directories_with, with_leaves, leaf_there, directory_there, below_is}

-- ---- an id that the nodes have not

module _ (nodes : Nodes) where
  abbrev leaf_part : List ℕ
  leaf_part = map (λ (leaf : Leaf). leaf.id) nodes.leaves

  abbrev directory_part : List ℕ
  directory_part = map (λ (directory : Directory). directory.id) nodes.directories

  ids_parts : (id : ℕ) → is_among (ids_in nodes) id ≡ false → (is_among leaf_part id ≡ false) × (is_among directory_part id ≡ false)
  ids_parts id none = or_parts (is_among leaf_part id) (is_among directory_part id) (sym (among-append leaf_part directory_part id) ∙ none)

  ids_from : (id : ℕ) → is_among leaf_part id ≡ false → is_among directory_part id ≡ false → is_among (ids_in nodes) id ≡ false
  ids_from id one other = among-append leaf_part directory_part id ∙ or_from _ _ one other

  not_with_leaf : (leaf : Leaf) (id : ℕ) → is_among (ids_in nodes) id ≡ false → (id ≡ leaf.id → ⊥)
      → is_among (ids_in (with_leaf nodes leaf)) id ≡ false
  not_with_leaf leaf id none apart =
      let parts = ids_parts id none in
      among-append (map (λ (l : Leaf). l.id) (nodes.leaves ++ leaf ∷ [])) directory_part id
      ∙ or_from _ _
      (ap (λ l. is_among l id) (map-append (λ (l : Leaf). l.id) nodes.leaves (leaf ∷ [])) ∙ among-append leaf_part (leaf.id ∷ []) id
      ∙ or_from _ _ parts.0 (or_from _ _ (ne_eqb id leaf.id apart) refl))
      parts.1

  not_with_directory : (directory : Directory) (id : ℕ) → is_among (ids_in nodes) id ≡ false → (id ≡ directory.id → ⊥)
      → is_among (ids_in (with_directory nodes directory)) id ≡ false
  not_with_directory directory id none apart =
      let parts = ids_parts id none in
      among-append leaf_part (map (λ (d : Directory). d.id) (nodes.directories ++ directory ∷ [])) id
      ∙ or_from _ _ parts.0
      (ap (λ l. is_among l id) (map-append (λ (d : Directory). d.id) nodes.directories (directory ∷ []))
      ∙ among-append directory_part (directory.id ∷ []) id ∙ or_from _ _ parts.1 (or_from _ _ (ne_eqb id directory.id apart) refl))

  new_id : (id : ℕ) → id < 2 ^ 62 → is_among (ids_in nodes) id ≡ false → is_new_id nodes id ≡ true
  new_id id small none = and_from _ _ (lt-ltb id (2 ^ 62) small) (not_from_false (is_among (ids_in nodes) id) none)

-- ---- leaves

abbrev IsWritableLeaf : LeafNode → Type 0
IsWritableLeaf leaf = (leaf.id < 2 ^ 62) × (0 < length leaf.datoms) × (length leaf.datoms < 513)
    × All (λ d. IsTrue (is_storable_dated written_format d)) leaf.datoms

all_dated : (nodes : Nodes) (ds : List Datom) → All (λ d. IsTrue (is_storable_dated written_format d)) ds
    → all_over (λ (_ : Nodes) d. is_storable_dated written_format d) (λ s _. s) nodes ds ≡ true
all_dated nodes [] every = refl
all_dated nodes (d ∷ ds) every =
    and_from _ _ (All-head (λ x. IsTrue (is_storable_dated written_format x)) d ds every)
    (all_dated nodes ds (All-tail (λ x. IsTrue (is_storable_dated written_format x)) d ds every))

node_len : (n : ℕ) → 0 < n → n < 513 → (is_u32 n && is_node_length n) ≡ true
node_len n some few = and_from _ _ (lt-ltb n (2 ^ 32) (omega (arith, few)))
    (and_from _ _ (le-leb 1 n (omega (arith, some))) (le-leb n 512 (omega (arith, few))))

leaf_over : (nodes : Nodes) (leaf : LeafNode) → is_among (ids_in nodes) leaf.id ≡ false → IsWritableLeaf leaf
    → is_leaf_over written_format nodes (file_leaf leaf) ≡ true
leaf_over nodes leaf none fits =
    and_from _ _ (new_id nodes leaf.id fits.0 none)
    (and_from _ _ (node_len (length leaf.datoms) fits.1 fits.2) (all_dated nodes leaf.datoms fits.3))

leaves_over : (nodes : Nodes) (leaves : List LeafNode)
    → ((leaf : LeafNode) → Contains leaves leaf → is_among (ids_in nodes) leaf.id ≡ false) → AreOnce (leaf_ids leaves)
    → All IsWritableLeaf leaves
    → all_over (is_leaf_over written_format) with_leaf nodes (map file_leaf leaves) ≡ true
leaves_over nodes [] none once fits = refl
leaves_over nodes (leaf ∷ leaves) none once fits =
    and_from _ _ (leaf_over nodes leaf (none leaf (member_here leaf leaves)) (All-head IsWritableLeaf leaf leaves fits))
    (leaves_over (with_leaf nodes (file_leaf leaf)) leaves
    (λ other member. not_with_leaf nodes (file_leaf leaf) other.id (none other (member_there leaf other leaves member))
    (λ same. true≢false (sym (mapped_among (λ (l : LeafNode). l.id) leaves other member) ∙ ap (is_among (leaf_ids leaves)) same
    ∙ once_head leaf.id (leaf_ids leaves) once)))
    (once_tail leaf.id (leaf_ids leaves) once) (All-tail IsWritableLeaf leaf leaves fits))

-- ---- directories

abbrev one_more : List ℕ → ℕ → List ℕ
one_more before leaf = before ++ leaf ∷ []

pub apart_from_front : (before ids : List ℕ) (id : ℕ) → AreOnce (before ++ ids) → is_among ids id ≡ true → is_among before id ≡ false
apart_from_front before ids id once is = go (is_among before id) refl
  where
    go : (b : Bool) → is_among before id ≡ b → is_among before id ≡ false
    go true had = absurd (true≢false (sym is ∙ once_apart before ids once id had))
    go false none = none

small_u64 : (id : ℕ) → id < 2 ^ 62 → is_u64 id ≡ true
small_u64 id small = lt-ltb id (2 ^ 64) (omega (arith, small))

listed_over : (nodes : Nodes) (before : List ℕ) (leaves : List LeafNode)
    → All (λ leaf. (leaf.id < 2 ^ 62) × (is_among (leaf_part nodes) leaf.id ≡ true)) leaves → AreOnce (before ++ leaf_ids leaves)
    → all_over (λ front id. is_u64 id && is_leaf_id nodes front id) one_more before (leaf_ids leaves) ≡ true
listed_over nodes before [] every once = refl
listed_over nodes before (leaf ∷ leaves) every once =
    let first = All-head (λ (l : LeafNode). (l.id < 2 ^ 62) × (is_among (leaf_part nodes) l.id ≡ true)) leaf leaves every in
    and_from _ _
    (and_from _ _ (small_u64 leaf.id first.0)
    (and_from _ _ first.1 (not_from_false (is_among before leaf.id) (apart_from_front before (leaf.id ∷ leaf_ids leaves) leaf.id once
    (mapped_among (λ (l : LeafNode). l.id) (leaf ∷ leaves) leaf (member_here leaf leaves))))))
    (listed_over nodes (before ++ leaf.id ∷ []) leaves
    (All-tail (λ (l : LeafNode). (l.id < 2 ^ 62) × (is_among (leaf_part nodes) l.id ≡ true)) leaf leaves every)
    (subst AreOnce (sym (append_assoc before (leaf.id ∷ []) (leaf_ids leaves))) once))

-- what is asked of a directory over these leaves
abbrev IsWritableDirectory : List ℕ → DirectoryNode → Type 0
IsWritableDirectory known d = (d.id < 2 ^ 62) × (0 < length d.leaves) × (length d.leaves < 513)
    × All (λ leaf. (leaf.id < 2 ^ 62) × (is_among known leaf.id ≡ true)) d.leaves × AreOnce (leaf_ids d.leaves)

directory_over : (nodes : Nodes) (d : DirectoryNode) → is_among (ids_in nodes) d.id ≡ false → IsWritableDirectory (leaf_part nodes) d
    → is_directory_over nodes (file_directory d) ≡ true
directory_over nodes d none fits =
    let long = length-map d.leaves (λ (l : LeafNode). l.id) in
    and_from _ _ (new_id nodes d.id fits.0 none)
    (and_from _ _ (node_len (length (leaf_ids d.leaves)) (omega (arith, long, fits.1)) (omega (arith, long, fits.2)))
    (listed_over nodes [] d.leaves fits.3 fits.4))

directories_over : (nodes : Nodes) (ds : List DirectoryNode)
    → ((d : DirectoryNode) → Contains ds d → is_among (ids_in nodes) d.id ≡ false) → AreOnce (directory_ids ds)
    → All (IsWritableDirectory (leaf_part nodes)) ds
    → all_over is_directory_over with_directory nodes (map file_directory ds) ≡ true
directories_over nodes [] none once fits = refl
directories_over nodes (d ∷ ds) none once fits =
    and_from _ _ (directory_over nodes d (none d (member_here d ds)) (All-head (IsWritableDirectory (leaf_part nodes)) d ds fits))
    (directories_over (with_directory nodes (file_directory d)) ds
    (λ other member. not_with_directory nodes (file_directory d) other.id (none other (member_there d other ds member))
    (λ same. true≢false (sym (mapped_among (λ (x : DirectoryNode). x.id) ds other member) ∙ ap (is_among (directory_ids ds)) same
    ∙ once_head d.id (directory_ids ds) once)))
    (once_tail d.id (directory_ids ds) once) (All-tail (IsWritableDirectory (leaf_part nodes)) d ds fits))

-- ---- roots

module _ (nodes : Nodes) (once_nodes : AreOnce (ids_in nodes)) where
  -- the directory is there under an id that fits 64 bits
  abbrev IsNamed : DirectoryNode → Type 0
  IsNamed d = (d.id < 2 ^ 62) × Contains nodes.directories (file_directory d)

  none_reached : (reached ids : List ℕ) → ((id : ℕ) → Contains ids id → is_among reached id ≡ false)
      → list_all (λ below. not (is_among reached below)) ids ≡ true
  none_reached reached [] each = refl
  none_reached reached (id ∷ ids) each =
      and_from _ _ (not_from_false (is_among reached id) (each id (member_here id ids)))
      (none_reached reached ids (λ other member. each other (member_there id other ids member)))

  directory_fits : (reached rest : List ℕ) (d : DirectoryNode) → IsNamed d → AreOnce (reached ++ ((d.id ∷ leaf_ids d.leaves) ++ rest))
      → is_directory_id nodes reached d.id ≡ true
  directory_fits reached rest d named once =
      and_from _ _ (mapped_among (λ (x : Directory). x.id) nodes.directories (file_directory d) named.1)
      (ap (list_all (λ below. not (is_among reached below))) (below_is nodes once_nodes d named.1)
      ∙ none_reached reached (d.id ∷ leaf_ids d.leaves)
      (λ id member. apart_from_front reached ((d.id ∷ leaf_ids d.leaves) ++ rest) id once
      (among-append (d.id ∷ leaf_ids d.leaves) rest id ∙ ap (λ b. b || is_among rest id) (among (d.id ∷ leaf_ids d.leaves) id member))))

  reaches : (reached : List ℕ) (d : DirectoryNode) → IsNamed d → reaching nodes reached d.id ≡ reached ++ (d.id ∷ leaf_ids d.leaves)
  reaches reached d named = ap (λ l. reached ++ l) (below_is nodes once_nodes d named.1)

  reaches_all : (reached : List ℕ) (ds : List DirectoryNode) → All IsNamed ds
      → fold (reaching nodes) reached (directory_ids ds) ≡ reached ++ ids_below_all ds
  reaches_all reached [] named = sym (append-nil reached)
  reaches_all reached (d ∷ ds) named =
      ap (λ l. fold (reaching nodes) l (directory_ids ds)) (reaches reached d (All-head IsNamed d ds named))
      ∙ reaches_all (reached ++ (d.id ∷ leaf_ids d.leaves)) ds (All-tail IsNamed d ds named)
      ∙ append_assoc reached (d.id ∷ leaf_ids d.leaves) (ids_below_all ds)

  ids_over : (reached : List ℕ) (ds : List DirectoryNode) → All IsNamed ds → AreOnce (reached ++ ids_below_all ds)
      → all_over (λ before id. is_u64 id && is_directory_id nodes before id) (reaching nodes) reached (directory_ids ds) ≡ true
  ids_over reached [] named once = refl
  ids_over reached (d ∷ ds) named once =
      let first = All-head IsNamed d ds named in
      and_from _ _ (and_from _ _ (small_u64 d.id first.0) (directory_fits reached (ids_below_all ds) d first once))
      (ap (λ l. all_over (λ before id. is_u64 id && is_directory_id nodes before id) (reaching nodes) l (directory_ids ds))
      (reaches reached d first)
      ∙ ids_over (reached ++ (d.id ∷ leaf_ids d.leaves)) ds (All-tail IsNamed d ds named)
      (subst AreOnce (sym (append_assoc reached (d.id ∷ leaf_ids d.leaves) (ids_below_all ds))) once))

  root_over : (reached : List ℕ) (ds : List DirectoryNode) → length ds < 2 ^ 32 → All IsNamed ds → AreOnce (reached ++ ids_below_all ds)
      → is_root_over nodes reached (directory_ids ds) ≡ true
  root_over reached ds few named once =
      let short : is_u32 (length (directory_ids ds))
      ≡ true = lt-ltb _ (2 ^ 32) (omega (arith, few, length-map ds (λ (d : DirectoryNode). d.id))) in
      and_from _ _ (and_from _ _ short short) (ids_over reached ds named once)

  roots_over : (e a v r : List DirectoryNode) → length e < 2 ^ 32 → length a < 2 ^ 32 → length v < 2 ^ 32 → length r < 2 ^ 32
      → All IsNamed e → All IsNamed a → All IsNamed v → All IsNamed r
      → AreOnce (((ids_below_all e ++ ids_below_all a) ++ ids_below_all v) ++ ids_below_all r)
      → all_over (is_root_over nodes) (fold (reaching nodes)) []
      (directory_ids e ∷ directory_ids a ∷ directory_ids v ∷ directory_ids r ∷ []) ≡ true
  roots_over e a v r few_e few_a few_v few_r named_e named_a named_v named_r once =
      let once_v = once_front ((ids_below_all e ++ ids_below_all a) ++ ids_below_all v) (ids_below_all r) once in
      let once_a = once_front (ids_below_all e ++ ids_below_all a) (ids_below_all v) once_v in
      let once_e = once_front (ids_below_all e) (ids_below_all a) once_a in
      let is_e = reaches_all [] e named_e in
      let is_a = ap (λ l. fold (reaching nodes) l (directory_ids a)) is_e ∙ reaches_all (ids_below_all e) a named_a in
      let is_v = ap (λ l. fold (reaching nodes) l (directory_ids v)) is_a ∙ reaches_all (ids_below_all e ++ ids_below_all a) v named_v in
      and_from _ _ (root_over [] e few_e named_e once_e)
      (and_from _ _ (ap (λ l. is_root_over nodes l (directory_ids a)) is_e ∙ root_over (ids_below_all e) a few_a named_a once_a)
      (and_from _ _ (ap (λ l. is_root_over nodes l (directory_ids v)) is_a ∙ root_over
      (ids_below_all e ++ ids_below_all a) v few_v named_v once_v)
      (and_from _ _ (ap (λ l. is_root_over nodes l (directory_ids r)) is_v ∙ root_over
      ((ids_below_all e ++ ids_below_all a) ++ ids_below_all v) r few_r named_r once) refl)))

-- ---- the record

module _ {A : Type 0} (p : A → Bool) where
  pub kept_member : (xs : List A) (x : A) → Contains (filter p xs) x → Contains xs x × (p x ≡ true)
  kept_member [] x member = absurd (no_member x member)
  kept_member (y ∷ xs) x member = go (p y) refl member (kept_member xs x)
    where
      later : Contains xs x × (p x ≡ true) → Contains (y ∷ xs) x × (p x ≡ true)
      later is = (member_there y x xs is.0, is.1)

      go : (b : Bool) → p y ≡ b → Contains (cond b (y ∷ filter p xs) (filter p xs)) x
          → (Contains (filter p xs) x → Contains xs x × (p x ≡ true)) → Contains (y ∷ xs) x × (p x ≡ true)
      go true is inside next = elim (member_cases y x (filter p xs) inside) [
        | inl same ↦ (subst (λ z. Contains (y ∷ xs) z) same (member_here y xs), subst (λ z. p z ≡ true) same is)
        | inr rest ↦ later (next rest)
      ]
      go false is inside next = later (next inside)

  kept_shorter : (xs : List A) → length (filter p xs) ≤ length xs
  kept_shorter [] = omega arith
  kept_shorter (x ∷ xs) = go (p x) (kept_shorter xs)
    where
      go : (b : Bool) → length (filter p xs) ≤ length xs → length (cond b (x ∷ filter p xs) (filter p xs)) ≤ length (x ∷ xs)
      go true short = omega (arith, short)
      go false short = omega (arith, short)

  module _ (id_of : A → ℕ) where
    kept_absent : (xs : List A) (id : ℕ) → is_among (map id_of xs) id ≡ false → is_among (map id_of (filter p xs)) id ≡ false
    kept_absent [] id none = refl
    kept_absent (x ∷ xs) id none =
        let parts = or_parts (nat_eq id (id_of x)) (is_among (map id_of xs) id) none in
        go (p x) parts.0 (kept_absent xs id parts.1)
      where
        go : (b : Bool) → nat_eq id (id_of x) ≡ false → is_among (map id_of (filter p xs)) id ≡ false
            → is_among (map id_of (cond b (x ∷ filter p xs) (filter p xs))) id ≡ false
        go true apart rest = or_from _ _ apart rest
        go false apart rest = rest

    pub kept_once : (xs : List A) → AreOnce (map id_of xs) → AreOnce (map id_of (filter p xs))
    kept_once [] once = once
    kept_once (x ∷ xs) once = go (p x) (kept_once xs (once_tail (id_of x) (map id_of xs) once))
      where
        go : (b : Bool) → AreOnce (map id_of (filter p xs)) → AreOnce (map id_of (cond b (x ∷ filter p xs) (filter p xs)))
        go true rest = once_cons (id_of x) (map id_of (filter p xs))
            (kept_absent xs (id_of x) (once_head (id_of x) (map id_of xs) once)) rest
        go false rest = rest

is_false : (b : Bool) → not b ≡ true → b ≡ false
is_false false is = refl
is_false true is = absurd (true≢false (sym is))

pub four_leaves : (trees : SegRoots) → leaves_of_four trees ≡ tree_leaves (directories_of_four trees)
four_leaves trees = sym (tree_leaves-append (trees.eavt ++ trees.aevt ++ trees.avet) trees.vaet
    ∙ ap (λ l. l ++ tree_leaves trees.vaet)
    (tree_leaves-append (trees.eavt ++ trees.aevt) trees.avet
    ∙ ap (λ l. l ++ tree_leaves trees.avet) (tree_leaves-append trees.eavt trees.aevt)))

pub four_ids : (trees : SegRoots) → root_ids trees ≡ node_ids (directories_of_four trees)
four_ids trees = sym (node_ids-append (trees.eavt ++ trees.aevt ++ trees.avet) trees.vaet
    ∙ ap (λ l. l ++ node_ids trees.vaet)
    (node_ids-append (trees.eavt ++ trees.aevt) trees.avet
    ∙ ap (λ l. l ++ node_ids trees.avet) (node_ids-append trees.eavt trees.aevt)))

module _ (nodes : Nodes) (trees : SegRoots) (c : ℕ) (once_nodes : AreOnce (ids_in nodes)) (distinct : AreDistinct (root_ids trees))
    (fits : Fits nodes trees) (writable : AreWritable trees) where
  abbrev ds : List DirectoryNode
  ds = directories_of_four trees

  abbrev is_new_one : ℕ → Bool
  is_new_one id = not (is_among (ids_in nodes) id)

  abbrev new_leaves : List LeafNode
  new_leaves = filter (λ (l : LeafNode). is_new_one l.id) (leaves_of_four trees)

  abbrev new_directories : List DirectoryNode
  new_directories = filter (λ (d : DirectoryNode). is_new_one d.id) (directories_of_four trees)

  all_leaves : leaves_of_four trees ≡ tree_leaves ds
  all_leaves = four_leaves trees

  all_ids : root_ids trees ≡ node_ids ds
  all_ids = four_ids trees

  all_below : ids_below_all ds ≡
      ((ids_below_all trees.eavt ++ ids_below_all trees.aevt) ++ ids_below_all trees.avet) ++ ids_below_all trees.vaet
  all_below = below-append (trees.eavt ++ trees.aevt ++ trees.avet) trees.vaet
      ∙ ap (λ l. l ++ ids_below_all trees.vaet)
      (below-append (trees.eavt ++ trees.aevt) trees.avet
      ∙ ap (λ l. l ++ ids_below_all trees.avet) (below-append trees.eavt trees.aevt))

  few : (id : ℕ) → count_of id (leaf_ids (leaves_of_four trees)) + count_of id (directory_ids ds) ≤ 1
  few id =
      let whole : count_of id (root_ids trees) ≤ 1 = distinct id in
      let ids : count_of id (root_ids trees) ≡ count_of id (node_ids ds) = ap (count_of id) all_ids in
      let leaves : count_of id (leaf_ids (leaves_of_four trees))
      ≡ count_of id (leaf_ids (tree_leaves ds)) = ap (λ l. count_of id (leaf_ids l)) all_leaves in
      omega (arith, whole, ids, leaves, count_both id ds)

  leaves_once : AreOnce (leaf_ids (leaves_of_four trees))
  leaves_once = once_counted (leaf_ids (leaves_of_four trees)) (λ id. omega (arith, few id))

  directories_once : AreOnce (directory_ids ds)
  directories_once = once_counted (directory_ids ds) (λ id. omega (arith, few id))

  below_once : AreOnce (((ids_below_all trees.eavt ++ ids_below_all trees.aevt) ++ ids_below_all trees.avet) ++ ids_below_all trees.vaet)
  below_once = subst AreOnce all_below (once_counted (ids_below_all ds) (λ id.
      let whole : count_of id (root_ids trees) ≤ 1 = distinct id in
      let ids : count_of id (root_ids trees) ≡ count_of id (node_ids ds) = ap (count_of id) all_ids in
      omega (arith, whole, ids, count_below id ds)))

  no_leaf : (d : DirectoryNode) → Contains ds d → is_among (leaf_ids (leaves_of_four trees)) d.id ≡ false
  no_leaf d member =
      uncounted_among d.id (leaf_ids (leaves_of_four trees))
      (omega (arith, few d.id, among_counted d.id (directory_ids ds) (mapped_among (λ (x : DirectoryNode). x.id) ds d member)))

  listed_once : (d : DirectoryNode) → Contains ds d → AreOnce (leaf_ids d.leaves)
  listed_once d member = once_counted (leaf_ids d.leaves) (λ id.
      let leaves : count_of id (leaf_ids (leaves_of_four trees))
      ≡ count_of id (leaf_ids (tree_leaves ds)) = ap (λ l. count_of id (leaf_ids l)) all_leaves in
      omega (arith, few id, leaves, count_listed id ds d member))

  -- ---- new leaves

  abbrev with_new : Nodes
  with_new = fold with_leaf nodes (map file_leaf new_leaves)

  leaves_fit : all_over (is_leaf_over written_format) with_leaf nodes (map file_leaf new_leaves) ≡ true
  leaves_fit = leaves_over nodes new_leaves
      (λ leaf member. is_false (is_among (ids_in nodes) leaf.id)
      (kept_member (λ (l : LeafNode). is_new_one l.id) (leaves_of_four trees) leaf member).1)
      (kept_once (λ (l : LeafNode). is_new_one l.id) (λ l. l.id) (leaves_of_four trees) leaves_once)
      (All-filter (λ (l : LeafNode). is_new_one l.id) IsWritableLeaf (leaves_of_four trees) writable.leaves)

  -- ---- new directories

  leaf_part_is : leaf_part with_new ≡ leaf_part nodes ++ leaf_ids new_leaves
  leaf_part_is =
      ap (λ (n : Nodes). map (λ (l : Leaf). l.id) n.leaves) (with_leaves nodes (map file_leaf new_leaves))
      ∙ map-append (λ (l : Leaf). l.id) nodes.leaves (map file_leaf new_leaves)
      ∙ ap (λ l. leaf_part nodes ++ l) (ids_kept new_leaves)
    where
      ids_kept : (ls : List LeafNode) → map (λ (l : Leaf). l.id) (map file_leaf ls) ≡ leaf_ids ls
      ids_kept [] = refl
      ids_kept (l ∷ ls) = ap (λ ids. l.id ∷ ids) (ids_kept ls)

  directory_part_is : directory_part with_new ≡ directory_part nodes
  directory_part_is = ap (λ (n : Nodes). map (λ (d : Directory). d.id) n.directories) (with_leaves nodes (map file_leaf new_leaves))

  not_there_yet : (d : DirectoryNode) → Contains new_directories d → is_among (ids_in with_new) d.id ≡ false
  not_there_yet d member =
      let is = kept_member (λ (x : DirectoryNode). is_new_one x.id) ds d member in
      let none = is_false (is_among (ids_in nodes) d.id) is.1 in
      let parts = ids_parts nodes d.id none in
      let no_new = kept_absent (λ (l : LeafNode). is_new_one l.id) (λ l. l.id) (leaves_of_four trees) d.id (no_leaf d is.0) in
      ids_from with_new d.id
      (ap (λ l. is_among l d.id) leaf_part_is ∙ among-append (leaf_part nodes) (leaf_ids new_leaves) d.id ∙ or_from _ _ parts.0 no_new)
      (ap (λ l. is_among l d.id) directory_part_is ∙ parts.1)

  -- the file's leaves behind the record are those behind its leaves
  same_leaves : (with_nodes nodes (merge_of nodes trees c)).leaves ≡ with_new.leaves
  same_leaves = leaves_with nodes (merge_of nodes trees c)
      ∙ sym (ap (λ (n : Nodes). n.leaves) (with_leaves nodes (map file_leaf new_leaves)))

  leaf_known : (leaf : LeafNode) → Contains (leaves_of_four trees) leaf
      → (leaf.id < 2 ^ 62) × (is_among (leaf_part with_new) leaf.id ≡ true)
  leaf_known leaf member = (
    (All-contains IsWritableLeaf (leaves_of_four trees) leaf writable.leaves member).0,
    mapped_among (λ (l : Leaf). l.id) with_new.leaves (file_leaf leaf)
        (subst (λ l. Contains l (file_leaf leaf)) same_leaves (leaf_there nodes trees c fits leaf member)),
  )

  leaf_in_all : (some : List DirectoryNode) (d : DirectoryNode) (leaf : LeafNode) → Contains some d → Contains d.leaves leaf
      → Contains (tree_leaves some) leaf
  leaf_in_all [] d leaf member inside = absurd (no_member d member)
  leaf_in_all (x ∷ some) d leaf member inside =
      elim (member_cases x d some member) [
        | inl same ↦ Contains-append_left x.leaves (tree_leaves some) leaf
            (subst (λ (y : DirectoryNode). Contains y.leaves leaf) (sym same) inside)
        | inr later ↦ Contains-append_right x.leaves (tree_leaves some) leaf (leaf_in_all some d leaf later inside)
      ]

  writable_directory : (d : DirectoryNode) → Contains ds d → IsWritableDirectory (leaf_part with_new) d
  writable_directory d member =
      let is = All-contains (λ (x : DirectoryNode). (x.id < 2 ^ 62) × (0 < length x.leaves) ×
      (length x.leaves < 513)) ds d writable.directories member in (
        is.0,
        is.1,
        is.2,
        All-made (λ (l : LeafNode). (l.id < 2 ^ 62) × (is_among (leaf_part with_new) l.id ≡ true)) d.leaves
            (λ leaf inside. leaf_known leaf (subst (λ l. Contains l leaf) (sym all_leaves) (leaf_in_all ds d leaf member inside))),
        listed_once d member,
      )

  directories_fit : all_over is_directory_over with_directory with_new (map file_directory new_directories) ≡ true
  directories_fit = directories_over with_new new_directories not_there_yet
      (kept_once (λ (d : DirectoryNode). is_new_one d.id) (λ d. d.id) ds directories_once)
      (All-filter (λ (d : DirectoryNode). is_new_one d.id) (IsWritableDirectory (leaf_part with_new)) ds
      (All-made (IsWritableDirectory (leaf_part with_new)) ds writable_directory))

  -- ---- the nodes behind the record

  abbrev after : Nodes
  after = with_nodes nodes (merge_of nodes trees c)

  after_leaves : leaf_part after ≡ leaf_part nodes ++ leaf_ids new_leaves
  after_leaves = ap (map (λ (l : Leaf). l.id)) same_leaves ∙ leaf_part_is

  after_directories : directory_part after ≡ directory_part nodes ++ directory_ids new_directories
  after_directories =
      ap (map (λ (d : Directory). d.id)) (directories_with nodes (merge_of nodes trees c))
      ∙ map-append (λ (d : Directory). d.id) nodes.directories (map file_directory new_directories)
      ∙ ap (λ l. directory_part nodes ++ l) (ids_kept new_directories)
    where
      ids_kept : (some : List DirectoryNode) → map (λ (d : Directory). d.id) (map file_directory some) ≡ directory_ids some
      ids_kept [] = refl
      ids_kept (d ∷ some) = ap (λ ids. d.id ∷ ids) (ids_kept some)

  -- an id among those of the new ones: one of the elements has it, and the file has not
  new_one : {A : Type 0} (id_of : A → ℕ) (xs : List A) (id : ℕ) → is_among (map id_of (filter (λ x. is_new_one (id_of x)) xs)) id ≡ true
      → (x : A) × Contains xs x × (id_of x ≡ id) × (is_among (ids_in nodes) id ≡ false)
  new_one id_of xs id is =
      let found = among_mapped id_of (filter (λ x. is_new_one (id_of x)) xs) id is in
      let kept = kept_member (λ x. is_new_one (id_of x)) xs found.0 found.1 in
      (found.0, kept.0, found.2, ap (is_among (ids_in nodes)) (sym found.2) ∙ is_false (is_among (ids_in nodes) (id_of found.0)) kept.1)

  new_leaf : (id : ℕ) → is_among (leaf_ids new_leaves) id ≡ true
      → (l : LeafNode) × Contains (leaves_of_four trees) l × (l.id ≡ id) × (is_among (ids_in nodes) id ≡ false)
  new_leaf id is = new_one (λ (l : LeafNode). l.id) (leaves_of_four trees) id is

  new_directory : (id : ℕ) → is_among (directory_ids new_directories) id ≡ true
      → (d : DirectoryNode) × Contains ds d × (d.id ≡ id) × (is_among (ids_in nodes) id ≡ false)
  new_directory id is = new_one (λ (d : DirectoryNode). d.id) ds id is

  clash : (b : Bool) → b ≡ true → b ≡ false → ⊥
  clash b is not_it = true≢false (sym is ∙ not_it)

  no_new_leaf : (id : ℕ) → is_among (leaf_part nodes) id ≡ true → is_among (leaf_ids new_leaves) id ≡ false
  no_new_leaf id is = false_from_ne_true _ (λ new. clash _ is (ids_parts nodes id (new_leaf id new).3).0)

  no_new_directory : (id : ℕ) → is_among (directory_part nodes) id ≡ true → is_among (directory_ids new_directories) id ≡ false
  no_new_directory id is = false_from_ne_true _ (λ new. clash _ is (ids_parts nodes id (new_directory id new).3).1)

  crossed : (id : ℕ) → is_among (leaf_part nodes ++ leaf_ids new_leaves) id ≡ true
      → is_among (directory_part nodes ++ directory_ids new_directories) id ≡ false
  crossed id is =
      among-append (directory_part nodes) (directory_ids new_directories) id
      ∙ elim (or_cases (is_among (leaf_part nodes) id) (is_among (leaf_ids new_leaves) id)
      (sym (among-append (leaf_part nodes) (leaf_ids new_leaves) id) ∙ is)) [
        | inl old ↦ or_from _ _ (once_apart (leaf_part nodes) (directory_part nodes) once_nodes id old)
            (false_from_ne_true _ (λ new. clash _ old (ids_parts nodes id (new_directory id new).3).0))
        | inr fresh ↦ or_from _ _ (ids_parts nodes id (new_leaf id fresh).3).1
            (false_from_ne_true _ (λ new.
            let leaf = new_leaf id fresh in
            let d = new_directory id new in
            clash _ (mapped_among (λ (l : LeafNode). l.id) (leaves_of_four trees) leaf.0 leaf.1)
            (ap (is_among (leaf_ids (leaves_of_four trees))) (leaf.2 ∙ sym d.2) ∙ no_leaf d.0 d.1)))
      ]

  after_once : AreOnce (ids_in after)
  after_once = subst AreOnce (λ i. sym after_leaves i ++ sym after_directories i)
      (once_join (leaf_part nodes ++ leaf_ids new_leaves) (directory_part nodes ++ directory_ids new_directories)
      (once_join (leaf_part nodes) (leaf_ids new_leaves) (once_front (leaf_part nodes) (directory_part nodes) once_nodes)
      (kept_once (λ (l : LeafNode). is_new_one l.id) (λ l. l.id) (leaves_of_four trees) leaves_once) no_new_leaf)
      (once_join (directory_part nodes) (directory_ids new_directories) (once_back (leaf_part nodes) (directory_part nodes) once_nodes)
      (kept_once (λ (d : DirectoryNode). is_new_one d.id) (λ d. d.id) ds directories_once) no_new_directory)
      crossed)

  named : (some : List DirectoryNode) → ((d : DirectoryNode) → Contains some d → Contains ds d)
      → All (λ (d : DirectoryNode). (d.id < 2 ^ 62) × Contains after.directories (file_directory d)) some
  named some within = All-made (λ (d : DirectoryNode). (d.id < 2 ^ 62) × Contains after.directories (file_directory d)) some (λ d member. (
    (All-contains (λ (x : DirectoryNode). (x.id < 2 ^ 62) × (0 < length x.leaves) × (length x.leaves < 513)) ds d writable.directories
        (within d member)).0,
    directory_there nodes trees c fits d (within d member),
  ))

  roots_fit : all_over (is_root_over after) (fold (reaching after)) [] (in_order_of_indexes (roots_of trees)) ≡ true
  roots_fit =
      let front = length-append trees.eavt trees.aevt in
      let most = length-append (trees.eavt ++ trees.aevt) trees.avet in
      let whole = length-append (trees.eavt ++ trees.aevt ++ trees.avet) trees.vaet in
      let room = writable.directories_few in
      roots_over after after_once trees.eavt trees.aevt trees.avet trees.vaet
      (omega (arith, front, most, whole, room)) (omega (arith, front, most, whole, room)) (omega (arith, front, most, whole, room))
      (omega (arith, front, most, whole, room))
      (named trees.eavt (λ d. first_of_four trees.eavt trees.aevt trees.avet trees.vaet d))
      (named trees.aevt (λ d. second_of_four trees.eavt trees.aevt trees.avet trees.vaet d))
      (named trees.avet (λ d. third_of_four trees.eavt trees.aevt trees.avet trees.vaet d))
      (named trees.vaet (λ d. fourth_of_four trees.eavt trees.aevt trees.avet trees.vaet d))
      below_once

  pub record_over : c < 2 ^ 32 → IsRecordOf nodes (merge_of nodes trees c) (record_bytes_in written_format (merge_of nodes trees c))
  record_over small =
      let few_leaves : is_u32 (length (map file_leaf new_leaves)) ≡ true = lt-ltb _ (2 ^ 32)
      (omega (
        arith,
        writable.leaves_few,
        length-map new_leaves file_leaf,
        kept_shorter (λ (l : LeafNode). is_new_one l.id)
            (leaves_of_four trees),
      )) in
      let few_directories : is_u32 (length (map file_directory new_directories)) ≡ true = lt-ltb _ (2 ^ 32)
      (omega (
        arith,
        writable.directories_few,
        length-map new_directories file_directory,
        kept_shorter
            (λ (d : DirectoryNode). is_new_one d.id) ds,
      )) in
      record {
        format = written_format;
        format_is = refl;
        storable = and_from _ _
            (and_from _ _
            (and_from _ _ (lt-ltb c (2 ^ 32) small) (and_from _ _ (and_from _ _ few_leaves few_leaves) leaves_fit))
            (and_from _ _ (and_from _ _ few_directories few_directories) directories_fit))
            roots_fit;
        bytes = refl;
      }
