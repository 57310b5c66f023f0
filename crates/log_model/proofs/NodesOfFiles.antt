-- The nodes of a file: one more record, ids that stand once, and trees that later nodes leave alone.
use Rattle.std.proofs.Common.{◌≡◌, ◌<◌, ℕ, zero, suc, Bool, true, false, cond, not, List, [], ◌∷◌, ◌++◌, length, map, refl, sym, ◌∙◌, ap}
use Rattle.std.proofs.Common.{subst, arith, inl, inr, ◌⊎◌, append_assoc, length-append}
use Rattle.std.specs.Prelude.{filter, flat_map, fold, nat_eq, slice_index_or, Contains}
use Rattle.std.specs.List.{IsDistinct, AllByRecursion}
use Rattle.std.proofs.lemmas.Bool.{true≢false, and_parts, and_from, eqb-true, eq-eqb, eqb-false, ne_eqb, or_parts, or_left, or_right}
use Rattle.std.proofs.lemmas.Bool.{or_cases}
use Rattle.std.proofs.lemmas.List.{append-nil, map-append}
use Rattle.std.proofs.lemmas.List.Elements.{All-contains, Contains-append_left, Contains-append_right, filter-append}
use Rattle.log_model.specs.Fields.{Reading, found, and_then, mapped, that_fits, read_u8, read_u32, read_u64}
use Rattle.log_model.specs.Values.{is_format}
use Rattle.log_model.specs.Storable.{is_u32}
use Rattle.log_model.specs.Nodes.{Leaf, Directory, Nodes, no_nodes, MergeRecord, ids_in, is_among, is_new_id, with_leaf, with_directory}
use Rattle.log_model.specs.Nodes.{ids_below, is_node_length, is_leaf_id}
use Rattle.log_model.specs.Merges.{several_over, read_list, read_dated, read_leaf, read_directory, read_roots, read_record_fields}
use Rattle.log_model.specs.Merges.{read_record, MergeSays, merges, bad_from, record_says, all_over}
use Rattle.log_model.specs.Kept.{with_nodes, leaf_datoms, directory_datoms, tree_datoms, kept_root, kept_by, kept_behind, kept_roots}
use Rattle.log_model.specs.Kept.{nodes_by, nodes_behind, nodes_of, are_good, HasTree}
use Rattle.log_model.proofs.Fields.{IsFound, then-found, mapped-found, fits-found}
use Rattle.log_model.proofs.Entries.{at_end-found}
use Rattle.log_model.proofs.MergeRecords.{merge_said_by-merges}

-- ---- one more record

abbrev are_good_behind : Nodes → List (List ℕ) → Bool
are_good_behind nodes records = nat_eq (length (kept_behind nodes records)) (length records)

-- behind good records the file goes on with their nodes
record GoesOn (nodes : Nodes) (records more : List (List ℕ)) : Type 0 where
  roots : kept_behind nodes (records ++ more) ≡ kept_behind nodes records ++ kept_behind (nodes_behind nodes records) more
  nodes_are : nodes_behind nodes (records ++ more) ≡ nodes_behind (nodes_behind nodes records) more

module _ (nodes : Nodes) (records more : List (List ℕ)) where
  -- the same of a record in front of the others
  abbrev Both : MergeSays → Type 0
  Both said =
      (kept_by nodes said (λ next. kept_behind next (records ++ more))
      ≡ kept_by nodes said (λ next. kept_behind next records) ++ kept_behind (nodes_by nodes said (λ next. nodes_behind next records)) more)
      × (nodes_by nodes said (λ next. nodes_behind next (records ++ more))
      ≡ nodes_behind (nodes_by nodes said (λ next. nodes_behind next records)) more)

goes_on : (nodes : Nodes) (records more : List (List ℕ)) → are_good_behind nodes records ≡ true → GoesOn nodes records more
goes_on nodes [] more good = record { roots = refl; nodes_are = refl }
goes_on nodes (payload ∷ records) more good =
    let rest = both (record_says nodes payload) (λ next. goes_on next records more) good in
    record { roots = rest.0; nodes_are = rest.1 }
  where
    both : (said : MergeSays) → ((next : Nodes) → are_good_behind next records ≡ true → GoesOn next records more)
        → nat_eq (length (kept_by nodes said (λ next. kept_behind next records))) (length (payload ∷ records)) ≡ true
        → Both nodes records more said
    both (merges merge) each is =
        let next = with_nodes nodes merge in
        let counted : suc (length (kept_behind next records)) ≡ suc (length records) = eqb-true _ _ is in
        let rest = each next (eq-eqb _ _ (omega (arith, counted))) in
        (ap (λ l. kept_root next merge ∷ l) rest.roots, rest.nodes_are)
    both (bad_from byte) each is = let none : 0 ≡ suc (length records) = eqb-true _ _ is in absurd (omega arith)

pub one_more_root : (records : List (List ℕ)) (payload : List ℕ) (merge : MergeRecord) → are_good records ≡ true
    → record_says (nodes_of records) payload ≡ merges merge
    → kept_roots (records ++ payload ∷ []) ≡ kept_roots records ++ kept_root (with_nodes (nodes_of records) merge) merge ∷ []
one_more_root records payload merge good says =
    (goes_on no_nodes records (payload ∷ []) good).roots
    ∙ ap (λ said. kept_roots records ++ kept_by (nodes_of records) said (λ next. [])) says

pub one_more_nodes : (records : List (List ℕ)) (payload : List ℕ) (merge : MergeRecord) → are_good records ≡ true
    → record_says (nodes_of records) payload ≡ merges merge
    → nodes_of (records ++ payload ∷ []) ≡ with_nodes (nodes_of records) merge
one_more_nodes records payload merge good says =
    (goes_on no_nodes records (payload ∷ []) good).nodes_are
    ∙ ap (λ said. nodes_by (nodes_of records) said (λ next. next)) says

pub one_more_good : (records : List (List ℕ)) (payload : List ℕ) (merge : MergeRecord) → are_good records ≡ true
    → record_says (nodes_of records) payload ≡ merges merge
    → are_good (records ++ payload ∷ []) ≡ true
one_more_good records payload merge good says =
    let counted = eqb-true (length (kept_roots records)) (length records) good in
    eq-eqb _ _ (ap length (one_more_root records payload merge good says)
    ∙ omega (
      arith,
      counted,
      length-append (kept_roots records)
          (kept_root (with_nodes (nodes_of records) merge) merge ∷ []),
      length-append records (payload ∷ []),
    ))

-- a bad record adds nothing, and neither does what stands behind it
stops : (nodes : Nodes) (records : List (List ℕ)) (payload : List ℕ) (byte : ℕ) (more : List (List ℕ))
    → record_says (nodes_behind nodes records) payload ≡ bad_from byte
    → (kept_behind nodes (records ++ payload ∷ more) ≡ kept_behind nodes records)
    × (nodes_behind nodes (records ++ payload ∷ more) ≡ nodes_behind nodes records)
stops nodes [] payload byte more bad = (
  ap (λ said. kept_by nodes said (λ next. kept_behind next more)) bad,
  ap
      (λ said. nodes_by nodes said (λ next. nodes_behind next more)) bad,
)
stops nodes (first ∷ records) payload byte more bad = go (record_says nodes first) (λ next. stops next records payload byte more) bad
  where
    go : (said : MergeSays) → ((next : Nodes) → record_says (nodes_behind next records) payload ≡ bad_from byte
        → (kept_behind next (records ++ payload ∷ more) ≡ kept_behind next records)
        × (nodes_behind next (records ++ payload ∷ more) ≡ nodes_behind next records))
        → record_says (nodes_by nodes said (λ next. nodes_behind next records)) payload ≡ bad_from byte
        → (kept_by nodes said (λ next. kept_behind next (records ++ payload ∷ more))
        ≡ kept_by nodes said (λ next. kept_behind next records))
        × (nodes_by nodes said (λ next. nodes_behind next (records ++ payload ∷ more))
        ≡ nodes_by nodes said (λ next. nodes_behind next records))
    go (merges merge) each is =
        let rest = each (with_nodes nodes merge) is in
        (ap (λ l. kept_root (with_nodes nodes merge) merge ∷ l) rest.0, rest.1)
    go (bad_from at) each is = (refl, refl)

pub bad_record_stops : (records : List (List ℕ)) (payload : List ℕ) (byte : ℕ) (more : List (List ℕ))
    → record_says (nodes_of records) payload ≡ bad_from byte
    → (kept_roots (records ++ payload ∷ more) ≡ kept_roots records) × (nodes_of (records ++ payload ∷ more) ≡ nodes_of records)
bad_record_stops records payload byte more bad = stops no_nodes records payload byte more bad

-- ---- what is read passes its test, whatever the bytes are

abbrev Passes : {A : Type 0} → (List ℕ → Reading A) → (A → Bool) → Type 0
Passes {A} read test = (bytes : List ℕ) (a : A) (rest : List ℕ) → IsFound (read bytes) a rest → test a ≡ true

module _ {S A : Type 0} (read : S → List ℕ → Reading A) (test : S → A → Bool) (after : S → A → S) where
  several-pass : ((s : S) → Passes (read s) (test s)) → (n : ℕ) (s : S) → Passes (several_over read after s n) (all_over test after s)
  several-pass each zero s bytes items rest is = ap (all_over test after s) (sym is.0)
  several-pass each (suc n) s bytes items rest is =
      let cut = then-found (read s bytes)
      (λ a behind. mapped (λ more. a ∷ more) (several_over read after (after s a) n behind)) items rest is in
      let back = mapped-found (λ more. cut.0 ∷ more) (several_over read after (after s cut.0) n cut.1) items rest cut.3 in
      ap (all_over test after s) (sym back.2)
      ∙ and_from (test s cut.0) (all_over test after (after s cut.0) back.0) (each s bytes cut.0 cut.1 cut.2)
      (several-pass each n (after s cut.0) cut.1 back.0 rest back.1)

  list-passes : ((s : S) → Passes (read s) (test s)) → (fits : ℕ → Bool) (s : S)
      → Passes (read_list fits read after s) (all_over test after s)
  list-passes each fits s bytes items rest is =
      let cut = then-found (that_fits fits read_u32 bytes) (several_over read after s) items rest is in
      several-pass each cut.0 s cut.1 items rest cut.3

-- an id that is read first
id-passes : {A : Type 0} (test : ℕ → Bool) (next : ℕ → List ℕ → Reading A) (bytes : List ℕ) (a : A) (rest : List ℕ)
    → IsFound (and_then (that_fits test read_u64 bytes) next) a rest
    → (id : ℕ) × (behind : List ℕ) × (test id ≡ true) × IsFound (next id behind) a rest
id-passes test next bytes a rest is =
    let cut = then-found (that_fits test read_u64 bytes) next a rest is in
    let fits = fits-found test read_u64 bytes cut.0 cut.1 cut.2 in
    (cut.0, cut.1, fits.1, cut.3)

abbrev is_new_leaf : Nodes → Leaf → Bool
is_new_leaf nodes leaf = is_new_id nodes leaf.id

abbrev is_new_directory : Nodes → Directory → Bool
is_new_directory nodes directory = is_new_id nodes directory.id

leaf-passes : (format : ℕ) (nodes : Nodes) → Passes (read_leaf format nodes) (is_new_leaf nodes)
leaf-passes format nodes bytes leaf rest is =
    let read = read_list is_node_length (λ (_ : Nodes) behind. read_dated format behind) (λ s _. s) nodes in
    let first = id-passes (is_new_id nodes)
    (λ id behind. mapped (λ datoms. record { id = id; datoms = datoms }) (read behind)) bytes leaf rest is in
    let back = mapped-found (λ datoms. record { id = first.0; datoms = datoms }) (read first.1) leaf rest first.3 in
    ap (is_new_leaf nodes) (sym back.2) ∙ first.2

directory-passes : (nodes : Nodes) → Passes (read_directory nodes) (is_new_directory nodes)
directory-passes nodes bytes directory rest is =
    let read = read_list is_node_length (λ before behind. that_fits (is_leaf_id nodes before) read_u64 behind)
    (λ before leaf. before ++ leaf ∷ []) [] in
    let first = id-passes (is_new_id nodes)
    (λ id behind. mapped (λ leaves. record { id = id; leaves = leaves }) (read behind)) bytes directory rest is in
    let back = mapped-found (λ leaves. record { id = first.0; leaves = leaves }) (read first.1) directory rest first.3 in
    ap (is_new_directory nodes) (sym back.2) ∙ first.2

-- the record's nodes are new ones
record HasNewNodes (nodes : Nodes) (merge : MergeRecord) : Type 0 where
  leaves : all_over is_new_leaf with_leaf nodes merge.leaves ≡ true
  directories : all_over is_new_directory with_directory (fold with_leaf nodes merge.leaves) merge.directories ≡ true

fields-new : (nodes : Nodes) (format : ℕ) (bytes : List ℕ) (merge : MergeRecord) (rest : List ℕ)
    → IsFound (read_record_fields nodes format bytes) merge rest → HasNewNodes nodes merge
fields-new nodes format bytes merge rest is =
    let at_c = then-found (read_u32 bytes) _ merge rest is in
    let at_leaves = then-found (read_list is_u32 (read_leaf format) with_leaf nodes at_c.1) _ merge rest at_c.3 in
    let at_directories = then-found (read_list is_u32 read_directory with_directory
    (fold with_leaf nodes at_leaves.0) at_leaves.1) _ merge rest at_leaves.3 in
    let at_roots = then-found (read_roots (fold with_directory (fold with_leaf nodes at_leaves.0) at_directories.0) at_directories.1)
    (λ roots behind. found
    (record { c = at_c.0; leaves = at_leaves.0; directories = at_directories.0; roots = roots }) behind) merge rest at_directories.3 in
    let made : MergeRecord = record { c = at_c.0; leaves = at_leaves.0; directories = at_directories.0; roots = at_roots.0 } in
    let made_is : made ≡ merge = at_roots.3.0 in
    subst (HasNewNodes nodes) made_is (record {
      leaves = list-passes (read_leaf format) is_new_leaf with_leaf
          (leaf-passes format) is_u32 nodes at_c.1 at_leaves.0 at_leaves.1 at_leaves.2;
      directories = list-passes read_directory is_new_directory with_directory directory-passes is_u32
          (fold with_leaf nodes at_leaves.0) at_leaves.1 at_directories.0 at_directories.1 at_directories.2;
    })

says-new : (nodes : Nodes) (payload : List ℕ) (merge : MergeRecord) → record_says nodes payload ≡ merges merge → HasNewNodes nodes merge
says-new nodes payload merge says =
    let back = merge_said_by-merges payload (read_record nodes payload) merge says in
    let ended = at_end-found (and_then (that_fits is_format read_u8 payload) (read_record_fields nodes)) merge back.0 back.1 in
    let cut = then-found (that_fits is_format read_u8 payload) (read_record_fields nodes) merge [] ended.0 in
    fields-new nodes cut.0 cut.1 merge [] cut.3

-- ---- no two nodes have one id

abbrev AreDistinct : List ℕ → Type 0
AreDistinct ids = IsDistinct nat_eq ids

other_way : (a b : ℕ) → nat_eq a b ≡ false → nat_eq b a ≡ false
other_way a b apart = ne_eqb b a (λ same. eqb-false a b apart (sym same))

apart_from_all : (id : ℕ) (ids : List ℕ) → is_among ids id ≡ false → AllByRecursion (λ other. nat_eq id other ≡ false) ids
apart_from_all id [] new = tt
apart_from_all id (other ∷ ids) new = let parts = or_parts (nat_eq id other) (is_among ids id) new in
    (parts.0, apart_from_all id ids parts.1)

between : (first id : ℕ) (before behind : List ℕ) → nat_eq first id ≡ false
    → AllByRecursion (λ other. nat_eq first other ≡ false) (before ++ behind)
    → AllByRecursion (λ other. nat_eq first other ≡ false) (before ++ id ∷ behind)
between first id [] behind apart every = (apart, every)
between first id (other ∷ before) behind apart every = (every.0, between first id before behind apart every.1)

distinct_with : (id : ℕ) (before behind : List ℕ) → AreDistinct (before ++ behind) → is_among (before ++ behind) id ≡ false
    → AreDistinct (before ++ id ∷ behind)
unfolding IsDistinct
distinct_with id [] behind distinct new = (apart_from_all id behind new, distinct)
distinct_with id (first ∷ before) behind distinct new =
    let parts = or_parts (nat_eq id first) (is_among (before ++ behind) id) new in
    (between first id before behind (other_way id first parts.0) distinct.0, distinct_with id before behind distinct.1 parts.1)

is_not : (b : Bool) → not b ≡ true → b ≡ false
is_not false is = refl
is_not true is = absurd (true≢false (sym is))

new-apart : (nodes : Nodes) (id : ℕ) → is_new_id nodes id ≡ true → is_among (ids_in nodes) id ≡ false
new-apart nodes id new = is_not (is_among (ids_in nodes) id) (and_parts _ _ new).1

module _ (nodes : Nodes) where
  abbrev leaf_ids : List ℕ
  leaf_ids = map (λ (leaf : Leaf). leaf.id) nodes.leaves

  abbrev directory_ids : List ℕ
  directory_ids = map (λ (directory : Directory). directory.id) nodes.directories

  -- a leaf's id stands behind those of the leaves, and a directory's behind all
  ids-leaf : (leaf : Leaf) → ids_in (with_leaf nodes leaf) ≡ leaf_ids ++ leaf.id ∷ directory_ids
  ids-leaf leaf = ap (λ l. l ++ directory_ids) (map-append (λ (x : Leaf). x.id) nodes.leaves (leaf ∷ []))
      ∙ append_assoc leaf_ids (leaf.id ∷ []) directory_ids

  ids-directory : (directory : Directory) → ids_in (with_directory nodes directory) ≡ ids_in nodes ++ directory.id ∷ []
  ids-directory directory =
      ap (λ l. leaf_ids ++ l) (map-append (λ (x : Directory). x.id) nodes.directories (directory ∷ []))
      ∙ sym (append_assoc leaf_ids directory_ids (directory.id ∷ []))

  distinct-leaf : (leaf : Leaf) → AreDistinct (ids_in nodes) → is_new_id nodes leaf.id ≡ true → AreDistinct (ids_in (with_leaf nodes leaf))
  distinct-leaf leaf distinct new = subst AreDistinct (sym (ids-leaf leaf))
      (distinct_with leaf.id leaf_ids directory_ids distinct (new-apart nodes leaf.id new))

  distinct-directory : (directory : Directory) → AreDistinct (ids_in nodes) → is_new_id nodes directory.id ≡ true
      → AreDistinct (ids_in (with_directory nodes directory))
  distinct-directory directory distinct new =
      subst AreDistinct (sym (ids-directory directory))
      (distinct_with directory.id (ids_in nodes) [] (subst AreDistinct (sym (append-nil (ids_in nodes))) distinct)
      (ap (λ l. is_among l directory.id) (append-nil (ids_in nodes)) ∙ new-apart nodes directory.id new))

distinct-leaves : (nodes : Nodes) (leaves : List Leaf) → AreDistinct (ids_in nodes) → all_over is_new_leaf with_leaf nodes leaves ≡ true
    → AreDistinct (ids_in (fold with_leaf nodes leaves))
distinct-leaves nodes [] distinct every = distinct
distinct-leaves nodes (leaf ∷ leaves) distinct every =
    let parts = and_parts (is_new_leaf nodes leaf) (all_over is_new_leaf with_leaf (with_leaf nodes leaf) leaves) every in
    distinct-leaves (with_leaf nodes leaf) leaves (distinct-leaf nodes leaf distinct parts.0) parts.1

distinct-directories : (nodes : Nodes) (directories : List Directory) → AreDistinct (ids_in nodes)
    → all_over is_new_directory with_directory nodes directories ≡ true
    → AreDistinct (ids_in (fold with_directory nodes directories))
distinct-directories nodes [] distinct every = distinct
distinct-directories nodes (directory ∷ directories) distinct every =
    let parts = and_parts (is_new_directory nodes directory)
    (all_over is_new_directory with_directory (with_directory nodes directory) directories) every in
    distinct-directories (with_directory nodes directory) directories (distinct-directory nodes directory distinct parts.0) parts.1

pub distinct-with : (nodes : Nodes) (payload : List ℕ) (merge : MergeRecord) → AreDistinct (ids_in nodes)
    → record_says nodes payload ≡ merges merge → AreDistinct (ids_in (with_nodes nodes merge))
distinct-with nodes payload merge distinct says =
    let new = says-new nodes payload merge says in
    distinct-directories (fold with_leaf nodes merge.leaves) merge.directories
    (distinct-leaves nodes merge.leaves distinct new.leaves) new.directories

distinct-behind : (nodes : Nodes) (records : List (List ℕ)) → AreDistinct (ids_in nodes) → AreDistinct (ids_in (nodes_behind nodes records))
distinct-behind nodes [] distinct = distinct
distinct-behind nodes (payload ∷ records) distinct = go (record_says nodes payload) refl (λ next. distinct-behind next records)
  where
    go : (said : MergeSays) → record_says nodes payload ≡ said
        → ((next : Nodes) → AreDistinct (ids_in next) → AreDistinct (ids_in (nodes_behind next records)))
        → AreDistinct (ids_in (nodes_by nodes said (λ next. nodes_behind next records)))
    go (merges merge) is each = each (with_nodes nodes merge) (distinct-with nodes payload merge distinct is)
    go (bad_from byte) is each = distinct

pub distinct-nodes : (records : List (List ℕ)) → AreDistinct (ids_in (nodes_of records))
unfolding IsDistinct
distinct-nodes records = distinct-behind no_nodes records tt

-- ---- trees that later nodes leave alone

cons_cases : (x y : ℕ) (xs : List ℕ) → Contains (x ∷ xs) y → (x ≡ y) ⊎ Contains xs y
cons_cases x y xs member = go member.0 member.1 member.2
  where
    go : (k : ℕ) → k < length (x ∷ xs) → slice_index_or (x ∷ xs) k y ≡ y → (x ≡ y) ⊎ Contains xs y
    go zero below is = inl is
    go (suc k) below is = inr (k, omega arith, is)

among : (ids : List ℕ) (id : ℕ) → Contains ids id → is_among ids id ≡ true
among [] id member = absurd (omega (arith, member.1))
among (other ∷ ids) id member =
    elim (cons_cases other id ids member) [
      | inl same ↦ or_left _ _ (eq-eqb id other (sym same))
      | inr later ↦ or_right _ _
          (among ids id later)
    ]

among_more : (before behind : List ℕ) (new id : ℕ) → is_among (before ++ behind) id ≡ true → is_among (before ++ new ∷ behind) id ≡ true
among_more [] behind new id is = or_right _ _ is
among_more (other ∷ before) behind new id is =
    elim (or_cases (nat_eq id other) (is_among (before ++ behind) id) is) [
      | inl same ↦ or_left _ _ same
      | inr later ↦ or_right _ _
          (among_more before behind new id later)
    ]

flat_map-same : {A : Type 0} (f g : ℕ → List A) (ids : List ℕ) → ((id : ℕ) → Contains ids id → f id ≡ g id)
    → flat_map f ids ≡ flat_map g ids
flat_map-same f g [] same = refl
flat_map-same f g (id ∷ ids) same =
    (λ i. same id (Contains-append_left (id ∷ []) ids id (0, omega arith, refl)) i ++ flat_map-same f g ids
    (λ other member. same other (Contains-append_right (id ∷ []) ids other member)) i)

-- the tree's ids are among those of the nodes
abbrev Has : Nodes → List ℕ → Type 0
Has nodes [] = Unit {0}
Has nodes (id ∷ ids) = ((below : ℕ) → Contains (ids_below nodes id) below → is_among (ids_in nodes) below ≡ true) × Has nodes ids

Has-tree : (nodes : Nodes) (ids : List ℕ) → HasTree nodes ids → Has nodes ids
Has-tree nodes ids is = each ids (λ below member. among (ids_in nodes) below (All-contains (Contains (ids_in nodes)) (flat_map
    (ids_below nodes) ids) below is member))
  where
    each : (some : List ℕ) → ((below : ℕ) → Contains (flat_map (ids_below nodes) some) below → is_among (ids_in nodes) below ≡ true)
        → Has nodes some
    each [] has = tt
    each (id ∷ some) has = (
      (λ below member. has below (Contains-append_left (ids_below nodes id) (flat_map (ids_below nodes) some) below member)),
      each some (λ below member. has below (Contains-append_right (ids_below nodes id) (flat_map (ids_below nodes) some) below member)),
    )

apart_from : (nodes : Nodes) (new id : ℕ) → is_new_id nodes new ≡ true → is_among (ids_in nodes) id ≡ true → nat_eq new id ≡ false
apart_from nodes new id is_new has = ne_eqb new id
    (λ same. true≢false (sym has ∙ ap (is_among (ids_in nodes)) (sym same) ∙ new-apart nodes new is_new))

-- the nodes still have the tree, and its datoms are the same
record Leaves (nodes after : Nodes) (ids : List ℕ) : Type 0 where
  has : Has after ids
  datoms : tree_datoms after ids ≡ tree_datoms nodes ids

module _ (nodes : Nodes) (leaf : Leaf) (new : is_new_id nodes leaf.id ≡ true) where
  leaf_same : (id : ℕ) → is_among (ids_in nodes) id ≡ true → leaf_datoms (with_leaf nodes leaf) id ≡ leaf_datoms nodes id
  leaf_same id has =
      ap (flat_map (λ (l : Leaf). l.datoms))
      (filter-append (λ (l : Leaf). nat_eq l.id id) nodes.leaves (leaf ∷ [])
      ∙ ap (λ b. filter (λ (l : Leaf). nat_eq l.id id) nodes.leaves ++ cond b (leaf ∷ []) []) (apart_from nodes leaf.id id new has)
      ∙ append-nil (filter (λ (l : Leaf). nat_eq l.id id) nodes.leaves))

  leaves_leaf : (ids : List ℕ) → Has nodes ids → Leaves nodes (with_leaf nodes leaf) ids
  leaves_leaf [] has = record { has = tt; datoms = refl }
  leaves_leaf (id ∷ ids) has =
      let rest = leaves_leaf ids has.1 in
      let lists = flat_map (λ (directory : Directory). directory.leaves)
      (filter (λ (directory : Directory). nat_eq directory.id id) nodes.directories) in
      let first : directory_datoms (with_leaf nodes leaf) id ≡ directory_datoms nodes id =
      flat_map-same (leaf_datoms (with_leaf nodes leaf)) (leaf_datoms nodes) lists
      (λ below member. leaf_same below (has.0 below (Contains-append_right (id ∷ []) lists below member))) in
      record {
        has = (
          (λ below member.
              subst (λ l. is_among l below ≡ true) (sym (ids-leaf nodes leaf))
              (among_more (leaf_ids nodes) (directory_ids nodes) leaf.id below (has.0 below member))),
          rest.has,
        );
        datoms = λ i. first i ++ rest.datoms i;
      }

module _ (nodes : Nodes) (directory : Directory) (new : is_new_id nodes directory.id ≡ true) where
  abbrev found_by : ℕ → List Directory
  found_by id = filter (λ (other : Directory). nat_eq other.id id) nodes.directories

  found_same : (id : ℕ) → is_among (ids_in nodes) id ≡ true
      → filter (λ (other : Directory). nat_eq other.id id) (with_directory nodes directory).directories ≡ found_by id
  found_same id has =
      filter-append (λ (other : Directory). nat_eq other.id id) nodes.directories (directory ∷ [])
      ∙ ap (λ b. found_by id ++ cond b (directory ∷ []) []) (apart_from nodes directory.id id new has)
      ∙ append-nil (found_by id)

  leaves_directory : (ids : List ℕ) → Has nodes ids → Leaves nodes (with_directory nodes directory) ids
  leaves_directory [] has = record { has = tt; datoms = refl }
  leaves_directory (id ∷ ids) has =
      let rest = leaves_directory ids has.1 in
      let lists = flat_map (λ (other : Directory). other.leaves) (found_by id) in
      let same = found_same id (has.0 id (Contains-append_left (id ∷ []) lists id (0, omega arith, refl))) in
      let first : directory_datoms (with_directory nodes directory) id ≡ directory_datoms nodes id =
      ap (λ l. flat_map (leaf_datoms nodes) (flat_map (λ (other : Directory). other.leaves) l)) same in
      let ids_same : ids_below (with_directory nodes directory) id
      ≡ ids_below nodes id = ap (λ l. id ∷ flat_map (λ (other : Directory). other.leaves) l) same in
      record {
        has = (
          (λ below member.
              subst (λ l. is_among l below ≡ true) (sym (ids-directory nodes directory))
              (among_more (ids_in nodes) [] directory.id below
              (ap (λ l. is_among l below) (append-nil (ids_in nodes)) ∙ has.0 below (subst (λ l. Contains l below) ids_same member)))),
          rest.has,
        );
        datoms = λ i. first i ++ rest.datoms i;
      }

leaves-then : (nodes mid after : Nodes) (ids : List ℕ) → Leaves nodes mid ids → Leaves mid after ids → Leaves nodes after ids
leaves-then nodes mid after ids first second = record { has = second.has; datoms = second.datoms ∙ first.datoms }

leaves_leaves : (nodes : Nodes) (leaves : List Leaf) (ids : List ℕ) → all_over is_new_leaf with_leaf nodes leaves ≡ true → Has nodes ids
    → Leaves nodes (fold with_leaf nodes leaves) ids
leaves_leaves nodes [] ids every has = record { has = has; datoms = refl }
leaves_leaves nodes (leaf ∷ leaves) ids every has =
    let parts = and_parts (is_new_leaf nodes leaf) (all_over is_new_leaf with_leaf (with_leaf nodes leaf) leaves) every in
    let first = leaves_leaf nodes leaf parts.0 ids has in
    leaves-then nodes (with_leaf nodes leaf) (fold with_leaf (with_leaf nodes leaf) leaves) ids first
    (leaves_leaves (with_leaf nodes leaf) leaves ids parts.1 first.has)

leaves_directories : (nodes : Nodes) (directories : List Directory) (ids : List ℕ)
    → all_over is_new_directory with_directory nodes directories ≡ true → Has nodes ids
    → Leaves nodes (fold with_directory nodes directories) ids
leaves_directories nodes [] ids every has = record { has = has; datoms = refl }
leaves_directories nodes (directory ∷ directories) ids every has =
    let parts = and_parts (is_new_directory nodes directory)
    (all_over is_new_directory with_directory (with_directory nodes directory) directories) every in
    let first = leaves_directory nodes directory parts.0 ids has in
    leaves-then nodes (with_directory nodes directory) (fold with_directory (with_directory nodes directory) directories) ids first
    (leaves_directories (with_directory nodes directory) directories ids parts.1 first.has)

leaves_record : (nodes : Nodes) (payload : List ℕ) (merge : MergeRecord) (ids : List ℕ) → record_says nodes payload ≡ merges merge
    → Has nodes ids → Leaves nodes (with_nodes nodes merge) ids
leaves_record nodes payload merge ids says has =
    let new = says-new nodes payload merge says in
    let first = leaves_leaves nodes merge.leaves ids new.leaves has in
    leaves-then nodes (fold with_leaf nodes merge.leaves) (with_nodes nodes merge) ids first
    (leaves_directories (fold with_leaf nodes merge.leaves) merge.directories ids new.directories first.has)

pub one_record_changes_no_tree : (nodes : Nodes) (payload : List ℕ) (merge : MergeRecord) (ids : List ℕ)
    → record_says nodes payload ≡ merges merge → HasTree nodes ids
    → tree_datoms (with_nodes nodes merge) ids ≡ tree_datoms nodes ids
one_record_changes_no_tree nodes payload merge ids says has = (leaves_record nodes payload merge ids says (Has-tree nodes ids has)).datoms

leaves_behind : (nodes : Nodes) (records : List (List ℕ)) (ids : List ℕ) → Has nodes ids → Leaves nodes (nodes_behind nodes records) ids
leaves_behind nodes [] ids has = record { has = has; datoms = refl }
leaves_behind nodes (payload ∷ records) ids has = go (record_says nodes payload) refl (λ next. leaves_behind next records ids)
  where
    go : (said : MergeSays) → record_says nodes payload ≡ said
        → ((next : Nodes) → Has next ids → Leaves next (nodes_behind next records) ids)
        → Leaves nodes (nodes_by nodes said (λ next. nodes_behind next records)) ids
    go (merges merge) is each =
        let first = leaves_record nodes payload merge ids is has in
        leaves-then nodes (with_nodes nodes merge) (nodes_behind (with_nodes nodes merge) records) ids first
        (each (with_nodes nodes merge) first.has)
    go (bad_from byte) is each = record { has = has; datoms = refl }

-- the nodes of more records: as behind the records where these are good, and else those of the records
behind_or_same : (nodes : Nodes) (records more : List (List ℕ))
    → (nodes_behind nodes (records ++ more) ≡ nodes_behind (nodes_behind nodes records) more) ⊎
    (nodes_behind nodes (records ++ more) ≡ nodes_behind nodes records)
behind_or_same nodes [] more = inl refl
behind_or_same nodes (payload ∷ records) more = go (record_says nodes payload) (λ next. behind_or_same next records more)
  where
    go : (said : MergeSays) → ((next : Nodes) → (nodes_behind next (records ++ more) ≡ nodes_behind (nodes_behind next records) more) ⊎
        (nodes_behind next (records ++ more) ≡ nodes_behind next records))
        → (nodes_by nodes said (λ next. nodes_behind next (records ++ more))
        ≡ nodes_behind (nodes_by nodes said (λ next. nodes_behind next records)) more)
        ⊎ (nodes_by nodes said (λ next. nodes_behind next (records ++ more)) ≡ nodes_by nodes said (λ next. nodes_behind next records))
    go (merges merge) each = each (with_nodes nodes merge)
    go (bad_from byte) each = inr refl

pub more_records_change_no_tree : (records more : List (List ℕ)) (ids : List ℕ) → HasTree (nodes_of records) ids
    → tree_datoms (nodes_of (records ++ more)) ids ≡ tree_datoms (nodes_of records) ids
more_records_change_no_tree records more ids has =
    elim (behind_or_same no_nodes records more) [
      | inl on ↦ ap (λ nodes. tree_datoms nodes ids) on
          ∙ (leaves_behind (nodes_of records) more ids (Has-tree (nodes_of records) ids has)).datoms
      | inr stopped ↦ ap (λ nodes. tree_datoms nodes ids) stopped
    ]
