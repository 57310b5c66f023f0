-- A file that keeps trees alone has their nodes and no others.
use Rattle.std.proofs.Common.{inl, inr, ⊎_elim, ◌≡◌, ◌∙◌, ◌≤◌, ℕ, List, [], ◌∷◌, ◌++◌, length, refl, sym, ap, subst, arith, Option, Some}
use Rattle.std.specs.Prelude.{All, Contains, flat_map, filter, map, not}
use Rattle.std.proofs.lemmas.Bool.{true≢false}
use Rattle.std.proofs.lemmas.List.Elements.{All-nil, All-cons, All-head, All-tail, All-append, All-weaker, All-contains, All-filter}
use Rattle.std.proofs.lemmas.List.Elements.{Contains-append_left, Contains-append_right, Contains-append_cases}
use Rattle.fb_values.specs.declared.indexes.Order.TheVariants.{Eavt, Aevt, Avet, Vaet}
use Rattle.disk_model.specs.Disk.{IfKnown}
use Rattle.disk_model.specs.Journal.{segments_mark, JournalStands}
use Rattle.disk_model.proofs.Journals.{stands-holds}
use Rattle.log_model.specs.Nodes.{Leaf, Directory, Nodes, no_nodes, ids_in, ids_below, is_among}
use Rattle.log_model.specs.Kept.{nodes_of}
use Rattle.log_model.proofs.NodesOfFiles.{distinct-nodes}
use Rattle.fb_journal.specs.Journals.{mark_of}
use Rattle.seg_tree.specs.Nodes.{LeafNode, DirectoryNode, tree_leaves}
use Rattle.seg_tree.specs.Ids.{leaf_ids}
use Rattle.seg_tree.specs.declared.roots.Roots.{Roots}
use Rattle.seg_codec.specs.Trees.{file_leaf, file_directory, Has, directory_ids, AreTreesOf, leaves_of_four, directories_of_four, roots_of}
use Rattle.seg_codec.specs.Trees.{Fits, AreIdsOf, ids_lacking}
use Rattle.seg_codec.proofs.Among.{AreOnce, member_here, member_there, member_cases, no_member, mapped_member, among, among_member}
use Rattle.seg_codec.proofs.Among.{among_mapped, All-made}
use Rattle.seg_codec.proofs.Kept.{below_is}
use Rattle.seg_store.specs.declared.stores.SegStore.{SegStore}
use Rattle.seg_store.specs.Trees.{root_of, KeepsRoot}
use Rattle.seg_store.specs.Stores.{disk_in, StoreKeeps}
use Rattle.seg_store.specs.Loads.{AreRecordsOf, IsLoaded}
use Rattle.seg_store.specs.declared.loads.Loaded.{Loaded}
use Rattle.backup_model.specs.Backup.{IsCopyFile, reached_ids}

-- no trees are at odds with a new file
pub fits-none : (trees : Roots) → Fits no_nodes trees
fits-none trees = record {
  leaves = All-made (λ (leaf : LeafNode). Contains (ids_in no_nodes) leaf.id → Contains no_nodes.leaves (file_leaf leaf)) (leaves_of_four trees)
      (λ leaf here member. absurd (no_member leaf.id member));
  directories = All-made
      (λ (d : DirectoryNode). Contains (ids_in no_nodes) d.id → Contains no_nodes.directories (file_directory d))
      (directories_of_four trees)
      (λ d here member. absurd (no_member d.id member));
}

no-ids : (ids : List ℕ) → AreIdsOf ids no_nodes → ids ≡ []
no-ids [] are = refl
no-ids (id ∷ ids) are = absurd (true≢false (sym (among (id ∷ ids) id (member_here id ids)) ∙ are id))

module _ (nodes : Nodes) (once : AreOnce (ids_in nodes)) where
  abbrev of_leaves : List ℕ
  of_leaves = map (λ (l : Leaf). l.id) nodes.leaves

  abbrev of_directories : List ℕ
  of_directories = map (λ (d : Directory). d.id) nodes.directories

  abbrev below_tree : List DirectoryNode → List ℕ
  below_tree tree = flat_map (ids_below nodes) (directory_ids tree)

  -- ---- what the trees reach is there

  abbrev IsThere : ℕ → Type 0
  IsThere id = Contains (ids_in nodes) id

  has_leaf : (leaf : LeafNode) → Contains nodes.leaves (file_leaf leaf) → IsThere leaf.id
  has_leaf leaf has =
      Contains-append_left of_leaves of_directories leaf.id (mapped_member (λ (l : Leaf). l.id) nodes.leaves (file_leaf leaf) has)

  has_directory : (d : DirectoryNode) → Contains nodes.directories (file_directory d) → IsThere d.id
  has_directory d has =
      Contains-append_right of_leaves of_directories d.id
      (mapped_member (λ (x : Directory). x.id) nodes.directories (file_directory d) has)

  has_below : (d : DirectoryNode) → Has nodes d → (id : ℕ) → Contains (ids_below nodes d.id) id → IsThere id
  has_below d has id member =
      ⊎_elim
      (λ same. subst IsThere same (has_directory d has.itself))
      (λ later.
      let found = among_mapped (λ (l : LeafNode). l.id) d.leaves id (among (leaf_ids d.leaves) id later) in
      subst IsThere found.2
      (has_leaf found.0 (All-contains (λ (l : LeafNode). Contains nodes.leaves (file_leaf l)) d.leaves found.0 has.leaves found.1)))
      (member_cases d.id id (leaf_ids d.leaves) (subst (λ (l : List ℕ). Contains l id) (below_is nodes once d has.itself) member))

  has_each : (tree : List DirectoryNode) (rest : List ℕ) → All (Has nodes) tree → ((id : ℕ) → Contains rest id → IsThere id)
      → (id : ℕ) → Contains (below_tree tree ++ rest) id → IsThere id
  has_each [] rest has others id member = others id member
  has_each (d ∷ tree) rest has others id member =
      ⊎_elim
      (λ here. ⊎_elim
      (λ first. has_below d (All-head (Has nodes) d tree has) id first)
      (λ later. has_each tree rest (All-tail (Has nodes) d tree has) others id (Contains-append_left (below_tree tree) rest id later))
      (Contains-append_cases (ids_below nodes d.id) (below_tree tree) id here))
      (λ behind. others id behind)
      (Contains-append_cases (below_tree (d ∷ tree)) rest id member)

  -- ---- the nodes of the trees are reached

  directories_below : (tree : List DirectoryNode) → All (λ (d : DirectoryNode). Contains (below_tree tree) d.id) tree
  directories_below [] = All-nil (λ (d : DirectoryNode). Contains (below_tree []) d.id)
  directories_below (d ∷ tree) =
      All-cons (λ (x : DirectoryNode). Contains (below_tree (d ∷ tree)) x.id) d tree
      (member_here d.id _)
      (All-weaker (λ (x : DirectoryNode). Contains (below_tree tree) x.id) (λ (x : DirectoryNode). Contains (below_tree (d ∷ tree)) x.id)
      (λ x member. Contains-append_right (ids_below nodes d.id) (below_tree tree) x.id member) tree (directories_below tree))

  leaf_below : (d : DirectoryNode) → Has nodes d → (leaf : LeafNode) → Contains d.leaves leaf → Contains (ids_below nodes d.id) leaf.id
  leaf_below d has leaf member =
      subst (λ (l : List ℕ). Contains l leaf.id) (sym (below_is nodes once d has.itself))
      (member_there d.id leaf.id (leaf_ids d.leaves) (mapped_member (λ (l : LeafNode). l.id) d.leaves leaf member))

  leaves_below : (tree : List DirectoryNode) → All (Has nodes) tree
      → All (λ (leaf : LeafNode). Contains (below_tree tree) leaf.id) (tree_leaves tree)
  leaves_below [] has = All-nil (λ (leaf : LeafNode). Contains (below_tree []) leaf.id)
  leaves_below (d ∷ tree) has =
      All-append (λ (leaf : LeafNode). Contains (below_tree (d ∷ tree)) leaf.id) d.leaves (tree_leaves tree)
      (All-made (λ (leaf : LeafNode). Contains (below_tree (d ∷ tree)) leaf.id) d.leaves
      (λ leaf member. Contains-append_left (ids_below nodes d.id) (below_tree tree) leaf.id
      (leaf_below d (All-head (Has nodes) d tree has) leaf member)))
      (All-weaker (λ (leaf : LeafNode). Contains (below_tree tree) leaf.id)
      (λ (leaf : LeafNode). Contains (below_tree (d ∷ tree)) leaf.id)
      (λ leaf member. Contains-append_right (ids_below nodes d.id) (below_tree tree) leaf.id member) (tree_leaves tree)
      (leaves_below tree (All-tail (Has nodes) d tree has)))

  module _ (trees : Roots) (are : AreTreesOf nodes (roots_of trees) trees) where
    abbrev from_vaet : List ℕ
    from_vaet = below_tree trees.vaet ++ []

    abbrev from_avet : List ℕ
    from_avet = below_tree trees.avet ++ from_vaet

    abbrev from_aevt : List ℕ
    from_aevt = below_tree trees.aevt ++ from_avet

    abbrev IsReached : ℕ → Type 0
    IsReached id = Contains (reached_ids nodes (roots_of trees)) id

    abbrev IsReachedLeaf : LeafNode → Type 0
    IsReachedLeaf leaf = IsReached leaf.id

    abbrev IsReachedDirectory : DirectoryNode → Type 0
    IsReachedDirectory d = IsReached d.id

    pub has_reached : (id : ℕ) → IsReached id → IsThere id
    has_reached =
        has_each trees.eavt from_aevt (are.there Eavt)
        (has_each trees.aevt from_avet (are.there Aevt)
        (has_each trees.avet from_vaet (are.there Avet)
        (has_each trees.vaet [] (are.there Vaet) (λ id member. absurd (no_member id member)))))

    in_eavt : (id : ℕ) → Contains (below_tree trees.eavt) id → IsReached id
    in_eavt id member = Contains-append_left (below_tree trees.eavt) from_aevt id member

    in_aevt : (id : ℕ) → Contains (below_tree trees.aevt) id → IsReached id
    in_aevt id member =
        Contains-append_right (below_tree trees.eavt) from_aevt id (Contains-append_left (below_tree trees.aevt) from_avet id member)

    in_avet : (id : ℕ) → Contains (below_tree trees.avet) id → IsReached id
    in_avet id member =
        Contains-append_right (below_tree trees.eavt) from_aevt id (Contains-append_right (below_tree trees.aevt) from_avet id
        (Contains-append_left (below_tree trees.avet) from_vaet id member))

    in_vaet : (id : ℕ) → Contains (below_tree trees.vaet) id → IsReached id
    in_vaet id member =
        Contains-append_right (below_tree trees.eavt) from_aevt id (Contains-append_right (below_tree trees.aevt) from_avet id
        (Contains-append_right (below_tree trees.avet) from_vaet id (Contains-append_left (below_tree trees.vaet) [] id member)))

    leaves_of : (tree : List DirectoryNode) → All (Has nodes) tree → ((id : ℕ) → Contains (below_tree tree) id → IsReached id)
        → All IsReachedLeaf (tree_leaves tree)
    leaves_of tree has reached =
        All-weaker (λ (leaf : LeafNode). Contains (below_tree tree) leaf.id) IsReachedLeaf (λ leaf member. reached leaf.id member)
        (tree_leaves tree) (leaves_below tree has)

    leaves_reached : All IsReachedLeaf (leaves_of_four trees)
    leaves_reached =
        All-append IsReachedLeaf (tree_leaves trees.eavt ++ tree_leaves trees.aevt ++ tree_leaves trees.avet) (tree_leaves trees.vaet)
        (All-append IsReachedLeaf (tree_leaves trees.eavt ++ tree_leaves trees.aevt) (tree_leaves trees.avet)
        (All-append IsReachedLeaf (tree_leaves trees.eavt) (tree_leaves trees.aevt)
        (leaves_of trees.eavt (are.there Eavt) in_eavt)
        (leaves_of trees.aevt (are.there Aevt) in_aevt))
        (leaves_of trees.avet (are.there Avet) in_avet))
        (leaves_of trees.vaet (are.there Vaet) in_vaet)

    directories_in : (tree : List DirectoryNode) → ((id : ℕ) → Contains (below_tree tree) id → IsReached id)
        → All IsReachedDirectory tree
    directories_in tree reached =
        All-weaker (λ (d : DirectoryNode). Contains (below_tree tree) d.id) IsReachedDirectory (λ d member. reached d.id member) tree
        (directories_below tree)

    directories_reached : All IsReachedDirectory (directories_of_four trees)
    directories_reached =
        All-append IsReachedDirectory (trees.eavt ++ trees.aevt ++ trees.avet) trees.vaet
        (All-append IsReachedDirectory (trees.eavt ++ trees.aevt) trees.avet
        (All-append IsReachedDirectory trees.eavt trees.aevt
        (directories_in trees.eavt in_eavt)
        (directories_in trees.aevt in_aevt))
        (directories_in trees.avet in_avet))
        (directories_in trees.vaet in_vaet)

    abbrev new_leaves : List ℕ → List LeafNode
    new_leaves ids = filter (λ (leaf : LeafNode). not (is_among ids leaf.id)) (leaves_of_four trees)

    abbrev new_directories : List ℕ → List DirectoryNode
    new_directories ids = filter (λ (directory : DirectoryNode). not (is_among ids directory.id)) (directories_of_four trees)

    leaf_reached : (ids : List ℕ) (id : ℕ) → Contains (leaf_ids (new_leaves ids)) id → IsReached id
    leaf_reached ids id member =
        let found = among_mapped (λ (l : LeafNode). l.id) (new_leaves ids) id (among (leaf_ids (new_leaves ids)) id member) in
        subst IsReached found.2
        (All-contains IsReachedLeaf (new_leaves ids) found.0
        (All-filter (λ (leaf : LeafNode). not (is_among ids leaf.id)) IsReachedLeaf (leaves_of_four trees) leaves_reached) found.1)

    directory_reached : (ids : List ℕ) (id : ℕ) → Contains (directory_ids (new_directories ids)) id → IsReached id
    directory_reached ids id member =
        let found = among_mapped (λ (d : DirectoryNode). d.id) (new_directories ids) id
        (among (directory_ids (new_directories ids)) id member) in
        subst IsReached found.2
        (All-contains IsReachedDirectory (new_directories ids) found.0
        (All-filter (λ (directory : DirectoryNode). not (is_among ids directory.id)) IsReachedDirectory (directories_of_four trees) directories_reached)
        found.1)

    pub no_others : (ids : List ℕ) → AreIdsOf (ids_lacking ids trees) nodes → (id : ℕ) → IsThere id → IsReached id
    no_others ids same id member =
        ⊎_elim
        (λ leaf. leaf_reached ids id leaf)
        (λ directory. directory_reached ids id directory)
        (Contains-append_cases (leaf_ids (new_leaves ids)) (directory_ids (new_directories ids)) id
        (among_member (ids_lacking ids trees) id (same id ∙ among (ids_in nodes) id member)))

-- ---- the file of a store

module _ {D : Type 0} {g : _} (bytes : D → Option (List ℕ)) (images : D → List ℕ → Type 0) where
  stands_left : (records : List (List ℕ)) (store : SegStore D g) → StoreKeeps bytes images records store
      → IfKnown (bytes (disk_in store)) (λ _. (image : List ℕ) → images (disk_in store) image → JournalStands segments_mark records image)
  stands_left records store keeps = λ file told image left.
      let kept = keeps.journal.file file told in
      let stands : JournalStands segments_mark records file =
      subst (λ (m : List ℕ). JournalStands m records file) store.marked
      (stands-holds (mark_of store.journal) records file (ap length store.marked) kept.0) in
      subst (λ (f : List ℕ). JournalStands segments_mark records f) (sym (kept.1 image left)) stands

  -- one record in a store that had none
  pub copy-left : (payload : List ℕ) (trees : Roots) (c : ℕ) (old new : SegStore D g) → StoreKeeps bytes images [] old
      → StoreKeeps bytes images (payload ∷ []) new → KeepsRoot [] payload trees c → new.ids ≡ old.ids ++ ids_lacking old.ids trees
      → IfKnown (bytes (disk_in new))
      (λ _. (image : List ℕ) → images (disk_in new) image → IsCopyFile image (root_of trees c) (roots_of trees))
  copy-left payload trees c old new before after keeps ids = λ file told image left.
      let nodes = nodes_of (payload ∷ []) in
      let once = distinct-nodes (payload ∷ []) in
      let none : old.ids ≡ [] = no-ids old.ids before.ids in
      let lacking : new.ids ≡ ids_lacking old.ids trees = ids ∙ ap (λ l. l ++ ids_lacking old.ids trees) none in
      record {
        records = payload ∷ [];
        journal = stands_left (payload ∷ []) new after file told image left;
        good = after.good;
        kept = keeps.roots;
        there = has_reached nodes once trees keeps.there;
        no_others = no_others nodes once trees keeps.there old.ids (subst (λ l. AreIdsOf l nodes) lacking after.ids);
      }

-- ---- a new file

none-read : (file : List ℕ) (read : List (List ℕ)) → length file ≤ 16 → AreRecordsOf read file → read ≡ []
none-read file read short (inl (inl new)) = new.1
none-read file read short (inl (inr long)) = absurd (omega (arith, short, long.0))
none-read file read short (inr breaks) = absurd (omega (arith, short, breaks.2.0))

-- a store that was loaded of a new file has no record
pub none-loaded : {D : Type 0} {g : _} (bytes : D → Option (List ℕ)) (images : D → List ℕ → Type 0) (known : Option (List ℕ))
    (loaded : Loaded D g) (file : List ℕ)
    → IsLoaded bytes images known loaded → known ≡ Some file → length file ≤ 16 → StoreKeeps bytes images [] loaded.store
none-loaded bytes images known loaded file is told short =
    let none = none-read file is.read short (is.file file told) in
    subst (λ (l : List (List ℕ)). StoreKeeps bytes images l loaded.store)
    (⊎_elim (λ same. same ∙ none) (λ anew. anew.0) is.goes_on) is.store
