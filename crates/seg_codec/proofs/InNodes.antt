-- The nodes of a file as they are held.
use Rattle.std.proofs.Common.{◌≡◌, ◌<◌, ◌^◌, ℕ, zero, suc, Bool, true, false, not, ◌||◌, List, [], ◌∷◌, ◌++◌, length, map, take, drop}
use Rattle.std.proofs.Common.{get_or, refl, sym, ◌∙◌, ap, subst, arith, inl, inr}
use Rattle.std.specs.Prelude.{nat_eq, Contains, All, IsTrue}
use Rattle.std.proofs.lemmas.Bool.{true≢false, and_parts, or_parts, or_from, or_cases, false_from_ne_true, ne_eqb, eqb-true}
use Rattle.std.proofs.lemmas.List.{map-append, length-map, take-map, take-append-drop}
use Rattle.std.proofs.lemmas.List.Elements.{All-contains, All-map, All-push, All-take, All-weaker, Contains-append_left}
use Rattle.log_model.specs.Nodes.{Leaf, Directory, ids_in, is_among, is_new_id}
use Rattle.seg_tree.specs.Nodes.{LeafNode, DirectoryNode}
use Rattle.seg_tree.specs.Ids.{leaf_ids}
use Rattle.seg_codec.specs.Trees.{file_leaf, file_directory, directory_ids}
use Rattle.seg_codec.specs.InFile.{nodes_in, AreNodes, AreWhole, IsDirectoryOf}
use Rattle.seg_codec.proofs.Among.{mapped_member, mapped_among, among_mapped, among-append, All-made, AreOnce, once_cons, once_join}
use Rattle.seg_codec.proofs.Among.{one_of_id}
use Rattle.seg_codec.proofs.Kept.{below_is}

-- ---- ids as a file has them

pub file_leaf_ids : (leaves : List LeafNode) → map (λ (l : Leaf). l.id) (map file_leaf leaves) ≡ leaf_ids leaves
file_leaf_ids [] = refl
file_leaf_ids (l ∷ leaves) = ap (λ ids. l.id ∷ ids) (file_leaf_ids leaves)

pub file_directory_ids : (ds : List DirectoryNode) → map (λ (d : Directory). d.id) (map file_directory ds) ≡ directory_ids ds
file_directory_ids [] = refl
file_directory_ids (d ∷ ds) = ap (λ ids. d.id ∷ ids) (file_directory_ids ds)

-- an element at its place
pub at_place : {X A : Type 0} (now : X → A) (xs : List X) (i : ℕ) (x : X) → i < length xs → x ≡ get_or xs i x
    → Contains (map now xs) (now x)
at_place now xs i x within is = mapped_member now xs x (i, within, sym is)

pub id_at : {X : Type 0} (id_of : X → ℕ) (xs : List X) (i : ℕ) (x : X) → i < length xs → x ≡ get_or xs i x
    → get_or (map id_of xs) i 0 ≡ id_of x
id_at id_of [] i x within is = absurd (omega (arith, within))
id_at id_of (y ∷ xs) zero x within is = ap id_of (sym is)
id_at id_of (y ∷ xs) (suc i) x within is = id_at id_of xs i x (omega (arith, within)) is

mapped_at : {X A : Type 0} (now : X → A) (xs : List X) (i : ℕ) (x : X) → i < length xs → x ≡ get_or xs i x
    → now x ≡ get_or (map now xs) i (now x)
mapped_at now [] i x within is = absurd (omega (arith, within))
mapped_at now (y ∷ xs) zero x within is = ap now is
mapped_at now (y ∷ xs) (suc i) x within is = mapped_at now xs i x (omega (arith, within)) is

module _ (leaves : List LeafNode) (directories : List DirectoryNode) (ids_of_leaves ids_of_directories : List ℕ)
    (are : AreNodes leaves directories ids_of_leaves ids_of_directories) where
  pub leaf_among : (id : ℕ) → is_among (map (λ (l : Leaf). l.id) (nodes_in leaves directories).leaves) id ≡ is_among ids_of_leaves id
  leaf_among id = ap (λ l. is_among l id) (file_leaf_ids leaves ∙ sym are.leaf_ids_are)

  pub directory_among : (id : ℕ) → is_among (map (λ (d : Directory). d.id) (nodes_in leaves directories).directories) id
      ≡ is_among ids_of_directories id
  directory_among id = ap (λ l. is_among l id) (file_directory_ids directories ∙ sym are.directory_ids_are)

  pub ids_among : (id : ℕ) → is_among (ids_in (nodes_in leaves directories)) id ≡
      (is_among ids_of_leaves id || is_among ids_of_directories id)
  ids_among id =
      among-append (map (λ (l : Leaf). l.id) (map file_leaf leaves)) (map (λ (d : Directory). d.id) (map file_directory directories)) id
      ∙ (λ i. leaf_among id i || directory_among id i)

  pub nodes_once : AreOnce ids_of_leaves → AreOnce ids_of_directories → AreOnce (ids_in (nodes_in leaves directories))
  nodes_once one other =
      subst AreOnce (λ i. (are.leaf_ids_are ∙ sym (file_leaf_ids leaves)) i ++ (are.directory_ids_are ∙ sym
      (file_directory_ids directories)) i)
      (once_join ids_of_leaves ids_of_directories one other
      (λ id is. ap (λ l. is_among l id) are.directory_ids_are ∙ are.apart id (ap (λ l. is_among l id) (sym are.leaf_ids_are) ∙ is)))

  -- the ids as they are held, those of leaves first
  pub held_once : AreOnce ids_of_leaves → AreOnce ids_of_directories → AreOnce (ids_of_leaves ++ ids_of_directories)
  held_once one other =
      once_join ids_of_leaves ids_of_directories one other
      (λ id is. ap (λ l. is_among l id) are.directory_ids_are ∙ are.apart id (ap (λ l. is_among l id) (sym are.leaf_ids_are) ∙ is))

  pub held_ids : ids_of_leaves ++ ids_of_directories ≡ ids_in (nodes_in leaves directories)
  held_ids = λ i. (are.leaf_ids_are ∙ sym (file_leaf_ids leaves)) i ++ (are.directory_ids_are ∙ sym (file_directory_ids directories)) i

  pub nodes_whole : AreWhole (nodes_in leaves directories)
  nodes_whole =
      All-map (λ (d : Directory). All (λ id. IsTrue (is_among (map (λ (l : Leaf). l.id)
      (map file_leaf leaves)) id)) d.leaves) file_directory directories
      (All-weaker (λ (d : DirectoryNode). All (λ leaf. Contains (map file_leaf leaves) (file_leaf leaf)) d.leaves)
      (λ (d : DirectoryNode). All (λ id. IsTrue (is_among (map (λ (l : Leaf). l.id) (map file_leaf leaves)) id)) (leaf_ids d.leaves))
      (λ d has. All-map (λ id. IsTrue (is_among (map (λ (l : Leaf). l.id) (map file_leaf leaves)) id)) (λ (l : LeafNode). l.id) d.leaves
      (All-weaker (λ (l : LeafNode). Contains (map file_leaf leaves) (file_leaf l))
      (λ (l : LeafNode). IsTrue (is_among (map (λ (x : Leaf). x.id) (map file_leaf leaves)) l.id))
      (λ l member. mapped_among (λ (x : Leaf). x.id) (map file_leaf leaves) (file_leaf l) member) d.leaves has)) directories are.there)

  pub directory_of : (d : DirectoryNode) → AreOnce ids_of_leaves → AreOnce ids_of_directories → Contains directories d → d.id < 2 ^ 62
      → IsDirectoryOf (nodes_in leaves directories) d.id d
  directory_of d one other member small =
      let has = All-contains (λ (x : DirectoryNode). All (λ leaf. Contains (map file_leaf leaves)
      (file_leaf leaf)) x.leaves) directories d are.there member in
      let itself = mapped_member file_directory directories d member in
      record {
        id_is = refl;
        small = small;
        has = record { itself = itself; leaves = has };
        below = below_is (nodes_in leaves directories) (nodes_once one other) d itself;
        once = once_cons d.id (leaf_ids d.leaves) (false_from_ne_true _ (λ is. own_id d has member is))
            (All-contains (λ (x : DirectoryNode). AreOnce (leaf_ids x.leaves)) directories d are.once member);
      }
    where
      own_id : (d : DirectoryNode) → All (λ leaf. Contains (map file_leaf leaves) (file_leaf leaf)) d.leaves → Contains directories d
          → is_among (leaf_ids d.leaves) d.id ≡ true → ⊥
      own_id d has member is =
          let leaf = among_mapped (λ (l : LeafNode). l.id) d.leaves d.id is in
          let known = mapped_among (λ (x : Leaf). x.id) (map file_leaf leaves) (file_leaf leaf.0)
          (All-contains (λ l. Contains (map file_leaf leaves) (file_leaf l)) d.leaves leaf.0 has leaf.1) in
          let in_leaves : is_among (leaf_ids leaves) d.id ≡ true = ap (is_among (leaf_ids leaves)) (sym leaf.2)
          ∙ ap (λ l. is_among l leaf.0.id) (sym (file_leaf_ids leaves)) ∙ known in
          true≢false (sym (mapped_among (λ (x : DirectoryNode). x.id) directories d member) ∙ are.apart d.id in_leaves)

  pub new_parts : (id : ℕ) → is_new_id (nodes_in leaves directories) id ≡ true
      → (is_among ids_of_leaves id ≡ false) × (is_among ids_of_directories id ≡ false)
  new_parts id new = or_parts _ _ (sym (ids_among id) ∙ is_not (is_among (ids_in (nodes_in leaves directories)) id) (and_parts _ _ new).1)
    where
      is_not : (b : Bool) → not b ≡ true → b ≡ false
      is_not false is = refl
      is_not true is = absurd (true≢false (sym is))

  pub with_one_leaf : (leaf : LeafNode) → is_new_id (nodes_in leaves directories) leaf.id ≡ true
      → AreNodes (leaves ++ leaf ∷ []) directories (ids_of_leaves ++ leaf.id ∷ []) ids_of_directories
  with_one_leaf leaf new =
      let more = map-append (λ (l : LeafNode). l.id) leaves (leaf ∷ []) in
      let no_directory : is_among (directory_ids directories) leaf.id ≡ false = ap (λ l. is_among l leaf.id) (sym are.directory_ids_are)
      ∙ (new_parts leaf.id new).1 in
      record {
        leaf_ids_are = ap (λ l. l ++ leaf.id ∷ []) are.leaf_ids_are ∙ sym more;
        directory_ids_are = are.directory_ids_are;
        apart = λ id is. elim (or_cases (is_among (leaf_ids leaves) id) (is_among (leaf.id ∷ []) id) (sym (ap (λ l. is_among l id) more
            ∙ among-append (leaf_ids leaves) (leaf.id ∷ []) id) ∙ is)) [
              | inl old ↦ are.apart id old
              | inr last ↦ elim (or_cases (nat_eq id leaf.id) false last) [
                | inl same ↦ ap (is_among (directory_ids directories))
                    (eqb-true id leaf.id same) ∙ no_directory
                | inr never ↦ absurd (true≢false (sym never))
              ]
            ];
        there = All-weaker (λ (d : DirectoryNode). All (λ l. Contains (map file_leaf leaves) (file_leaf l)) d.leaves)
            (λ (d : DirectoryNode). All (λ l. Contains (map file_leaf (leaves ++ leaf ∷ [])) (file_leaf l)) d.leaves)
            (λ d has. All-weaker (λ (l : LeafNode). Contains (map file_leaf leaves) (file_leaf l))
            (λ (l : LeafNode). Contains (map file_leaf (leaves ++ leaf ∷ [])) (file_leaf l))
            (λ l member. subst (λ x. Contains x (file_leaf l)) (sym (map-append file_leaf leaves (leaf ∷ [])))
            (Contains-append_left (map file_leaf leaves) (map file_leaf (leaf ∷ []))
            (file_leaf l) member)) d.leaves has) directories are.there;
        once = are.once;
      }

  pub with_one_directory : (d : DirectoryNode) → is_new_id (nodes_in leaves directories) d.id ≡ true
      → All (λ leaf. Contains (map file_leaf leaves) (file_leaf leaf)) d.leaves → AreOnce (leaf_ids d.leaves)
      → AreNodes leaves (directories ++ d ∷ []) ids_of_leaves (ids_of_directories ++ d.id ∷ [])
  with_one_directory d new there once =
      let more = map-append (λ (x : DirectoryNode). x.id) directories (d ∷ []) in
      let no_leaf : is_among (leaf_ids leaves) d.id ≡ false = ap (λ l. is_among l d.id) (sym are.leaf_ids_are) ∙ (new_parts d.id new).0 in
      record {
        leaf_ids_are = are.leaf_ids_are;
        directory_ids_are = ap (λ l. l ++ d.id ∷ []) are.directory_ids_are ∙ sym more;
        apart = λ id is.
            ap (λ l. is_among l id) more
            ∙ among-append (directory_ids directories) (d.id ∷ []) id
            ∙ or_from _ _ (are.apart id is)
            (or_from _ _ (ne_eqb id d.id (λ same. true≢false (sym is ∙ ap (is_among (leaf_ids leaves)) same ∙ no_leaf))) refl);
        there = All-push (λ (x : DirectoryNode). All (λ l. Contains (map file_leaf leaves)
            (file_leaf l)) x.leaves) directories d are.there there;
        once = All-push (λ (x : DirectoryNode). AreOnce (leaf_ids x.leaves)) directories d are.once once;
      }

  -- the first so many alone
  module _ (a b : ℕ) (once : AreOnce ids_of_leaves)
      (whole : AreWhole (record { leaves = take a (map file_leaf leaves); directories = take b (map file_directory directories) })) where
    in_front : {A : Type 0} (n : ℕ) (xs : List A) (x : A) → Contains (take n xs) x → Contains xs x
    in_front n xs x member = subst (λ l. Contains l x) (take-append-drop n xs) (Contains-append_left (take n xs) (drop n xs) x member)

    cut_is : take a (map file_leaf leaves) ≡ map file_leaf (take a leaves)
    cut_is = take-map file_leaf a leaves

    leaf_stays : (d : DirectoryNode) → Contains (take b directories) d → (l : LeafNode) → Contains d.leaves l
        → Contains (map file_leaf (take a leaves)) (file_leaf l)
    leaf_stays d member l inside =
        let listed = All-contains (λ (x : Directory). All (λ id. IsTrue (is_among (map (λ (y : Leaf). y.id) (take a
        (map file_leaf leaves))) id)) x.leaves) (take b (map file_directory directories)) (file_directory d) whole
        (subst (λ x. Contains x (file_directory d)) (sym (take-map file_directory b directories))
        (mapped_member file_directory (take b directories) d member)) in
        let known = All-contains (λ id. IsTrue (is_among (map (λ (y : Leaf). y.id) (take a (map file_leaf leaves))) id))
        (leaf_ids d.leaves) l.id listed (mapped_member (λ (y : LeafNode). y.id) d.leaves l inside) in
        let found = among_mapped (λ (y : Leaf). y.id) (take a (map file_leaf leaves)) l.id known in
        let has = All-contains (λ y. Contains (map file_leaf leaves) (file_leaf y)) d.leaves l
        (All-contains (λ (x : DirectoryNode). All (λ y. Contains (map file_leaf leaves) (file_leaf y)) x.leaves) directories d are.there
        (in_front b directories d member)) inside in
        let same = one_of_id (λ (y : Leaf). y.id) (map file_leaf leaves) found.0 (file_leaf l)
        (subst AreOnce (are.leaf_ids_are ∙ sym (file_leaf_ids leaves)) once)
        (in_front a (map file_leaf leaves) found.0 found.1) has found.2 in
        subst (λ x. Contains x (file_leaf l)) cut_is (subst (λ y. Contains (take a (map file_leaf leaves)) y) same found.1)

    pub cut_nodes : AreNodes (take a leaves) (take b directories) (take a ids_of_leaves) (take b ids_of_directories)
    cut_nodes = record {
      leaf_ids_are = ap (take a) are.leaf_ids_are ∙ take-map (λ (l : LeafNode). l.id) a leaves;
      directory_ids_are = ap (take b) are.directory_ids_are ∙ take-map (λ (d : DirectoryNode). d.id) b directories;
      apart = λ id is.
          let leaf = among_mapped (λ (l : LeafNode). l.id) (take a leaves) id is in
          let among_all : is_among (leaf_ids leaves) id ≡ true = ap (is_among (leaf_ids leaves)) (sym leaf.2)
          ∙ mapped_among (λ (l : LeafNode). l.id) leaves leaf.0 (in_front a leaves leaf.0 leaf.1) in
          false_from_ne_true _ (λ too.
          let d = among_mapped (λ (x : DirectoryNode). x.id) (take b directories) id too in
          true≢false (sym (ap (is_among (directory_ids directories)) (sym d.2) ∙ mapped_among (λ
          (x : DirectoryNode). x.id) directories d.0 (in_front b directories d.0 d.1)) ∙ are.apart id among_all));
      there = All-made (λ (d : DirectoryNode). All (λ l. Contains (map file_leaf (take a leaves)) (file_leaf l)) d.leaves)
          (take b directories)
          (λ d member. All-made (λ (l : LeafNode). Contains (map file_leaf (take a leaves)) (file_leaf l)) d.leaves
          (λ l inside. leaf_stays d member l inside));
      once = All-take (λ (d : DirectoryNode). AreOnce (leaf_ids d.leaves)) b directories are.once;
    }

-- ---- nodes at their places

module _ {X : Type 0} (now : X → LeafNode) (items : List X) (place : ℕ) (x : X) (directories : List DirectoryNode)
    (ids_of_leaves ids_of_directories : List ℕ)
    (are : AreNodes (map now items) directories ids_of_leaves ids_of_directories) (id : ℕ) (below : place < length ids_of_leaves)
    (is : get_or ids_of_leaves place 0 ≡ id) (at : x ≡ get_or items place x) where
  leaf_within : place < length items
  leaf_within = omega (arith, below, ap length are.leaf_ids_are, length-map (map now items) (λ (l : LeafNode). l.id), length-map items now)

  pub leaf_id_at : (now x).id ≡ id
  leaf_id_at =
      sym (id_at (λ (l : LeafNode). l.id) (map now items) place (now x) (omega (arith, leaf_within, length-map items now))
      (mapped_at now items place x leaf_within at))
      ∙ ap (λ l. get_or l place 0) (sym are.leaf_ids_are)
      ∙ is

  pub leaf_there_at : Contains (map file_leaf (map now items)) (file_leaf (now x))
  leaf_there_at = mapped_member file_leaf (map now items) (now x) (at_place now items place x leaf_within at)

module _ {X : Type 0} (now : X → DirectoryNode) (items : List X) (place : ℕ) (x : X) (leaves : List LeafNode)
    (ids_of_leaves ids_of_directories : List ℕ)
    (are : AreNodes leaves (map now items) ids_of_leaves ids_of_directories) (one : AreOnce ids_of_leaves)
    (other : AreOnce ids_of_directories) (small : All (λ id. id < 2 ^ 62) ids_of_directories)
    (id : ℕ) (below : place < length ids_of_directories) (is : get_or ids_of_directories place 0 ≡ id) (at : x ≡ get_or items place x) where
  directory_within : place < length items
  directory_within = omega (
    arith,
    below,
    ap length are.directory_ids_are,
    length-map (map now items) (λ
        (d : DirectoryNode). d.id),
    length-map items now,
  )

  directory_id_at : (now x).id ≡ id
  directory_id_at =
      sym (id_at (λ (d : DirectoryNode). d.id) (map now items) place (now x) (omega (arith, directory_within, length-map items now))
      (mapped_at now items place x directory_within at))
      ∙ ap (λ l. get_or l place 0) (sym are.directory_ids_are)
      ∙ is

  pub directory_at : IsDirectoryOf (nodes_in leaves (map now items)) id (now x)
  directory_at =
      subst (λ n. IsDirectoryOf (nodes_in leaves (map now items)) n (now x)) directory_id_at
      (directory_of leaves (map now items) ids_of_leaves ids_of_directories are (now x) one other
      (at_place now items place x directory_within at)
      (subst (λ n. n < 2 ^ 62) (is ∙ sym directory_id_at) (small place 0 below)))
