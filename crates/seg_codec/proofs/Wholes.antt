-- Trees all of whose leaves are wanted, and which leaves these are.
use Rattle.std.proofs.Common.{◌≡◌, ◌<◌, ◌+◌, ◌&&◌, ◌||◌, ℕ, Bool, true, false, cond, List, [], ◌∷◌, ◌++◌, length, map, take, drop}
use Rattle.std.proofs.Common.{get_or, refl, sym, ◌∙◌, ap, subst, inl, inr}
use Rattle.std.specs.Prelude.{Contains, All, nat_eq}
use Rattle.std.specs.List.{list_all}
use Rattle.std.proofs.lemmas.Bool.{true≢false, and_parts, eqb-true}
use Rattle.std.proofs.lemmas.List.{map-append, take-append-drop}
use Rattle.std.proofs.lemmas.List.Elements.{All-contains, Contains-append_left, Contains-append_right}
use Rattle.std.proofs.lemmas.List.Folds.{list_all-append}
use Rattle.fb_values.specs.declared.facts.Datom.{Datom}
use Rattle.fb_values.specs.declared.indexes.Order.{Order}
use Rattle.fb_values.specs.declared.indexes.Order.TheVariants.{Eavt, Aevt, Avet, Vaet}
use Rattle.log_model.specs.Nodes.{Leaf, Nodes, Roots, is_among}
use Rattle.seg_tree.specs.Chunks.{BeginsWith}
use Rattle.seg_tree.specs.Nodes.{LeafNode, DirectoryNode, tree_leaves}
use Rattle.seg_tree.specs.Ids.{leaf_ids}
use Rattle.seg_tree.specs.Indexes.{tree_in}
use Rattle.seg_tree.specs.declared.roots.Roots.{Roots as SegRoots}
use Rattle.seg_tree.proofs.Making.{seen_more}
use Rattle.seg_codec.specs.declared.wanted.Wanted.{Wanted}
use Rattle.seg_codec.specs.declared.wanted.Wanted.TheVariants.{Every}
use Rattle.seg_codec.specs.Trees.{file_leaf, Has, AreTreesOf, leaves_of_four}
use Rattle.seg_codec.specs.Wanted.{is_wanted, held_leaf, held_nodes, are_wanted}
use Rattle.seg_codec.proofs.Among.{member_cases, member_here, member_there, no_member, All-made, among-append, first_of_four}
use Rattle.seg_codec.proofs.Among.{second_of_four, third_of_four, fourth_of_four}
use Rattle.seg_codec.proofs.Held.{held_id}

-- ---- members

member_of_map : {A B : Type 0} (f : A → B) (xs : List A) (y : B) → Contains (map f xs) y → (x : A) × Contains xs x × (f x ≡ y)
member_of_map f [] y member = absurd (no_member y member)
member_of_map f (x ∷ xs) y member =
    elim (member_cases (f x) y (map f xs) member) [
      | inl same ↦ (x, member_here x xs, same)
      | inr later ↦ let rest = member_of_map f xs y later in (rest.0, member_there x rest.0 xs rest.1, rest.2)
    ]

all_listed : {A : Type 0} (p : A → Bool) (xs : List A) (x : A) → list_all p xs ≡ true → Contains xs x → p x ≡ true
all_listed p [] x all member = absurd (no_member x member)
all_listed p (y ∷ xs) x all member =
    let parts = and_parts (p y) (list_all p xs) all in
    elim (member_cases y x xs member) [
      | inl same ↦ ap p (sym same) ∙ parts.0
      | inr later ↦ all_listed p xs x parts.1 later
    ]

leaf_in_tree : (ds : List DirectoryNode) (d : DirectoryNode) (leaf : LeafNode) → Contains ds d → Contains d.leaves leaf
    → Contains (tree_leaves ds) leaf
leaf_in_tree [] d leaf member inside = absurd (no_member d member)
leaf_in_tree (x ∷ ds) d leaf member inside =
    elim (member_cases x d ds member) [
      | inl same ↦ Contains-append_left x.leaves (tree_leaves ds) leaf
          (subst (λ (y : DirectoryNode). Contains y.leaves leaf) (sym same) inside)
      | inr later ↦ Contains-append_right x.leaves (tree_leaves ds) leaf (leaf_in_tree ds d leaf later inside)
    ]

leaf_of_four : (trees : SegRoots) (order : Order) (leaf : LeafNode) → Contains (tree_leaves (tree_in trees order)) leaf
    → Contains (leaves_of_four trees) leaf
leaf_of_four trees Eavt leaf =
    first_of_four (tree_leaves trees.eavt) (tree_leaves trees.aevt) (tree_leaves trees.avet) (tree_leaves trees.vaet) leaf
leaf_of_four trees Aevt leaf =
    second_of_four (tree_leaves trees.eavt) (tree_leaves trees.aevt) (tree_leaves trees.avet) (tree_leaves trees.vaet) leaf
leaf_of_four trees Avet leaf =
    third_of_four (tree_leaves trees.eavt) (tree_leaves trees.aevt) (tree_leaves trees.avet) (tree_leaves trees.vaet) leaf
leaf_of_four trees Vaet leaf =
    fourth_of_four (tree_leaves trees.eavt) (tree_leaves trees.aevt) (tree_leaves trees.avet) (tree_leaves trees.vaet) leaf

-- ---- trees that are held whole are the file's

module _ (wanted : Wanted) (nodes : Nodes) where
  whole_leaf : (l : Leaf) (leaf : LeafNode) → Contains nodes.leaves l → held_leaf wanted l ≡ file_leaf leaf
      → is_wanted wanted leaf.id ≡ true → Contains nodes.leaves (file_leaf leaf)
  whole_leaf l leaf member same is =
      let id : l.id ≡ leaf.id = sym (held_id wanted l) ∙ ap (λ (x : Leaf). x.id) same in
      let whole : held_leaf wanted l ≡ l =
      ap (λ b. cond b l (record { id = l.id; datoms = take 1 l.datoms })) (ap (is_wanted wanted) id ∙ is) in
      subst (λ x. Contains nodes.leaves x) (sym whole ∙ same) member

  pub trees_held : (ids : Roots) (trees : SegRoots) → AreTreesOf (held_nodes wanted nodes) ids trees → are_wanted wanted trees ≡ true
      → AreTreesOf nodes ids trees
  trees_held ids trees are all = record {
    named = are.named;
    there = λ order. All-made (Has nodes) (tree_in trees order) (λ d member.
        let has = All-contains (Has (held_nodes wanted nodes)) (tree_in trees order) d (are.there order) member in record {
          itself = has.itself;
          leaves = All-made (λ leaf. Contains nodes.leaves (file_leaf leaf)) d.leaves (λ leaf inside.
              let held = All-contains (λ l. Contains (held_nodes wanted nodes).leaves (file_leaf l)) d.leaves leaf has.leaves inside in
              let from = member_of_map (held_leaf wanted) nodes.leaves (file_leaf leaf) held in
              whole_leaf from.0 leaf from.1 from.2
              (all_listed (λ (l : LeafNode). is_wanted wanted l.id) (leaves_of_four trees) leaf all
              (leaf_of_four trees order leaf (leaf_in_tree (tree_in trees order) d leaf member inside))));
        });
  }

pub every_wanted : (trees : SegRoots) → are_wanted Every trees ≡ true
every_wanted trees = go (leaves_of_four trees)
  where
    go : (leaves : List LeafNode) → list_all (λ (l : LeafNode). is_wanted Every l.id) leaves ≡ true
    go [] = refl
    go (l ∷ leaves) = go leaves

pub every_nodes : (nodes : Nodes) → held_nodes Every nodes ≡ nodes
every_nodes nodes i = record { leaves = go nodes.leaves i; directories = nodes.directories }
  where
    go : (leaves : List Leaf) → map (held_leaf Every) leaves ≡ leaves
    go [] = refl
    go (l ∷ leaves) = ap (λ ls. l ∷ ls) (go leaves)

-- ---- one leaf after another

module _ {X : Type 0} (now : X → LeafNode) (items : List X) (i : ℕ) (x : X) (below : i < length items) (is : x ≡ get_or items i x) where
  all_to : (p : LeafNode → Bool) (b : Bool) → list_all p (map now (take i items)) ≡ true → p (now x) ≡ b
      → list_all p (map now (take (i + 1) items)) ≡ b
  all_to p b before here =
      ap (list_all p) (seen_more now items i x below is)
      ∙ list_all-append p (map now (take i items)) (now x ∷ [])
      ∙ (λ j. before j && (here j && true)) ∙ and_true b
    where
      and_true : (c : Bool) → (true && (c && true)) ≡ c
      and_true true = refl
      and_true false = refl

  pub all_more_wanted : (p : LeafNode → Bool) → list_all p (map now (take i items)) ≡ true → p (now x) ≡ true
      → list_all p (map now (take (i + 1) items)) ≡ true
  all_more_wanted p before here = all_to p true before here

  pub one_unwanted : (p : LeafNode → Bool) → list_all p (map now (take i items)) ≡ true → p (now x) ≡ false
      → list_all p (map now items) ≡ false
  one_unwanted p before here =
      ap (list_all p) (ap (map now) (sym (take-append-drop (i + 1) items)) ∙ map-append now (take (i + 1) items) (drop (i + 1) items))
      ∙ list_all-append p (map now (take (i + 1) items)) (map now (drop (i + 1) items))
      ∙ ap (λ b. b && list_all p (map now (drop (i + 1) items))) (all_to p false before here)

  pub one_more_among : (a b : Bool) (id : ℕ) → b ≡ (a || is_among (leaf_ids (map now (take i items))) id)
      → (b || is_among (leaf_ids (now x ∷ [])) id) ≡ (a || is_among (leaf_ids (map now (take (i + 1) items))) id)
  one_more_among a b id so_far =
      ap (λ c. c || is_among (leaf_ids (now x ∷ [])) id) so_far
      ∙ or_assoc a _ _
      ∙ ap (λ c. a || c) (sym (ap (λ ls. is_among (leaf_ids ls) id) (seen_more now items i x below is)
      ∙ ap (λ l. is_among l id) (map-append (λ (l : LeafNode). l.id) (map now (take i items)) (now x ∷ []))
      ∙ among-append (leaf_ids (map now (take i items))) (leaf_ids (now x ∷ [])) id))
    where
      or_assoc : (p q r : Bool) → ((p || q) || r) ≡ (p || (q || r))
      or_assoc true q r = refl
      or_assoc false q r = refl

pub none_more : (b : Bool) → b ≡ (b || false)
none_more true = refl
none_more false = refl

-- an id that is there already
pub among_known : (ids : List ℕ) (known id : ℕ) → is_among ids known ≡ true → is_among ids id ≡ (is_among ids id || is_among (known ∷ []) id)
among_known ids known id there = go (nat_eq id known) refl
  where
    go : (b : Bool) → nat_eq id known ≡ b → is_among ids id ≡ (is_among ids id || (nat_eq id known || false))
    go true is =
        let here : is_among ids id ≡ true = ap (is_among ids) (eqb-true id known is) ∙ there in
        here ∙ ap (λ b. b || (nat_eq id known || false)) (sym here)
    go false is = none_more (is_among ids id) ∙ ap (λ b. is_among ids id || (b || false)) (sym is)

pub among_four : (trees : SegRoots) (id : ℕ)
    → (((is_among (leaf_ids (tree_leaves trees.eavt)) id || is_among (leaf_ids (tree_leaves trees.aevt)) id)
    || is_among (leaf_ids (tree_leaves trees.avet)) id) || is_among (leaf_ids (tree_leaves trees.vaet)) id)
    ≡ is_among (leaf_ids (leaves_of_four trees)) id
among_four trees id =
    let e = tree_leaves trees.eavt in
    let a = tree_leaves trees.aevt in
    let v = tree_leaves trees.avet in
    let r = tree_leaves trees.vaet in
    ap (λ b. (b || is_among (leaf_ids v) id) || is_among (leaf_ids r) id) (two e a)
    ∙ ap (λ b. b || is_among (leaf_ids r) id) (two (e ++ a) v)
    ∙ two (e ++ a ++ v) r
  where
    two : (xs ys : List LeafNode) → (is_among (leaf_ids xs) id || is_among (leaf_ids ys) id) ≡ is_among (leaf_ids (xs ++ ys)) id
    two xs ys = sym (ap (λ l. is_among l id) (map-append (λ (l : LeafNode). l.id) xs ys) ∙ among-append (leaf_ids xs) (leaf_ids ys) id)

pub all_of_four : (p : LeafNode → Bool) (e a v r : List LeafNode)
    → list_all p (e ++ a ++ v ++ r) ≡ (((list_all p e && list_all p a) && list_all p v) && list_all p r)
all_of_four p e a v r =
    list_all-append p (e ++ a ++ v) r
    ∙ ap (λ b. b && list_all p r) (list_all-append p (e ++ a) v ∙ ap (λ b. b && list_all p v) (list_all-append p e a))

-- the first datom alone
pub first_alone : (datoms : List Datom) (first : Datom) → BeginsWith datoms first → first ∷ [] ≡ take 1 datoms
first_alone [] first begins = absurd begins
first_alone (d ∷ datoms) first begins = ap (λ x. x ∷ []) (sym begins)
