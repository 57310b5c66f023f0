-- Directories and roots that are made of their children, one after another.
use Rattle.std.proofs.Common.{◌≡◌, ℕ, ◌+◌, ◌<◌, ◌≤◌, max, List, [], ◌∷◌, ◌++◌, length, map, take, get_or, refl, sym, ap, ◌∙◌, subst, arith}
use Rattle.std.proofs.Common.{append_assoc, append-nil}
use Rattle.std.specs.List.{All}
use Rattle.std.proofs.lemmas.List.{take_more, map-append}
use Rattle.std.proofs.lemmas.List.Elements.{All-push}
use Rattle.fb_values.specs.declared.facts.Datom.{Datom}
use Rattle.seg_tree.specs.Chunks.{joined, BeginsWith, AreFirsts}
use Rattle.seg_tree.specs.Nodes.{LeafNode, DirectoryNode, leaf_datoms, tree_datoms, tree_leaves}
use Rattle.seg_tree.specs.Ids.{leaf_ids, directory_ids, node_ids, next_above}

-- the children that were seen, and the next one
pub seen_more : {X Y : Type 0} (now : X → Y) (xs : List X) (i : ℕ) (x : X) → i < length xs → x ≡ get_or xs i x
    → map now (take (i + 1) xs) ≡ map now (take i xs) ++ now x ∷ []
seen_more now xs i x within is =
    ap (map now) (take_more xs i x within)
    ∙ map-append now (take i xs) (get_or xs i x ∷ [])
    ∙ ap (λ y. map now (take i xs) ++ now y ∷ []) (sym is)

AreFirsts-push : (hs : List Datom) (cs : List (List Datom)) (d : Datom) (c : List Datom) → AreFirsts hs cs → BeginsWith c d
    → AreFirsts (hs ++ d ∷ []) (cs ++ c ∷ [])
AreFirsts-push [] [] d c h begins = (begins, tt)
AreFirsts-push [] (b ∷ cs) d c h begins = absurd h
AreFirsts-push (f ∷ hs) [] d c h begins = absurd h
AreFirsts-push (f ∷ hs) (b ∷ cs) d c h begins = (h.0, AreFirsts-push hs cs d c h.1 begins)

pub firsts_more : {X Y : Type 0} (now : X → Y) (part : Y → List Datom) (xs : List X) (i : ℕ) (x : X) (hs : List Datom) (d : Datom)
    → i < length xs → x ≡ get_or xs i x → AreFirsts hs (map part (map now (take i xs))) → BeginsWith (part (now x)) d
    → AreFirsts (hs ++ d ∷ []) (map part (map now (take (i + 1) xs)))
firsts_more now part xs i x hs d within is h begins =
    let e = ap (map part) (seen_more now xs i x within is) ∙ map-append part (map now (take i xs)) (now x ∷ []) in
    subst (AreFirsts (hs ++ d ∷ [])) (sym e) (AreFirsts-push hs (map part (map now (take i xs))) d (part (now x)) h begins)

pub all_more : {X Y : Type 0} (P : Y → Type 0) (now : X → Y) (xs : List X) (i : ℕ) (x : X) → i < length xs → x ≡ get_or xs i x
    → All P (map now (take i xs)) → P (now x) → All P (map now (take (i + 1) xs))
all_more P now xs i x within is all here =
    subst (All P) (sym (seen_more now xs i x within is)) (All-push P (map now (take i xs)) (now x) all here)

next_above-mid : (xs ys : List ℕ) (x : ℕ) → next_above ((xs ++ x ∷ []) ++ ys) ≡ max (next_above (xs ++ ys)) (x + 1)
next_above-mid [] ys x = omega arith
next_above-mid (z ∷ xs) ys x = omega (arith, next_above-mid xs ys x)

-- a leaf more before the directory's own id
pub next_above_leaf : {X : Type 0} (now : X → LeafNode) (xs : List X) (i : ℕ) (x : X) (own : List ℕ) → i < length xs → x ≡ get_or xs i x
    → next_above (leaf_ids (map now (take (i + 1) xs)) ++ own) ≡ max (next_above (leaf_ids (map now (take i xs)) ++ own)) ((now x).id + 1)
next_above_leaf now xs i x own within is =
    ap (λ (leaves : List LeafNode). next_above (leaf_ids leaves ++ own)) (seen_more now xs i x within is)
    ∙ ap (λ (ids : List ℕ). next_above (ids ++ own)) (map-append (λ (leaf : LeafNode). leaf.id) (map now (take i xs)) (now x ∷ []))
    ∙ next_above-mid (leaf_ids (map now (take i xs))) own (now x).id

next_above-some : (xs : List ℕ) → 1 ≤ next_above xs
next_above-some [] = omega arith
next_above-some (x ∷ xs) = omega (arith, next_above-some xs)

pub next_above_append : (xs ys : List ℕ) → next_above (xs ++ ys) ≡ max (next_above xs) (next_above ys)
next_above_append [] ys = omega (arith, next_above-some ys)
next_above_append (x ∷ xs) ys = omega (arith, next_above_append xs ys)

pub node_ids-push : (ds : List DirectoryNode) (d : DirectoryNode) → node_ids (ds ++ d ∷ []) ≡ node_ids ds ++ directory_ids d
node_ids-push [] d = append-nil (directory_ids d)
node_ids-push (x ∷ ds) d =
    ap (λ ids. directory_ids x ++ ids) (node_ids-push ds d) ∙ sym (append_assoc (directory_ids x) (node_ids ds) (directory_ids d))

-- a directory more
pub next_above_directory : {X : Type 0} (now : X → DirectoryNode) (xs : List X) (i : ℕ) (x : X) → i < length xs → x ≡ get_or xs i x
    → next_above (node_ids (map now (take (i + 1) xs)))
    ≡ max (next_above (node_ids (map now (take i xs)))) (next_above (directory_ids (now x)))
next_above_directory now xs i x within is =
    ap (λ (ds : List DirectoryNode). next_above (node_ids ds)) (seen_more now xs i x within is)
    ∙ ap next_above (node_ids-push (map now (take i xs)) (now x))
    ∙ next_above_append (node_ids (map now (take i xs))) (directory_ids (now x))

pub tree_leaves-push : (ds : List DirectoryNode) (d : DirectoryNode) → tree_leaves (ds ++ d ∷ []) ≡ tree_leaves ds ++ d.leaves
tree_leaves-push [] d = append-nil d.leaves
tree_leaves-push (x ∷ ds) d =
    ap (λ leaves. x.leaves ++ leaves) (tree_leaves-push ds d) ∙ sym (append_assoc x.leaves (tree_leaves ds) d.leaves)

pub leaves_more : {X : Type 0} (now : X → DirectoryNode) (xs : List X) (i : ℕ) (x : X) → i < length xs → x ≡ get_or xs i x
    → tree_leaves (map now (take (i + 1) xs)) ≡ tree_leaves (map now (take i xs)) ++ (now x).leaves
leaves_more now xs i x within is = ap tree_leaves (seen_more now xs i x within is) ∙ tree_leaves-push (map now (take i xs)) (now x)

pub joined-append : (xs ys : List (List Datom)) → joined (xs ++ ys) ≡ joined xs ++ joined ys
joined-append [] ys = refl
joined-append (x ∷ xs) ys = ap (λ ds. x ++ ds) (joined-append xs ys) ∙ sym (append_assoc x (joined xs) (joined ys))

pub leaf_datoms-append : (xs ys : List LeafNode) → leaf_datoms (xs ++ ys) ≡ leaf_datoms xs ++ leaf_datoms ys
leaf_datoms-append xs ys =
    ap joined (map-append (λ (leaf : LeafNode). leaf.datoms) xs ys)
    ∙ joined-append (map (λ (leaf : LeafNode). leaf.datoms) xs) (map (λ (leaf : LeafNode). leaf.datoms) ys)

-- a tree's datoms are those of its leaves
pub tree_datoms-leaves : (ds : List DirectoryNode) → tree_datoms ds ≡ leaf_datoms (tree_leaves ds)
tree_datoms-leaves [] = refl
tree_datoms-leaves (d ∷ ds) =
    ap (λ more. leaf_datoms d.leaves ++ more) (tree_datoms-leaves ds) ∙ sym (leaf_datoms-append d.leaves (tree_leaves ds))
