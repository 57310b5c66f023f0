-- The greatest user number of a history stands at the ends of the two lists of EAVT.
use Rattle.std.proofs.Common.{◌≡◌, ◌∙◌, ℕ, zero, suc, ◌-◌, ◌<◌, ◌≤◌, inl, inr, List, [], ◌∷◌, ◌++◌, length, refl, sym, ap, subst, arith}
use Rattle.std.proofs.Common.{Option, Some, None, max}
use Rattle.std.specs.Prelude.{Contains, map}
use Rattle.std.specs.List.{slice_get}
use Rattle.std.specs.Option.{option_map_or}
use Rattle.fb_values.specs.declared.facts.Datom.{Datom}
use Rattle.fb_values.specs.declared.indexes.Order.TheVariants.{Eavt}
use Rattle.fb_values.specs.Rising.{IsRising}
use Rattle.fb_numbers.specs.Numbers.{user_number}
use Rattle.fb_model.specs.History.{said, users_in, users_issued}
use Rattle.live_index.proofs.Members.{contains-cons, contains_head, contains_tail, contains_none}
use Rattle.seg_tree.specs.Chunks.{joined}
use Rattle.seg_tree.specs.Nodes.{LeafNode, DirectoryNode, leaf_datoms, tree_datoms}
use Rattle.fb_view.specs.SnapshotModel.{SnapshotModel, Stands}
use Rattle.fb_view.proofs.Lists.{there_is}
use Rattle.fb_view.proofs.Lasting.{e_upto}
use Rattle.fb_view.proofs.Telling.{pair_stands, was_said, in_one}

abbrev pub user_at : Option Datom → ℕ
user_at found = option_map_or (λ d. user_number d.e) found 0

user_member : (ds : List Datom) (d : Datom) → Contains ds d → user_number d.e ≤ users_in ds
user_member [] d there = absurd (contains_none d there)
user_member (x ∷ ds) d there =
    elim (contains-cons x ds d there) [
      | inl same ↦ subst (λ (z : Datom). user_number z.e ≤ max (user_number x.e) (users_in ds)) same (omega arith)
      | inr behind ↦ let rest = user_member ds d behind in omega (arith, rest)
    ]

users_bound : (ds : List Datom) (n : ℕ) → ((d : Datom) → Contains ds d → user_number d.e ≤ n) → users_in ds ≤ n
users_bound [] n each = omega arith
users_bound (d ∷ ds) n each =
    let first = each d (contains_head d ds d refl) in
    let rest = users_bound ds n (λ x there. each x (contains_tail d ds x there)) in
    omega (arith, first, rest)

less_user : (d y : ℕ) → d ≤ y → user_number d ≤ user_number y
less_user d y upto = omega (arith, upto)

-- in EAVT the last datom's entity is the greatest
pub users_last : (ds : List Datom) → IsRising Eavt ds → users_in ds ≡ user_at (slice_get ds (length ds - 1))
users_last [] rising = refl
users_last (d ∷ []) rising = omega arith
users_last (d ∷ y ∷ ds) rising =
    let rest = users_last (y ∷ ds) rising.1 in
    let low = less_user d.e y.e (e_upto d y rising.0.0) in
    let first = user_member (y ∷ ds) y (contains_head y ds y refl) in
    let at : slice_get (d ∷ y ∷ ds) (length (d ∷ y ∷ ds) - 1) ≡ slice_get (y ∷ ds) (length (y ∷ ds) - 1) = last_behind (length ds) in
    let top : users_in (d ∷ y ∷ ds) ≡ users_in (y ∷ ds) = omega (arith, low, first) in
    top ∙ rest ∙ ap user_at (sym at)
  where
    last_behind : (n : ℕ) → slice_get (d ∷ y ∷ ds) (suc (suc n) - 1) ≡ slice_get (y ∷ ds) (suc n - 1)
    last_behind n = let one : suc (suc n) - 1 ≡ suc n = omega arith in let less : suc n - 1 ≡ n = omega arith in rw (one, less) refl

pub users_stand : (k : SnapshotModel) (stands : Stands k)
    → users_issued k.entries ≡ max (users_in (tree_datoms k.roots.eavt)) (users_in k.live.eavt)
users_stand k stands =
    let low =
    users_bound (said k.entries) (max (users_in (tree_datoms k.roots.eavt)) (users_in k.live.eavt))
    (λ d there. elim (in_one k stands Eavt d there refl) [
      | inl older ↦ let at = user_member (tree_datoms k.roots.eavt) d older in omega (arith, at)
      | inr live ↦ let at = user_member k.live.eavt d live in omega (arith, at)
    ]) in
    let older =
    users_bound (tree_datoms k.roots.eavt) (users_in (said k.entries))
    (λ d there. user_member (said k.entries) d (was_said k stands Eavt d (inl there))) in
    let live =
    users_bound k.live.eavt (users_in (said k.entries))
    (λ d there. user_member (said k.entries) d (was_said k stands Eavt d (inr there))) in
    omega (arith, low, older, live)

-- ---- the last datom of pieces end to end is that of the last piece

last_append : (xs ys : List Datom) → 0 < length ys → slice_get (xs ++ ys) (length (xs ++ ys) - 1) ≡ slice_get ys (length ys - 1)
last_append [] ys some = refl
last_append (x ∷ xs) ys some =
    let longer : 0 < length (xs ++ ys) = omega (arith, some, longer_than xs) in
    step (length (xs ++ ys)) longer ∙ last_append xs ys some
  where
    longer_than : (xs : List Datom) → length ys ≤ length (xs ++ ys)
    longer_than [] = omega arith
    longer_than (z ∷ zs) = omega (arith, longer_than zs)

    step : (n : ℕ) → 0 < n → slice_get (x ∷ (xs ++ ys)) (suc n - 1) ≡ slice_get (xs ++ ys) (n - 1)
    step zero none = absurd (omega arith)
    step (suc n) some = let one : suc (suc n) - 1 ≡ suc n = omega arith in let less : suc n - 1 ≡ n = omega arith in rw (one, less) refl

-- where the last one has a datom
pub joined_last : (cs : List (List Datom)) (c : List Datom) → slice_get cs (length cs - 1) ≡ Some c → 0 < length c
    → slice_get (joined cs) (length (joined cs) - 1) ≡ slice_get c (length c - 1)
joined_last [] c read some = absurd (cc)
joined_last (b ∷ []) c read some =
    let same : b ≡ c = cc in
    rw (append-nil b, same) refl
  where
    append-nil : (xs : List Datom) → xs ++ [] ≡ xs
    append-nil [] = refl
    append-nil (x ∷ xs) = ap (λ l. x ∷ l) (append-nil xs)
joined_last (b ∷ d ∷ cs) c read some =
    let back : slice_get (d ∷ cs) (length (d ∷ cs) - 1) ≡ Some c = sym (last_behind (length cs)) ∙ read in
    let rest = joined_last (d ∷ cs) c back some in
    last_append b (joined (d ∷ cs)) (has_one (joined (d ∷ cs)) rest) ∙ rest
  where
    last_behind : (n : ℕ) → slice_get (b ∷ d ∷ cs) (suc (suc n) - 1) ≡ slice_get (d ∷ cs) (suc n - 1)
    last_behind n = let one : suc (suc n) - 1 ≡ suc n = omega arith in let less : suc n - 1 ≡ n = omega arith in rw (one, less) refl

    has_one : (xs : List Datom) → slice_get xs (length xs - 1) ≡ slice_get c (length c - 1) → 0 < length xs
    has_one [] none = absurd (there_is c (length c - 1) (omega (arith, some)) (sym none))
    has_one (x ∷ xs) found = omega arith

get_map : {X Y : Type 0} (f : X → Y) (xs : List X) (i : ℕ) (x : X) → slice_get xs i ≡ Some x → slice_get (map f xs) i ≡ Some (f x)
get_map f [] i x read = absurd (cc)
get_map f (y ∷ xs) zero x read = let same : y ≡ x = cc in ap (λ z. Some (f z)) same
get_map f (y ∷ xs) (suc i) x read = get_map f xs i x read

map_length : {X Y : Type 0} (f : X → Y) (xs : List X) → length (map f xs) ≡ length xs
map_length f [] = refl
map_length f (x ∷ xs) = ap suc (map_length f xs)

get_last_map : {X Y : Type 0} (f : X → Y) (xs : List X) (x : X) → slice_get xs (length xs - 1) ≡ Some x
    → slice_get (map f xs) (length (map f xs) - 1) ≡ Some (f x)
get_last_map f xs x read = rw (map_length f xs) (get_map f xs (length xs - 1) x read)

has_some : (xs ys : List Datom) → 0 < length ys → slice_get xs (length xs - 1) ≡ slice_get ys (length ys - 1) → 0 < length xs
has_some [] ys some none = absurd (there_is ys (length ys - 1) (omega (arith, some)) (sym none))
has_some (x ∷ xs) ys some found = omega arith

-- the last datom of a tree is that of the last leaf of the last directory
pub last_in_tree : (tree : List DirectoryNode) (directory : DirectoryNode) (leaf : LeafNode)
    → slice_get tree (length tree - 1) ≡ Some directory → slice_get directory.leaves (length directory.leaves - 1) ≡ Some leaf
    → 0 < length leaf.datoms
    → slice_get (tree_datoms tree) (length (tree_datoms tree) - 1) ≡ slice_get leaf.datoms (length leaf.datoms - 1)
last_in_tree tree directory leaf at_directory at_leaf some =
    let in_directory =
    joined_last (map (λ l. l.datoms) directory.leaves) leaf.datoms
    (get_last_map (λ (l : LeafNode). l.datoms) directory.leaves leaf at_leaf) some in
    joined_last (map (λ d. leaf_datoms d.leaves) tree)
    (leaf_datoms directory.leaves) (get_last_map (λ (d : DirectoryNode). leaf_datoms d.leaves) tree directory at_directory)
    (has_some (leaf_datoms directory.leaves) leaf.datoms some in_directory)
    ∙ in_directory

pub none_in_tree : (tree : List DirectoryNode) → slice_get tree (length tree - 1) ≡ None
    → slice_get (tree_datoms tree) (length (tree_datoms tree) - 1) ≡ None
none_in_tree [] none = refl
none_in_tree (d ∷ tree) none = absurd (there_is (d ∷ tree) (length (d ∷ tree) - 1) (omega arith) none)

pub at_last : {X Y : Type 0} (f : X → Y) (xs : List X) (ys : List Y) (x : X) (y : Y) → map f xs ≡ ys → Some x ≡ slice_get xs (length xs - 1)
    → y ≡ f x → slice_get ys (length ys - 1) ≡ Some y
at_last {X} {Y} f xs ys x y same read is =
    subst (λ (l : List Y). slice_get l (length l - 1) ≡ Some y) same (get_last_map f xs x (sym read) ∙ ap Some (sym is))

-- ---- the greatest of both

pub users_answer : (k : SnapshotModel) (stands : Stands k) (x y : ℕ)
    → x ≡ user_at (slice_get (tree_datoms k.roots.eavt) (length (tree_datoms k.roots.eavt) - 1))
    → y ≡ user_at (slice_get k.live.eavt (length k.live.eavt - 1)) → max x y ≡ users_issued k.entries
users_answer k stands x y is_x is_y =
    let pair = pair_stands k stands Eavt in
    let all = users_stand k stands in
    let older : x ≡ users_in (tree_datoms k.roots.eavt) = is_x ∙ sym (users_last (tree_datoms k.roots.eavt) pair.older_rises) in
    let live : y ≡ users_in k.live.eavt = is_y ∙ sym (users_last k.live.eavt pair.live_rises) in
    omega (arith, older, live, all)
