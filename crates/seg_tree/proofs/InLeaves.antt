-- Places in the leaves of a directory.
use Rattle.std.proofs.Common.{◌≡◌, ℕ, zero, suc, ◌+◌, ◌-◌, ◌<◌, ◌≤◌, List, [], ◌∷◌, length, map, take, refl, ap, ◌∙◌, subst, arith, Some}
use Rattle.std.proofs.Common.{None, add-one, inl, inr}
use Rattle.std.specs.List.{slice_get, All}
use Rattle.std.specs.Option.{option_map}
use Rattle.std.proofs.lemmas.Option.{slice_get-map, slice_get_within, get_or_from_slice_get, slice_get_cases}
use Rattle.fb_values.specs.declared.facts.Datom.{Datom}
use Rattle.fb_values.specs.declared.indexes.Probe.{Probe}
use Rattle.fb_values.specs.Rising.{IsRising}
use Rattle.fb_search.specs.Places.{place_of}
use Rattle.fb_search.proofs.Below.{place_of-le-length}
use Rattle.fb_search.proofs.Ends.{rising-append_left, rising-append_right}
use Rattle.seg_tree.specs.Chunks.{joined, AreFirsts}
use Rattle.seg_tree.specs.Nodes.{LeafNode, DirectoryNode, leaf_datoms}
use Rattle.seg_tree.specs.Ranks.{leaf_rank, IsInside}
use Rattle.seg_tree.proofs.Pieces.{in_piece, get-chunk_rank, chunk_rank-inside, chunk_rank-past, chunk_rank-none, chunk_rank-next}
use Rattle.seg_tree.proofs.Pieces.{chunk_rank-start, joined-take}
use Rattle.seg_tree.proofs.Seeks.{place_of-piece}

abbrev pub pieces : List LeafNode → List (List Datom)
pieces leaves = map (λ leaf. leaf.datoms) leaves

pub length-pieces : (leaves : List LeafNode) → length (pieces leaves) ≡ length leaves
length-pieces [] = refl
length-pieces (l ∷ leaves) = omega (arith, length-pieces leaves)

pub piece_some : (leaves : List LeafNode) (k : ℕ) (leaf : LeafNode) → slice_get leaves k ≡ Some leaf
    → slice_get (pieces leaves) k ≡ Some leaf.datoms
piece_some leaves k leaf read =
    slice_get-map (λ (l : LeafNode). l.datoms) leaves k ∙ ap (λ o. option_map (λ (l : LeafNode). l.datoms) o) read

pub piece_none : (leaves : List LeafNode) (k : ℕ) → slice_get leaves k ≡ None → slice_get (pieces leaves) k ≡ None
piece_none leaves k read = slice_get-map (λ (l : LeafNode). l.datoms) leaves k ∙ ap (λ o. option_map (λ (l : LeafNode). l.datoms) o) read

pub at_leaf : (leaves : List LeafNode) (k n : ℕ) (leaf : LeafNode) → slice_get leaves k ≡ Some leaf
    → slice_get (leaf_datoms leaves) (leaf_rank leaves k n) ≡ slice_get leaf.datoms n
at_leaf leaves k n leaf read = get-chunk_rank (pieces leaves) k n ∙ ap (λ o. in_piece o n) (piece_some leaves k leaf read)

pub at_no_leaf : (leaves : List LeafNode) (k n : ℕ) → slice_get leaves k ≡ None
    → slice_get (leaf_datoms leaves) (leaf_rank leaves k n) ≡ None
at_no_leaf leaves k n read = get-chunk_rank (pieces leaves) k n ∙ ap (λ o. in_piece o n) (piece_none leaves k read)

pub rank_no_leaf : (leaves : List LeafNode) (k n : ℕ) → slice_get leaves k ≡ None → leaf_rank leaves k n ≡ length (leaf_datoms leaves)
rank_no_leaf leaves k n read = chunk_rank-none (pieces leaves) k n (piece_none leaves k read)

pub rank_past : (leaves : List LeafNode) (k n : ℕ) (leaf : LeafNode) → slice_get leaves k ≡ Some leaf → length leaf.datoms ≤ n
    → leaf_rank leaves k n ≡ length (leaf_datoms leaves)
rank_past leaves k n leaf read past = chunk_rank-past (pieces leaves) k n leaf.datoms (piece_some leaves k leaf read) past

pub rank_inside : (leaves : List LeafNode) (k n : ℕ) (leaf : LeafNode) → slice_get leaves k ≡ Some leaf → n < length leaf.datoms
    → leaf_rank leaves k n ≡ length (joined (take k (pieces leaves))) + n
rank_inside leaves k n leaf read within = chunk_rank-inside (pieces leaves) k n leaf.datoms (piece_some leaves k leaf read) within

pub rank_within : (leaves : List LeafNode) (k n : ℕ) (leaf : LeafNode) → slice_get leaves k ≡ Some leaf → n < length leaf.datoms
    → leaf_rank leaves k n < length (leaf_datoms leaves)
rank_within leaves k n leaf read within =
    omega (arith, rank_inside leaves k n leaf read within, joined-take (pieces leaves) k leaf.datoms (piece_some leaves k leaf read))

pub rank_step : (leaves : List LeafNode) (k n : ℕ) (leaf : LeafNode) → slice_get leaves k ≡ Some leaf → n + 1 < length leaf.datoms
    → leaf_rank leaves k (n + 1) ≡ leaf_rank leaves k n + 1
rank_step leaves k n leaf read within =
    omega (arith, rank_inside leaves k (n + 1) leaf read within, rank_inside leaves k n leaf read (omega arith))

pub rank_over : (hs : List Datom) (leaves : List LeafNode) (k : ℕ) (leaf : LeafNode) → AreFirsts hs (pieces leaves)
    → slice_get leaves k ≡ Some leaf → leaf_rank leaves (k + 1) 0 ≡ length (joined (take k (pieces leaves))) + length leaf.datoms
rank_over hs leaves k leaf h read = rw (add-one k) (chunk_rank-next hs (pieces leaves) k leaf.datoms h (piece_some leaves k leaf read))

pub rank_next_leaf : (hs : List Datom) (leaves : List LeafNode) (k n : ℕ) (leaf : LeafNode) → AreFirsts hs (pieces leaves)
    → slice_get leaves k ≡ Some leaf → n < length leaf.datoms → length leaf.datoms ≤ n + 1
    → leaf_rank leaves (k + 1) 0 ≡ leaf_rank leaves k n + 1
rank_next_leaf hs leaves k n leaf h read within last =
    omega (arith, rank_over hs leaves k leaf h read, rank_inside leaves k n leaf read within)

pub inside_start : (hs : List Datom) (leaves : List LeafNode) (k : ℕ) → AreFirsts hs (pieces leaves) → IsInside leaves k 0
inside_start hs leaves k h within = chunk_rank-start hs (pieces leaves) k h (omega (arith, length-pieces leaves))

pub seek_leaf : (p : Probe) (hs : List Datom) (leaves : List LeafNode) (behind : ℕ) (leaf : LeafNode) → AreFirsts hs (pieces leaves)
    → IsRising p.order (leaf_datoms leaves) → behind ≡ place_of p hs → 0 < behind → slice_get leaves (behind - 1) ≡ Some leaf
    → place_of p (leaf_datoms leaves) ≡ length (joined (take (behind - 1) (pieces leaves))) + place_of p leaf.datoms
seek_leaf p hs leaves behind leaf h rising is some read =
    let found : place_of p hs ≡ suc (behind - 1) = omega arith in
    place_of-piece p hs (pieces leaves) (behind - 1) leaf.datoms h rising found (piece_some leaves (behind - 1) leaf read)

-- a leaf of rising leaves rises
pub rising_leaf : (p : Probe) (leaves : List LeafNode) (k : ℕ) (leaf : LeafNode) → IsRising p.order (leaf_datoms leaves)
    → slice_get leaves k ≡ Some leaf → IsRising p.order leaf.datoms
rising_leaf p [] k leaf rising read = absurd (cc)
rising_leaf p (x ∷ leaves) zero leaf rising read =
    let same : x ≡ leaf = cc in rw (← same) (rising-append_left p.order x.datoms (leaf_datoms leaves) rising)
rising_leaf p (x ∷ leaves) (suc k) leaf rising read =
    rising_leaf p leaves k leaf (rising-append_right p.order x.datoms (leaf_datoms leaves) rising) read

-- the first datoms that a directory keeps, seen from outside
pub firsts_of : (hs : List Datom) {inside now : DirectoryNode} → inside ≡ now → AreFirsts hs (pieces inside.leaves)
    → AreFirsts hs (pieces now.leaves)
firsts_of hs e h = subst (λ (d : DirectoryNode). AreFirsts hs (pieces d.leaves)) e h

pub is_there : {X : Type 0} (xs : List X) (k : ℕ) → k < length xs → None ≡ slice_get xs k → ⊥
is_there xs k within none =
    elim (slice_get_cases xs k).1 [
      | inl found ↦ absurd (cc (found.2))
      | inr past ↦ absurd (let p = past.0 in omega arith)
    ]

pub all_read : {X : Type 0} (P : X → Type 0) (xs : List X) (k : ℕ) (x : X) → All P xs → slice_get xs k ≡ Some x → P x
all_read P xs k x all read = subst P (get_or_from_slice_get xs k x x read) (all k x (slice_get_within xs k x read))

-- a place that is not inside a leaf is behind its last datom
pub full : (p : Probe) (ds : List Datom) (n : ℕ) → n ≡ place_of p ds → length ds ≤ n → place_of p ds ≡ length ds
full p ds n is past = omega (arith, place_of-le-length p ds)

pub few_of : {inside now : DirectoryNode} → inside ≡ now → length inside.leaves ≤ 512 → length now.leaves ≤ 512
few_of e few = subst (λ (d : DirectoryNode). length d.leaves ≤ 512) e few
