-- Places in the directories of a tree.
use Rattle.std.proofs.Common.{◌≡◌, ℕ, zero, suc, ◌+◌, ◌-◌, ◌<◌, ◌≤◌, min, List, [], ◌∷◌, length, map, take, refl, sym, ap, ◌∙◌, subst}
use Rattle.std.proofs.Common.{arith, Some, None, add-one, inl, inr}
use Rattle.std.specs.List.{slice_get}
use Rattle.std.specs.Option.{option_map, option_map_or}
use Rattle.std.proofs.lemmas.Option.{slice_get-map, slice_get_cases}
use Rattle.fb_values.specs.declared.facts.Datom.{Datom}
use Rattle.fb_values.specs.declared.indexes.Probe.{Probe}
use Rattle.fb_values.specs.Rising.{IsRising}
use Rattle.fb_search.specs.Places.{place_of}
use Rattle.fb_search.proofs.Ends.{rising-append_left, rising-append_right}
use Rattle.seg_tree.specs.Chunks.{joined, chunk_rank}
use Rattle.seg_tree.specs.Nodes.{LeafNode, DirectoryNode, leaf_datoms, tree_datoms, StartsFull, IsRoot}
use Rattle.seg_tree.specs.Ranks.{leaf_rank, rank}
use Rattle.seg_tree.specs.declared.tree.Place.{Place}
use Rattle.seg_tree.proofs.Pieces.{in_piece, get-chunk_rank, chunk_rank-inside, chunk_rank-past, chunk_rank-none, chunk_rank-next}
use Rattle.seg_tree.proofs.Pieces.{chunk_rank-first, chunk_rank-le}
use Rattle.seg_tree.proofs.Seeks.{place_of-piece}
use Rattle.seg_tree.proofs.InLeaves.{all_read}

abbrev pub parts : List DirectoryNode → List (List Datom)
parts tree = map (λ d. leaf_datoms d.leaves) tree

pub part_some : (tree : List DirectoryNode) (k : ℕ) (d : DirectoryNode) → slice_get tree k ≡ Some d
    → slice_get (parts tree) k ≡ Some (leaf_datoms d.leaves)
part_some tree k d read =
    slice_get-map (λ (x : DirectoryNode). leaf_datoms x.leaves) tree k
    ∙ ap (λ o. option_map (λ (x : DirectoryNode). leaf_datoms x.leaves) o) read

pub part_none : (tree : List DirectoryNode) (k : ℕ) → slice_get tree k ≡ None → slice_get (parts tree) k ≡ None
part_none tree k read =
    slice_get-map (λ (x : DirectoryNode). leaf_datoms x.leaves) tree k
    ∙ ap (λ o. option_map (λ (x : DirectoryNode). leaf_datoms x.leaves) o) read

pub length-parts : (tree : List DirectoryNode) → length (parts tree) ≡ length tree
length-parts [] = refl
length-parts (d ∷ tree) = omega (arith, length-parts tree)

take-parts : (tree : List DirectoryNode) (k : ℕ) → take k (parts tree) ≡ parts (take k tree)
take-parts tree zero = refl
take-parts [] (suc k) = refl
take-parts (d ∷ tree) (suc k) = ap (λ ds. leaf_datoms d.leaves ∷ ds) (take-parts tree k)

-- where the directory is there
pub rank_some : (tree : List DirectoryNode) (place : Place) (d : DirectoryNode) → slice_get tree place.directory ≡ Some d
    → rank tree place ≡ chunk_rank (parts tree) place.directory (leaf_rank d.leaves place.leaf place.datom)
rank_some tree place d read =
    ap (λ o. chunk_rank (parts tree) place.directory (option_map_or (λ (x : DirectoryNode). leaf_rank x.leaves place.leaf place.datom) o 0))
    read

pub rank_none : (tree : List DirectoryNode) (place : Place) → slice_get tree place.directory ≡ None
    → rank tree place ≡ length (tree_datoms tree)
rank_none tree place read = chunk_rank-none (parts tree) place.directory _ (part_none tree place.directory read)

pub at_directory : (tree : List DirectoryNode) (place : Place) (d : DirectoryNode) → slice_get tree place.directory ≡ Some d
    → slice_get (tree_datoms tree) (rank tree place) ≡ slice_get (leaf_datoms d.leaves) (leaf_rank d.leaves place.leaf place.datom)
at_directory tree place d read =
    ap (λ n. slice_get (tree_datoms tree) n) (rank_some tree place d read)
    ∙ get-chunk_rank (parts tree) place.directory (leaf_rank d.leaves place.leaf place.datom)
    ∙ ap (λ o. in_piece o (leaf_rank d.leaves place.leaf place.datom)) (part_some tree place.directory d read)

pub at_no_directory : (tree : List DirectoryNode) (place : Place) → slice_get tree place.directory ≡ None
    → slice_get (tree_datoms tree) (rank tree place) ≡ None
at_no_directory tree place read =
    let n = option_map_or (λ (x : DirectoryNode). leaf_rank x.leaves place.leaf place.datom) (slice_get tree place.directory) 0 in
    get-chunk_rank (parts tree) place.directory n ∙ ap (λ o. in_piece o n) (part_none tree place.directory read)

-- a place inside a directory
pub rank_here : (tree : List DirectoryNode) (k l n : ℕ) (d : DirectoryNode)
    → slice_get tree k ≡ Some d → leaf_rank d.leaves l n < length (leaf_datoms d.leaves)
    → rank tree (record { directory = k; leaf = l; datom = n }) ≡ length (tree_datoms (take k tree)) + leaf_rank d.leaves l n
rank_here tree k l n d read within =
    rank_some tree (record { directory = k; leaf = l; datom = n }) d read
    ∙ chunk_rank-inside (parts tree) k (leaf_rank d.leaves l n) (leaf_datoms d.leaves) (part_some tree k d read) within
    ∙ ap (λ cs. length (joined cs) + leaf_rank d.leaves l n) (take-parts tree k)

-- the first place of a directory, if there is such a directory
pub start_rank : (hs : List Datom) (tree : List DirectoryNode) (k : ℕ) → IsRoot hs tree
    → rank tree (record { directory = k; leaf = 0; datom = 0 }) ≡ chunk_rank (parts tree) k 0
start_rank hs tree k root =
    elim (slice_get_cases tree k).1 [
      | inl found ↦
          rank_some tree (record { directory = k; leaf = 0; datom = 0 }) found.0 found.2
          ∙ ap (λ n. chunk_rank (parts tree) k n) (all_read StartsFull tree k found.0 root.starts found.2)
      | inr past ↦
          rank_none tree (record { directory = k; leaf = 0; datom = 0 }) past.1
          ∙ sym (chunk_rank-none (parts tree) k 0 (part_none tree k past.1))
    ]

-- the first place of the next directory
pub rank_over : (hs : List Datom) (tree : List DirectoryNode) (k : ℕ) (d : DirectoryNode) → IsRoot hs tree → slice_get tree k ≡ Some d
    → rank tree (record { directory = k + 1; leaf = 0; datom = 0 }) ≡ length (tree_datoms (take k tree)) + length (leaf_datoms d.leaves)
rank_over hs tree k d root read =
    start_rank hs tree (k + 1) root
    ∙ ap (λ m. chunk_rank (parts tree) m 0) (add-one k)
    ∙ chunk_rank-next hs (parts tree) k (leaf_datoms d.leaves) root.firsts_are (part_some tree k d read)
    ∙ ap (λ cs. length (joined cs) + length (leaf_datoms d.leaves)) (take-parts tree k)

-- the first place of the tree
pub rank_first : (hs : List Datom) (tree : List DirectoryNode) → IsRoot hs tree
    → rank tree (record { directory = 0; leaf = 0; datom = 0 }) ≡ 0
rank_first hs tree root = start_rank hs tree 0 root ∙ chunk_rank-first hs (parts tree) root.firsts_are

pub seek_directory : (p : Probe) (hs : List Datom) (tree : List DirectoryNode) (behind : ℕ) (d : DirectoryNode)
    → IsRoot hs tree → IsRising p.order (tree_datoms tree) → behind ≡ place_of p hs → 0 < behind → slice_get tree (behind - 1) ≡ Some d
    → place_of p (tree_datoms tree) ≡ length (tree_datoms (take (behind - 1) tree)) + place_of p (leaf_datoms d.leaves)
seek_directory p hs tree behind d root rising is some read =
    let found : place_of p hs ≡ suc (behind - 1) = omega arith in
    place_of-piece p hs (parts tree) (behind - 1) (leaf_datoms d.leaves) root.firsts_are rising found (part_some tree (behind - 1) d read)
    ∙ ap (λ cs. length (joined cs) + place_of p (leaf_datoms d.leaves)) (take-parts tree (behind - 1))

-- a part of a rising tree rises
pub rising_part : (p : Probe) (tree : List DirectoryNode) (k : ℕ) (d : DirectoryNode) → IsRising p.order (tree_datoms tree)
    → slice_get tree k ≡ Some d → IsRising p.order (leaf_datoms d.leaves)
rising_part p [] k d rising read = absurd (cc)
rising_part p (x ∷ tree) zero d rising read =
    let same : x ≡ d = cc in rw (← same) (rising-append_left p.order (leaf_datoms x.leaves) (tree_datoms tree) rising)
rising_part p (x ∷ tree) (suc k) d rising read =
    rising_part p tree k d (rising-append_right p.order (leaf_datoms x.leaves) (tree_datoms tree) rising) read

-- what a root keeps, seen from outside
pub root_of : {hs : List Datom} {inside now : List DirectoryNode} → inside ≡ now → IsRoot hs inside → IsRoot hs now
root_of {hs = hs} e root = subst (IsRoot hs) e root

pub rank-le : (tree : List DirectoryNode) (place : Place) → rank tree place ≤ length (tree_datoms tree)
rank-le tree place = chunk_rank-le (parts tree) place.directory _

-- the end of a directory that a place gives is the end of the tree
pub rank_end : (tree : List DirectoryNode) (place : Place) (d : DirectoryNode) → slice_get tree place.directory ≡ Some d
    → leaf_rank d.leaves place.leaf place.datom ≡ length (leaf_datoms d.leaves) → rank tree place ≡ length (tree_datoms tree)
rank_end tree place d read end =
    rank_some tree place d read
    ∙ chunk_rank-past (parts tree) place.directory (leaf_rank d.leaves place.leaf place.datom) (leaf_datoms d.leaves)
    (part_some tree place.directory d read) (omega (arith, end))

-- one more
pub rank_step : (tree : List DirectoryNode) (place next : Place) (l n : ℕ) (d : DirectoryNode)
    → slice_get tree place.directory ≡ Some d → leaf_rank d.leaves l n ≡ leaf_rank d.leaves place.leaf place.datom + 1
    → rank tree next ≡ length (tree_datoms (take place.directory tree)) + leaf_rank d.leaves l n
    → rank tree next ≡ min (rank tree place + 1) (length (tree_datoms tree))
rank_step tree place next l n d read one is =
    let le = chunk_rank-le (map (λ (leaf : LeafNode). leaf.datoms) d.leaves) l n in
    let within : leaf_rank d.leaves place.leaf place.datom < length (leaf_datoms d.leaves) = omega (arith, le, one) in
    let here = rank_here tree place.directory place.leaf place.datom d read within in
    omega (arith, here, is, one, rank-le tree next)
