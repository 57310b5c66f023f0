-- What is known of a tree's items once its node is looked at.
use Rattle.std.proofs.Common.{◌≡◌, ℕ, ◌<◌, List, length, map, get_or, Some, sym, ap, ◌∙◌, subst, arith, Vec, Global}
use Rattle.std.proofs.lemmas.List.{length-map, get_or-map}
use Rattle.std.proofs.lemmas.Option.{slice_get_read}
use Rattle.std.specs.Arc.{arc_value}
use Rattle.std.specs.List.{slice_get}
use Rattle.std.specs.declared.sync.Arc.{Arc}
use Rattle.fb_chunks.specs.declared.tree.Node.{Node}
use Rattle.fb_chunks.specs.declared.tree.Node.TheVariants.{Leaf, Fork}
use Rattle.fb_chunks.specs.declared.tree.Tree.{Tree}
use Rattle.fb_chunks.specs.Tree.{items_of, IsTree, IsFork}
use Rattle.fb_chunks.proofs.Joined.{Layered, layered}

pub at_leaf : {X : Type 0} {n : Node X} {whole : List X} {items : Vec X Global} → items_of n ≡ whole → n ≡ Leaf items → whole ≡ items.items
at_leaf view is = sym view ∙ ap items_of is

pub record AtFork {X : Type 0} (whole : List X) (each len : ℕ) (sides : List (List X)) (last : List X) : Type 0 where
  pub list : Layered whole each sides last len
  pub fork : IsFork each len sides last

pub at_fork : {X : Type 0} {n : Node X} {whole : List X} {each len : ℕ} {full : Vec (Arc (Tree X) Global) Global}
    {last : Arc (Tree X) Global}
    → items_of n ≡ whole → IsTree n → n ≡ Fork each len full last → AtFork whole each len (map arc_value full.items) (arc_value last)
at_fork {each = each} {len = len} {full = full} {last = last} view good is =
    let fork : IsFork each len (map arc_value full.items) (arc_value last) = subst IsTree is good in
    record { list = layered (ap items_of (sym is) ∙ view) fork.layer (omega (arith, fork.last_begun, fork.layer.last_fits)); fork = fork }

-- a side that is read behind its pointer
pub side_read : {X : Type 0} (full : List (Arc (Tree X) Global)) (k : ℕ) (side : Arc (Tree X) Global) → k < length full
    → side ≡ get_or full k side → slice_get (map arc_value full) k ≡ Some (arc_value side)
side_read full k side within read =
    slice_get_read (map arc_value full) (length full) k (arc_value side) (sym (length-map full arc_value)) within
    (ap arc_value read ∙ sym (get_or-map arc_value full k side (arc_value side) within))
