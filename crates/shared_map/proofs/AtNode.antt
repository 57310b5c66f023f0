-- What is known of a tree's value once its node is looked at.
use Rattle.std.proofs.Common.{◌≡◌, ℕ, ◌<◌, List, ◌∷◌, ◌++◌, sym, ap, ◌∙◌, subst, arith, length, length-append, Global}
use Rattle.std.specs.Arc.{arc_value}
use Rattle.std.specs.declared.sync.Arc.{Arc}
use Rattle.shared_map.specs.declared.tree.Node.{Node}
use Rattle.shared_map.specs.declared.tree.Node.TheVariants.{Fork}
use Rattle.shared_map.specs.declared.tree.Tree.{Tree}
use Rattle.shared_map.specs.Tree.{items_and_height, IsTree, IsFork}

pub record AtFork {X : Type 0} (d l : List X × ℕ) (x : X) (r : List X × ℕ) (height : ℕ) : Type 0 where
  pub is : d.0 ≡ l.0 ++ x ∷ r.0
  pub high : d.1 ≡ height
  pub fork : IsFork l r height
  pub left_shorter : length l.0 < length d.0
  pub right_shorter : length r.0 < length d.0

pub at_fork : {X : Type 0} {n : Node X} {d : List X × ℕ} {l r : Arc (Tree X) Global} {x : X} {height : ℕ}
    → items_and_height n ≡ d → IsTree n → n ≡ Fork l x r height → AtFork d (arc_value l) x (arc_value r) height
at_fork {X} {l = l} {r = r} {x = x} {height = height} view good is =
    let e = sym view ∙ ap items_and_height is in
    let fork : IsFork (arc_value l) (arc_value r) height = subst IsTree is good in
    let items = ap (λ (p : List X × ℕ). p.0) e in
    let long = length-append (arc_value l).0 (x ∷ (arc_value r).0) in
    record {
      is = items;
      high = ap (λ (p : List X × ℕ). p.1) e;
      fork = fork;
      left_shorter = rw items (omega (arith, long));
      right_shorter = rw items (omega (arith, long));
    }
