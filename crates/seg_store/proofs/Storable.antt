-- Trees of a lawful history are storable.
use Rattle.std.proofs.Common.{◌≡◌, ℕ, ◌+◌, true, List, [], ◌∷◌, ◌++◌, refl, sym, subst}
use Rattle.std.specs.Prelude.{All, IsTrue, Contains}
use Rattle.std.proofs.lemmas.Bool.{and_parts, and_from, eqb-true}
use Rattle.std.proofs.lemmas.List.Elements.{All-nil, All-cons, All-head, All-tail, All-append, All-take, All-contains, Contains-append_left}
use Rattle.std.proofs.lemmas.List.Elements.{Contains-append_right}
use Rattle.fb_values.specs.declared.facts.Datom.{Datom}
use Rattle.fb_values.specs.declared.facts.Entry.{Entry}
use Rattle.fb_values.specs.declared.indexes.Order.{Order}
use Rattle.fb_values.specs.declared.indexes.Order.TheVariants.{Eavt, Aevt, Avet, Vaet}
use Rattle.fb_values.specs.Lists.{list_in}
use Rattle.fb_model.specs.History.{said, upto}
use Rattle.fb_model.specs.Lawful.{IsLawful}
use Rattle.fb_model.proofs.Members.{member_passes}
use Rattle.view_model.specs.Stands.{RootStands}
use Rattle.log_model.specs.Payload.{written_format}
use Rattle.log_model.specs.Storable.{is_u32, is_storable_datom, IsStorable}
use Rattle.log_model.specs.Merges.{is_storable_dated}
use Rattle.log_model.proofs.StorableHistories.{all_storable}
use Rattle.seg_tree.specs.Nodes.{LeafNode, DirectoryNode, leaf_datoms, tree_datoms, tree_leaves}
use Rattle.seg_tree.specs.Indexes.{trees_of}
use Rattle.seg_tree.specs.declared.roots.Roots.{Roots}
use Rattle.seg_tree.proofs.Making.{tree_datoms-leaves}
use Rattle.seg_codec.proofs.Among.{All-made}
use Rattle.seg_store.specs.Trees.{HaveStorableDatoms}
use Rattle.seg_store.proofs.Fitting.{all_four}

abbrev IsDated : Datom → Type 0
IsDated d = IsTrue (is_storable_dated written_format d)

entry_dated : (entry : Entry) → IsStorable entry → All IsDated entry.datoms
entry_dated entry storable = All-made IsDated entry.datoms (λ d member.
    let parts = and_parts _ _ storable in
    let t_small : is_u32 entry.t ≡ true = (and_parts _ _ (and_parts _ _ parts.0).0).0 in
    let is : is_storable_datom written_format entry.t d ≡ true =
    member_passes (is_storable_datom written_format entry.t) entry.datoms d parts.1 member in
    let own : d.t ≡ entry.t = eqb-true d.t entry.t (and_parts _ _ is).1 in
    and_from _ _ (subst (λ (t : ℕ). is_storable_datom written_format t d ≡ true) (sym own) is)
    (subst (λ (t : ℕ). is_u32 t ≡ true) (sym own) t_small))

said_dated : (h : List Entry) → All IsStorable h → All IsDated (said h)
said_dated [] storable = All-nil IsDated
said_dated (entry ∷ h) storable =
    All-append IsDated entry.datoms (said h) (entry_dated entry (All-head IsStorable entry h storable))
    (said_dated h (All-tail IsStorable entry h storable))

front : (xs ys : List Datom) → All IsDated (xs ++ ys) → All IsDated xs
front xs ys dated = All-made IsDated xs (λ d member. All-contains IsDated (xs ++ ys) d dated (Contains-append_left xs ys d member))

back : (xs ys : List Datom) → All IsDated (xs ++ ys) → All IsDated ys
back xs ys dated = All-made IsDated ys (λ d member. All-contains IsDated (xs ++ ys) d dated (Contains-append_right xs ys d member))

leaves_dated : (leaves : List LeafNode) → All IsDated (leaf_datoms leaves) → All (λ leaf. All IsDated leaf.datoms) leaves
leaves_dated [] dated = All-nil (λ leaf. All IsDated leaf.datoms)
leaves_dated (leaf ∷ leaves) dated =
    All-cons (λ leaf. All IsDated leaf.datoms) leaf leaves (front leaf.datoms (leaf_datoms leaves) dated)
    (leaves_dated leaves (back leaf.datoms (leaf_datoms leaves) dated))

module _ (h : List Entry) (c : ℕ) (trees : Roots) (lawful : IsLawful h) (stand : RootStands (trees_of trees) h c) where
  tree_dated : (order : Order) (tree : List DirectoryNode) → tree_datoms tree ≡ list_in (trees_of trees) order
      → All (λ leaf. All IsDated leaf.datoms) (tree_leaves tree)
  tree_dated order tree same =
      leaves_dated (tree_leaves tree)
      (subst (All IsDated) (tree_datoms-leaves tree)
      (All-made IsDated (tree_datoms tree) (λ d member.
      All-contains IsDated (said (upto h c)) d (said_dated (upto h c) (All-take IsStorable (c + 1) h (all_storable h lawful)))
      (((stand.trees order).members d).0 (subst (λ l. Contains l d) same member)).is_said)))

  pub all_dated : HaveStorableDatoms trees
  all_dated = all_four (λ leaf. All IsDated leaf.datoms) (tree_leaves trees.eavt) (tree_leaves trees.aevt) (tree_leaves trees.avet)
      (tree_leaves trees.vaet) (tree_dated Eavt trees.eavt refl) (tree_dated Aevt trees.aevt refl) (tree_dated Avet trees.avet refl)
      (tree_dated Vaet trees.vaet refl)
