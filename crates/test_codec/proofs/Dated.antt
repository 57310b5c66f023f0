-- Trees of storable datoms.
use Rattle.std.proofs.Common.{◌≡◌, ℕ, true, List, [], ◌∷◌, ◌++◌, refl, sym, ap, subst, ◌∙◌}
use Rattle.std.specs.Prelude.{All, IsTrue}
use Rattle.std.specs.Char.{encode_utf8}
use Rattle.std.specs.Str.{is_utf8, chars}
use Rattle.std.proofs.lemmas.Bool.{and_parts}
use Rattle.std.proofs.lemmas.List.Elements.{All-nil, All-cons, All-weaker, All-contains, Contains-append_left, Contains-append_right}
use Rattle.fb_values.specs.declared.facts.Datom.{Datom}
use Rattle.fb_values.specs.declared.facts.Value.TheVariants.{Str}
use Rattle.fb_values.specs.Lists.{Lists}
use Rattle.log_model.specs.Payload.{written_format}
use Rattle.log_model.specs.Storable.{is_storable_value}
use Rattle.log_model.specs.Merges.{is_storable_dated}
use Rattle.seg_tree.specs.Nodes.{LeafNode, DirectoryNode, leaf_datoms, tree_datoms, tree_leaves}
use Rattle.seg_tree.specs.Indexes.{trees_of}
use Rattle.seg_tree.specs.declared.roots.Roots.{Roots}
use Rattle.seg_tree.proofs.Making.{tree_datoms-leaves}
use Rattle.seg_codec.specs.Trees.{leaves_of_four, AreStorable}
use Rattle.seg_codec.proofs.Among.{All-made}
use Rattle.seg_store.specs.Trees.{HaveStorableDatoms}
use Rattle.seg_store.proofs.Fitting.{all_four}

abbrev pub IsDated : Datom → Type 0
IsDated d = IsTrue (is_storable_dated written_format d)

leaves_dated : (leaves : List LeafNode) → All IsDated (leaf_datoms leaves) → All (λ leaf. All IsDated leaf.datoms) leaves
leaves_dated [] dated = All-nil (λ leaf. All IsDated leaf.datoms)
leaves_dated (leaf ∷ leaves) dated =
    All-cons (λ leaf. All IsDated leaf.datoms) leaf leaves
    (All-made IsDated leaf.datoms (λ d member. All-contains IsDated (leaf.datoms ++ leaf_datoms leaves) d dated
    (Contains-append_left leaf.datoms (leaf_datoms leaves) d member)))
    (leaves_dated leaves (All-made IsDated (leaf_datoms leaves) (λ d member.
    All-contains IsDated (leaf.datoms ++ leaf_datoms leaves) d dated
    (Contains-append_right leaf.datoms (leaf_datoms leaves) d member))))

tree_dated : (tree : List DirectoryNode) (ds : List Datom) → tree_datoms tree ≡ ds → All IsDated ds
    → All (λ leaf. All IsDated leaf.datoms) (tree_leaves tree)
tree_dated tree ds same dated = leaves_dated (tree_leaves tree) (subst (All IsDated) (sym same ∙ tree_datoms-leaves tree) dated)

pub trees_dated : (trees : Roots) (lists : Lists) → trees_of trees ≡ lists → All IsDated lists.eavt → All IsDated lists.aevt
    → All IsDated lists.avet → All IsDated lists.vaet → HaveStorableDatoms trees
trees_dated trees lists same eavt aevt avet vaet =
    all_four (λ leaf. All IsDated leaf.datoms) (tree_leaves trees.eavt) (tree_leaves trees.aevt) (tree_leaves trees.avet)
    (tree_leaves trees.vaet)
    (tree_dated trees.eavt lists.eavt (ap (λ (l : Lists). l.eavt) same) eavt)
    (tree_dated trees.aevt lists.aevt (ap (λ (l : Lists). l.aevt) same) aevt)
    (tree_dated trees.avet lists.avet (ap (λ (l : Lists). l.avet) same) avet)
    (tree_dated trees.vaet lists.vaet (ap (λ (l : Lists). l.vaet) same) vaet)

value_of : (d : Datom) → IsDated d → IsTrue (is_storable_value written_format d.v)
value_of d is = (and_parts _ _ (and_parts _ _ (and_parts _ _ is).0).0).1

-- so are their values
pub values_of : (trees : Roots) → HaveStorableDatoms trees → AreStorable trees
values_of trees =
    All-weaker (λ (leaf : LeafNode). All IsDated leaf.datoms)
    (λ (leaf : LeafNode). All (λ d. IsTrue (is_storable_value written_format d.v)) leaf.datoms)
    (λ leaf. All-weaker IsDated (λ d. IsTrue (is_storable_value written_format d.v)) value_of leaf.datoms) (leaves_of_four trees)

-- the datom that says "hi"
abbrev pub hi : List ℕ → Datom
hi text = record { e = 17592186044417; a = 7; v = Str text; t = 1; added = true }

pub hi_dated : (text : List ℕ) → text ≡ 104 ∷ 105 ∷ [] → All IsDated (hi text ∷ [])
unfolding is_utf8 chars encode_utf8
hi_dated text same = All-cons IsDated (hi text) [] (subst (λ x. IsDated (hi x)) (sym same) refl) (All-nil IsDated)

pub none_dated : (ds : List Datom) → ds ≡ [] → All IsDated ds
none_dated ds none = subst (All IsDated) (sym none) (All-nil IsDated)
