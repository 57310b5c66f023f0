-- Nodes as they are held, where not all leaves are wanted.
use Rattle.std.proofs.Common.{◌≡◌, ℕ, Bool, true, false, cond, List, [], ◌∷◌, ◌++◌, map, take, refl, sym, ◌∙◌, ap}
use Rattle.std.specs.Prelude.{fold}
use Rattle.std.proofs.lemmas.List.{map-append}
use Rattle.log_model.specs.Storable.{is_u32}
use Rattle.log_model.specs.Nodes.{Leaf, Directory, Nodes, MergeRecord, with_leaf, with_directory}
use Rattle.log_model.specs.Merges.{read_list, read_leaf}
use Rattle.log_model.specs.Kept.{with_nodes}
use Rattle.seg_codec.specs.declared.wanted.Wanted.{Wanted}
use Rattle.seg_codec.specs.Wanted.{is_wanted, held_leaf, with_held, held_nodes, held_merge}
use Rattle.seg_codec.proofs.Alike.{AreAlike, list_same, leaf_same, leaf_more, directories_more}
use Rattle.seg_codec.proofs.Kept.{with_record}

-- ---- the ids stay

pub held_id : (wanted : Wanted) (l : Leaf) → (held_leaf wanted l).id ≡ l.id
held_id wanted l = go (is_wanted wanted l.id)
  where
    go : (b : Bool) → (cond b l (record { id = l.id; datoms = take 1 l.datoms })).id ≡ l.id
    go true = refl
    go false = refl

pub held_ids : (wanted : Wanted) (ls : List Leaf) → map (λ (l : Leaf). l.id) (map (held_leaf wanted) ls) ≡ map (λ (l : Leaf). l.id) ls
held_ids wanted [] = refl
held_ids wanted (l ∷ ls) = λ i. held_id wanted l i ∷ held_ids wanted ls i

pub held_alike : (wanted : Wanted) (nodes : Nodes) → AreAlike (held_nodes wanted nodes) nodes
held_alike wanted nodes = record { leaves = held_ids wanted nodes.leaves; directories = refl }

same_alike : (nodes : Nodes) → AreAlike nodes nodes
same_alike nodes = record { leaves = refl; directories = refl }

-- ---- leaves that are held as they are read

module _ (wanted : Wanted) where
  pub leaves_alike : (a b : Nodes) (ls : List Leaf) → AreAlike a b → AreAlike (fold (with_held wanted) a ls) (fold with_leaf b ls)
  leaves_alike a b [] alike = alike
  leaves_alike a b (l ∷ ls) alike =
      leaves_alike (with_held wanted a l) (with_leaf b l) ls (leaf_more a b (held_leaf wanted l) l (held_id wanted l) alike)

  pub held_reading : (format : ℕ) (nodes : Nodes) (bytes : List ℕ)
      → read_list is_u32 (read_leaf format) (with_held wanted) nodes bytes ≡ read_list is_u32 (read_leaf format) with_leaf nodes bytes
  held_reading format nodes bytes =
      list_same (read_leaf format) (read_leaf format) (with_held wanted) with_leaf AreAlike (λ s z agree. leaf_same s z agree format)
      (λ s z l agree. leaf_more s z (held_leaf wanted l) l (held_id wanted l) agree) is_u32 nodes nodes bytes (same_alike nodes)

  pub fold_held : (nodes : Nodes) (ls : List Leaf) → fold (with_held wanted) nodes ls ≡ fold with_leaf nodes (map (held_leaf wanted) ls)
  fold_held nodes [] = refl
  fold_held nodes (l ∷ ls) = fold_held (with_held wanted nodes l) ls

  -- a record's nodes behind those before it
  pub held_with : (nodes : Nodes) (merge : MergeRecord)
      → with_nodes (held_nodes wanted nodes) (held_merge wanted merge) ≡ held_nodes wanted (with_nodes nodes merge)
  held_with nodes merge =
      with_record (held_nodes wanted nodes) (held_merge wanted merge)
      ∙ (λ i. record {
        leaves = sym (map-append (held_leaf wanted) nodes.leaves merge.leaves) i;
        directories = nodes.directories ++ merge.directories;
      })
      ∙ ap (held_nodes wanted) (sym (with_record nodes merge))
