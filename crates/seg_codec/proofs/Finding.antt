-- Directories that are found by their ids, one after another.
use Rattle.std.proofs.Common.{◌≡◌, ◌≤◌, ◌<◌, ◌+◌, ℕ, List, [], ◌∷◌, ◌++◌, length, take, get_or, refl, sym, ◌∙◌, ap, subst}
use Rattle.std.proofs.lemmas.List.{map-append, take_more, take_all}
use Rattle.std.proofs.lemmas.List.Elements.{All-nil, All-push}
use Rattle.log_model.specs.Nodes.{Nodes}
use Rattle.seg_tree.specs.Nodes.{DirectoryNode}
use Rattle.seg_codec.specs.InFile.{IsDirectoryOf}
use Rattle.seg_codec.specs.Answers.{AreFound}

pub found_none : (nodes : Nodes) (ds : List DirectoryNode) → ds ≡ [] → AreFound nodes [] ds
found_none nodes ds none = subst (AreFound nodes []) (sym none)
    (record { ids_are = refl; each = All-nil (λ (d : DirectoryNode). IsDirectoryOf nodes d.id d) })

pub found_more : (nodes : Nodes) (ids : List ℕ) (i : ℕ) (ds more : List DirectoryNode) (id : ℕ) (d : DirectoryNode) → i < length ids
    → id ≡ get_or ids i 0 → more ≡ ds ++ d ∷ [] → IsDirectoryOf nodes id d
    → AreFound nodes (take i ids) ds → AreFound nodes (take (i + 1) ids) more
found_more nodes ids i ds more id d below is pushed here found =
    subst (AreFound nodes (take (i + 1) ids)) (sym pushed) (record {
      ids_are =
          map-append (λ (x : DirectoryNode). x.id) ds (d ∷ [])
          ∙ ap (λ l. l ++ d.id ∷ []) found.ids_are
          ∙ ap (λ n. take i ids ++ n ∷ []) (here.id_is ∙ is)
          ∙ sym (take_more ids i 0 below);
      each = All-push (λ (x : DirectoryNode). IsDirectoryOf nodes x.id x) ds d found.each
          (subst (λ n. IsDirectoryOf nodes n d) (sym here.id_is) here);
    })

pub found_all : (nodes : Nodes) (ids : List ℕ) (i : ℕ) (ds : List DirectoryNode) → length ids ≤ i → AreFound nodes (take i ids) ds
    → AreFound nodes ids ds
found_all nodes ids i ds past found = subst (λ l. AreFound nodes l ds) (take_all i ids past) found
