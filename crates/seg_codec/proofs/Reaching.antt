-- Ids that are reached one after another.
use Rattle.std.proofs.Common.{◌≡◌, ◌≤◌, ◌<◌, ◌+◌, ℕ, Bool, true, false, not, ◌&&◌, ◌||◌, List, [], ◌∷◌, ◌++◌, length, map, take, drop}
use Rattle.std.proofs.Common.{get_or, refl, sym, ◌∙◌, ap, subst, inl, inr, append_assoc}
use Rattle.std.specs.Prelude.{nat_eq, Contains}
use Rattle.std.specs.List.{list_any, list_all}
use Rattle.std.proofs.lemmas.Bool.{true≢false, or_parts, or_from, or_left, or_right, or_cases, false_from_ne_true, eqb-true, eq-eqb}
use Rattle.std.proofs.lemmas.List.{map-append, take-append-drop, take_more, take_all}
use Rattle.std.proofs.lemmas.List.Folds.{list_any-append}
use Rattle.log_model.specs.Nodes.{Directory, Nodes, is_among, is_directory_id, reaching}
use Rattle.seg_tree.specs.Nodes.{LeafNode, DirectoryNode}
use Rattle.seg_tree.specs.Ids.{leaf_ids}
use Rattle.seg_tree.proofs.Making.{seen_more}
use Rattle.seg_codec.specs.Trees.{file_directory}
use Rattle.seg_codec.specs.InFile.{IsDirectoryOf}
use Rattle.seg_codec.proofs.Among.{member_cases, no_member, mapped_member, mapped_among, among-append, AreOnce, once_front, once_head}
use Rattle.seg_codec.proofs.Among.{once_tail, once_push, once_join}
use Rattle.seg_codec.proofs.InNodes.{at_place}
use Rattle.seg_codec.proofs.Over.{apart_from_front}

any_of : (p : ℕ → Bool) (ids : List ℕ) (id : ℕ) → Contains ids id → p id ≡ true → list_any p ids ≡ true
any_of p [] id member pass = absurd (no_member id member)
any_of p (other ∷ ids) id member pass =
    elim (member_cases other id ids member) [
      | inl same ↦ or_left _ _ (ap p same ∙ pass)
      | inr later ↦ or_right _ _
          (any_of p ids id later pass)
    ]

some_of : (p : ℕ → Bool) (ids : List ℕ) → list_any p ids ≡ false → (id : ℕ) → is_among ids id ≡ true → p id ≡ false
some_of p [] none id is = absurd (true≢false (sym is))
some_of p (other ∷ ids) none id is =
    let parts = or_parts (p other) (list_any p ids) none in
    elim (or_cases (nat_eq id other) (is_among ids id) is) [
      | inl same ↦ ap p (eqb-true id other same)
          ∙ parts.0
      | inr later ↦ some_of p ids parts.1 id later
    ]

none_all : (p : ℕ → Bool) (ids : List ℕ) → list_all (λ id. not (p id)) ids ≡ not (list_any p ids)
none_all p [] = refl
none_all p (id ∷ ids) = ap (λ b. not (p id) && b) (none_all p ids) ∙ both (p id) (list_any p ids)
  where
    both : (a b : Bool) → (not a && not b) ≡ not (a || b)
    both true b = refl
    both false b = refl

-- ---- leaves, by their ids

module _ {X : Type 0} (now : X → LeafNode) (p : ℕ → Bool) (items : List X) (i : ℕ) (x : X) (below : i < length items)
    (is : x ≡ get_or items i x) where
  pub any_here : p (now x).id ≡ true → list_any p (leaf_ids (map now items)) ≡ true
  any_here pass = any_of p (leaf_ids (map now items)) (now x).id
      (mapped_member (λ (l : LeafNode). l.id) (map now items) (now x) (at_place now items i x below is)) pass

  pub ids_more : leaf_ids (map now (take (i + 1) items)) ≡ leaf_ids (map now (take i items)) ++ (now x).id ∷ []
  ids_more = ap leaf_ids (seen_more now items i x below is) ∙ map-append (λ (l : LeafNode). l.id) (map now (take i items)) (now x ∷ [])

  pub none_more : list_any p (leaf_ids (map now (take i items))) ≡ false → p (now x).id ≡ false
      → list_any p (leaf_ids (map now (take (i + 1) items))) ≡ false
  none_more none fails =
      ap (list_any p) ids_more ∙ list_any-append p (leaf_ids (map now (take i items))) ((now x).id ∷ [])
      ∙ or_from _ _ none (or_from _ _ fails refl)

pub ids_all : {X : Type 0} (now : X → LeafNode) (items : List X) (i : ℕ) → length items ≤ i
    → leaf_ids (map now (take i items)) ≡ leaf_ids (map now items)
ids_all now items i past = ap (λ l. leaf_ids (map now l)) (take_all i items past)

-- the next one of ids that stand once is not among those before it
once_part : (old ids : List ℕ) (n : ℕ) → AreOnce (old ++ ids) → AreOnce (old ++ take n ids)
once_part old ids n once =
    once_front (old ++ take n ids) (drop n ids)
    (subst AreOnce (sym (append_assoc old (take n ids) (drop n ids) ∙ ap (λ l. old ++ l) (take-append-drop n ids))) once)

pub next_apart : (old ids : List ℕ) (i id : ℕ) → AreOnce (old ++ ids) → i < length ids → id ≡ get_or ids i id
    → is_among (old ++ take i ids) id ≡ false
next_apart old ids i id once below is =
    apart_from_front (old ++ take i ids) (id ∷ []) id
    (subst AreOnce (ap (λ l. old ++ l) (take_more ids i id below ∙ ap (λ x. take i ids ++ x ∷ []) (sym is)) ∙ sym (append_assoc old
    (take i ids) (id ∷ []))) (once_part old ids (i + 1) once))
    (or_left _ _ (eq-eqb id id refl))

pub next_leaf_apart : {X : Type 0} (now : X → LeafNode) (old : List ℕ) (items : List X) (i : ℕ) (x : X)
    → AreOnce (old ++ leaf_ids (map now items)) → i < length items → x ≡ get_or items i x
    → is_among (old ++ leaf_ids (map now (take i items))) (now x).id ≡ false
next_leaf_apart now old items i x once below is =
    let all = ap leaf_ids (sym (map-append now (take (i + 1) items) (drop (i + 1) items)) ∙ ap (map now) (take-append-drop
    (i + 1) items)) in
    let front = once_front (old ++ leaf_ids (map now (take (i + 1) items))) (leaf_ids (map now (drop (i + 1) items)))
    (subst AreOnce (ap (λ l. old ++ l) (sym all ∙ map-append (λ (l : LeafNode). l.id) (map now (take (i + 1) items)) (map now (drop
    (i + 1) items))) ∙ sym (append_assoc old (leaf_ids (map now (take (i + 1) items))) (leaf_ids (map now (drop
    (i + 1) items))))) once) in
    apart_from_front (old ++ leaf_ids (map now (take i items))) ((now x).id ∷ []) (now x).id
    (subst AreOnce (ap (λ l. old ++ l) (ids_more now (λ _. true) items i x below is) ∙ sym (append_assoc old (leaf_ids (map now
    (take i items))) ((now x).id ∷ []))) front)
    (or_left _ _ (eq-eqb (now x).id (now x).id refl))

-- ---- directories

pub may_reach : (old ids : List ℕ) (id : ℕ) → AreOnce old → AreOnce (id ∷ ids) → list_any (is_among old) (id ∷ ids) ≡ false
    → AreOnce ((old ++ id ∷ []) ++ ids)
may_reach old ids id once own none =
    let parts = or_parts (is_among old id) (list_any (is_among old) ids) none in
    once_join (old ++ id ∷ []) ids (once_push old id once parts.0) (once_tail id ids own)
    (λ other is. false_from_ne_true _ (λ too. elim (or_cases (is_among old other) (is_among (id ∷ []) other) (sym (among-append old
    (id ∷ []) other) ∙ is)) [
      | inl before ↦ true≢false (sym before ∙ some_of (is_among old) ids parts.1 other too)
      | inr last ↦ elim (or_cases (nat_eq other id) false last) [
        | inl same ↦ true≢false (sym too ∙ ap (is_among ids) (eqb-true other id same) ∙ once_head id ids own)
        | inr never ↦ true≢false (sym never)
      ]
    ]))

pub reach_fits : (nodes : Nodes) (reached : List ℕ) (id : ℕ) (d : DirectoryNode) → IsDirectoryOf nodes id d
    → is_directory_id nodes reached id ≡ not (list_any (is_among reached) (d.id ∷ leaf_ids d.leaves))
reach_fits nodes reached id d is =
    let there : is_among (map (λ (x : Directory). x.id) nodes.directories) id ≡ true =
    ap (is_among (map (λ (x : Directory). x.id) nodes.directories)) (sym is.id_is)
    ∙ mapped_among (λ (x : Directory). x.id) nodes.directories (file_directory d) is.has.itself in
    (λ i. there i && list_all (λ below. not (is_among reached below)) (is.below i))
    ∙ none_all (is_among reached) (id ∷ leaf_ids d.leaves)
    ∙ ap (λ n. not (list_any (is_among reached) (n ∷ leaf_ids d.leaves))) (sym is.id_is)

pub reach_is : (nodes : Nodes) (reached : List ℕ) (id : ℕ) (d : DirectoryNode) → IsDirectoryOf nodes id d
    → reaching nodes reached id ≡ reached ++ d.id ∷ leaf_ids d.leaves
reach_is nodes reached id d is = ap (λ l. reached ++ l) is.below ∙ ap (λ n. reached ++ n ∷ leaf_ids d.leaves) (sym is.id_is)
