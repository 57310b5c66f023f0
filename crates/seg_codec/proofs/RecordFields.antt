-- A record, read field by field.
use Rattle.std.proofs.Common.{◌≡◌, ◌-◌, ℕ, suc, List, [], ◌∷◌, ◌++◌, length, map, take, drop, refl, sym, ◌∙◌, ap, subst, arith, length-drop}
use Rattle.std.specs.Prelude.{fold}
use Rattle.std.proofs.lemmas.List.{append-nil}
use Rattle.std.proofs.Math.Seq.{take-append_seam}
use Rattle.log_model.specs.Fields.{Reading, found, misfit, and_then, mapped, that_fits, at_end, read_u8, read_u32}
use Rattle.log_model.specs.Values.{is_format}
use Rattle.log_model.specs.Storable.{is_u32}
use Rattle.log_model.specs.Nodes.{Leaf, Directory, Nodes, Roots, MergeRecord, with_leaf, with_directory, reaching}
use Rattle.log_model.specs.Merges.{several_over, read_list, read_leaf, read_directory, read_root, four, read_roots, read_record_fields}
use Rattle.log_model.specs.Merges.{MergeSays, read_record, bad_from, merge_said_by, record_says}
use Rattle.fb_codec.specs.Answers.{Misses}
use Rattle.fb_codec.specs.declared.faults.BytesFault.{BytesFault}
use Rattle.fb_codec.specs.declared.faults.BytesFault.TheVariants.{At, Memory}
use Rattle.seg_tree.specs.declared.roots.Roots.{Roots as SegRoots}
use Rattle.seg_codec.specs.declared.wanted.Wanted.{Wanted}
use Rattle.seg_codec.specs.Trees.{AreTreesOf}
use Rattle.seg_codec.specs.Wanted.{held_leaf, with_held}
use Rattle.seg_codec.specs.Answers.{IsGrown, IsMerged, MatchesBad}
use Rattle.seg_codec.proofs.Kept.{with_leaves, with_directories}
use Rattle.seg_codec.proofs.Alike.{AreAlike, directories_more, directories_same, roots_same}
use Rattle.seg_codec.proofs.Held.{leaves_alike, held_reading, fold_held}
use Rattle.seg_codec.proofs.SeveralOver.{with_front, with_none, one_more, then_misses, same_misses, end_misses, mapped_misses}

-- ---- readings and faults

end_of_mapped : {A B : Type 0} (f : A → B) (reading : Reading A)
    → at_end (and_then reading (λ a rest. found (f a) rest)) ≡ mapped f (at_end reading)
end_of_mapped f (found a []) = refl
end_of_mapped f (found a (byte ∷ rest)) = refl
end_of_mapped f (misfit rest) = refl

tells_bad : (payload : List ℕ) (fault : BytesFault) (reading : Reading MergeRecord) → Misses payload fault reading
    → MatchesBad fault (merge_said_by payload reading)
tells_bad payload (At byte) reading misses =
    let left : length payload - length (drop byte payload) ≡ byte = omega (arith, misses.0, length-drop byte payload) in
    ap (merge_said_by payload) misses.1 ∙ ap bad_from left
tells_bad payload Memory reading misses = tt

-- ---- the fields of a record

module _ (wanted : Wanted) (nodes : Nodes) (payload : List ℕ) where
  abbrev with_roots : ℕ → List Leaf → List Directory → Roots → MergeRecord
  with_roots c leaves directories roots = record { c = c; leaves = leaves; directories = directories; roots = roots }

  abbrev roots_field : ℕ → List Leaf → List Directory → List ℕ → Reading MergeRecord
  roots_field c leaves directories bytes = and_then (read_roots (fold with_directory (fold with_leaf nodes leaves) directories) bytes)
      (λ roots rest. found (with_roots c leaves directories roots) rest)

  abbrev directories_field : ℕ → List Leaf → List ℕ → Reading MergeRecord
  directories_field c leaves bytes = and_then (read_list is_u32 read_directory with_directory (fold with_leaf nodes leaves) bytes)
      (roots_field c leaves)

  abbrev leaves_field : ℕ → ℕ → List ℕ → Reading MergeRecord
  leaves_field format c bytes = and_then (read_list is_u32 (read_leaf format) with_leaf nodes bytes) (directories_field c)

  abbrev c_field : ℕ → List ℕ → Reading MergeRecord
  c_field format bytes = and_then (read_u32 bytes) (leaves_field format)

  pub bad_format : (fault : BytesFault) → Misses payload fault (that_fits is_format read_u8 payload)
      → MatchesBad fault (record_says nodes payload)
  bad_format fault misses = tells_bad payload fault (read_record nodes payload)
      (end_misses payload fault _ (then_misses payload fault _ (read_record_fields nodes) misses))

  module _ (format b1 : ℕ) (format_is : that_fits is_format read_u8 payload ≡ found format (drop b1 payload)) where
    behind_format : read_record nodes payload ≡ at_end (c_field format (drop b1 payload))
    behind_format = ap (λ r. at_end (and_then r (read_record_fields nodes))) format_is

    pub bad_c : (fault : BytesFault) → Misses payload fault (read_u32 (drop b1 payload)) → MatchesBad fault (record_says nodes payload)
    bad_c fault misses = tells_bad payload fault (read_record nodes payload)
        (same_misses payload fault _ _ behind_format
        (end_misses payload fault _ (then_misses payload fault _ (leaves_field format) misses)))

    module _ (c b2 : ℕ) (c_is : read_u32 (drop b1 payload) ≡ found c (drop b2 payload)) where
      behind_c : read_record nodes payload ≡ at_end (leaves_field format c (drop b2 payload))
      behind_c = behind_format ∙ ap (λ r. at_end (and_then r (leaves_field format))) c_is

      pub bad_leaves : (fault : BytesFault)
          → Misses payload fault (read_list is_u32 (read_leaf format) (with_held wanted) nodes (drop b2 payload))
          → MatchesBad fault (record_says nodes payload)
      bad_leaves fault misses = tells_bad payload fault (read_record nodes payload)
          (same_misses payload fault _ _ behind_c (end_misses payload fault _ (then_misses payload fault _ (directories_field c)
          (same_misses payload fault _ _ (sym (held_reading wanted format nodes (drop b2 payload))) misses))))

      module _ (leaves : List Leaf) (b3 : ℕ)
          (leaves_are : read_list is_u32 (read_leaf format) (with_held wanted) nodes (drop b2 payload) ≡ found leaves (drop b3 payload))
          (mid : Nodes) (mid_is : mid ≡ fold (with_held wanted) nodes leaves) where
        -- the nodes with all that the record says
        abbrev full : Nodes
        full = fold with_leaf nodes leaves

        behind_leaves : read_record nodes payload ≡ at_end (directories_field c leaves (drop b3 payload))
        behind_leaves =
            behind_c
            ∙ ap (λ r. at_end (and_then r (directories_field c))) (sym (held_reading wanted format nodes (drop b2 payload)) ∙ leaves_are)

        mid_alike : AreAlike mid full
        mid_alike = subst (λ (n : Nodes). AreAlike n full) (sym mid_is)
            (leaves_alike wanted nodes nodes leaves (record { leaves = refl; directories = refl }))

        same_directories : read_list is_u32 read_directory with_directory full (drop b3 payload)
            ≡ read_list is_u32 read_directory with_directory mid (drop b3 payload)
        same_directories = sym (directories_same mid full (drop b3 payload) mid_alike)

        pub bad_directories : (fault : BytesFault)
            → Misses payload fault (read_list is_u32 read_directory with_directory mid (drop b3 payload))
            → MatchesBad fault (record_says nodes payload)
        bad_directories fault misses =
            tells_bad payload fault (read_record nodes payload)
            (same_misses payload fault _ _ behind_leaves (end_misses payload fault _ (then_misses payload fault _ (roots_field c leaves)
            (same_misses payload fault _ _ same_directories misses))))

        module _ (directories : List Directory) (b4 : ℕ)
            (directories_are : read_list is_u32 read_directory with_directory mid (drop b3 payload) ≡ found directories (drop b4 payload))
            (new : Nodes) (new_is : new ≡ fold with_directory mid directories) where
          whole : new ≡ fold with_directory (fold with_leaf nodes (map (held_leaf wanted) leaves)) directories
          whole = new_is ∙ ap (λ n. fold with_directory n directories) (mid_is ∙ fold_held wanted nodes leaves)

          new_alike : AreAlike new (fold with_directory full directories)
          new_alike = subst (λ (n : Nodes). AreAlike n (fold with_directory full directories)) (sym new_is)
              (directories_more mid full directories mid_alike)

          behind_directories : read_record nodes payload
              ≡ mapped (with_roots c leaves directories) (at_end (read_roots new (drop b4 payload)))
          behind_directories =
              behind_leaves
              ∙ ap (λ r. at_end (and_then r (roots_field c leaves))) (same_directories ∙ directories_are)
              ∙ end_of_mapped (with_roots c leaves directories)
              (read_roots (fold with_directory full directories) (drop b4 payload))
              ∙ ap (λ r. mapped (with_roots c leaves directories) (at_end r))
              (sym (roots_same new (fold with_directory full directories) new_alike (drop b4 payload)))

          pub bad_roots : (fault : BytesFault) → Misses payload fault (at_end (read_roots new (drop b4 payload)))
              → MatchesBad fault (record_says nodes payload)
          bad_roots fault misses = tells_bad payload fault (read_record nodes payload)
              (same_misses payload fault _ _ behind_directories (mapped_misses (with_roots c leaves directories) payload fault _ misses))

          pub merged : (ids : Roots) (trees : SegRoots) → at_end (read_roots new (drop b4 payload)) ≡ found ids []
              → AreTreesOf new ids trees → IsMerged wanted nodes new (record_says nodes payload) trees c
          merged ids trees roots_are are = record {
            merge = with_roots c leaves directories ids;
            said = ap (merge_said_by payload) (behind_directories ∙ ap (mapped (with_roots c leaves directories)) roots_are);
            nodes = whole;
            trees_are = are;
            c_is = refl;
          }

-- ---- nodes that grew

pub grown_none : (nodes : Nodes) → IsGrown nodes nodes
grown_none nodes = ([], [], λ i. record { leaves = sym (append-nil nodes.leaves) i; directories = sym (append-nil nodes.directories) i })

pub grown_leaves : (wanted : Wanted) (nodes new : Nodes) (leaves : List Leaf) → new ≡ fold (with_held wanted) nodes leaves
    → IsGrown nodes new
grown_leaves wanted nodes new leaves is =
    let held = map (held_leaf wanted) leaves in (
      held,
      [],
      is ∙ fold_held wanted nodes leaves ∙ with_leaves nodes held
          ∙ ap (λ l. record { leaves = nodes.leaves ++ held; directories = l }) (sym (append-nil nodes.directories)),
    )

grown_behind : (nodes mid new : Nodes) (leaves : List Leaf) (directories : List Directory) → mid ≡ fold with_leaf nodes leaves
    → new ≡ fold with_directory mid directories → IsGrown nodes new
grown_behind nodes mid new leaves directories mid_is new_is = (
  leaves,
  directories,
  new_is ∙ with_directories mid directories
      ∙ ap (λ (n : Nodes). record { leaves = n.leaves; directories = n.directories ++ directories }) (mid_is ∙ with_leaves nodes leaves),
)

pub grown_both : (wanted : Wanted) (nodes mid new : Nodes) (leaves : List Leaf) (directories : List Directory)
    → mid ≡ fold (with_held wanted) nodes leaves → new ≡ fold with_directory mid directories → IsGrown nodes new
grown_both wanted nodes mid new leaves directories mid_is new_is =
    grown_behind nodes mid new (map (held_leaf wanted) leaves) directories (mid_is ∙ fold_held wanted nodes leaves) new_is

-- the first ones of what grew are those from before
pub grown_cut : (nodes new : Nodes) (a b : ℕ) → IsGrown nodes new → a ≡ length nodes.leaves → b ≡ length nodes.directories
    → record { leaves = take a new.leaves; directories = take b new.directories } ≡ nodes
grown_cut nodes new a b grown leaves directories =
    let front = (λ i. take (leaves i) (ap (λ (n : Nodes). n.leaves) grown.2 i)) ∙ take-append_seam nodes.leaves grown.0 in
    let back = (λ i. take (directories i) (ap (λ (n : Nodes). n.directories) grown.2 i)) ∙ take-append_seam nodes.directories grown.1 in
    λ i. record { leaves = front i; directories = back i }

-- the nodes of a record are more nodes
pub grown_merged : (wanted : Wanted) (old new : Nodes) (says : MergeSays) (trees : SegRoots) (c : ℕ)
    → IsMerged wanted old new says trees c → IsGrown old new
grown_merged wanted old new says trees c is =
    let leaves = map (held_leaf wanted) is.merge.leaves in
    grown_behind old (fold with_leaf old leaves) new leaves is.merge.directories refl is.nodes

-- ---- four roots, one after another

abbrev pub RootsSoFar : Nodes → List (List ℕ) → List ℕ → ℕ → List ℕ → Reading (List (List ℕ)) → Type 0
RootsSoFar nodes front reached left here total = with_front front
    (several_over (read_root nodes) (fold (reaching nodes)) reached left here) ≡ total

pub roots_begin : (nodes : Nodes) (reached here : List ℕ) → reached ≡ []
    → RootsSoFar nodes [] reached 4 here (several_over (read_root nodes) (fold (reaching nodes)) [] 4 here)
roots_begin nodes reached here none = with_none _ ∙ ap (λ s. several_over (read_root nodes) (fold (reaching nodes)) s 4 here) none

module _ (nodes : Nodes) (front : List (List ℕ)) (reached : List ℕ) (k : ℕ) (here : List ℕ) (total : Reading (List (List ℕ)))
    (so_far : RootsSoFar nodes front reached (suc k) here total) where
  pub roots_go_on : (ids next behind : List ℕ) → read_root nodes reached here ≡ found ids behind
      → next ≡ fold (reaching nodes) reached ids → RootsSoFar nodes (front ++ ids ∷ []) next k behind total
  roots_go_on ids next behind is next_is =
      ap (λ s. with_front (front ++ ids ∷ []) (several_over (read_root nodes) (fold (reaching nodes)) s k behind)) next_is
      ∙ sym (one_more front ids (several_over (read_root nodes) (fold (reaching nodes)) (fold (reaching nodes) reached ids) k behind))
      ∙ ap (λ r. with_front front (and_then r (λ a rest. mapped (λ more. a ∷ more) (several_over (read_root nodes) (fold (reaching nodes))
      (fold (reaching nodes) reached a) k rest)))) (sym is)
      ∙ so_far

  pub roots_stop : (bytes : List ℕ) (fault : BytesFault) → Misses bytes fault (read_root nodes reached here)
      → Misses bytes fault (mapped four total)
  roots_stop bytes (At byte) misses = (
    misses.0,
    ap (mapped four) (sym so_far ∙ ap (λ r. with_front front (and_then r (λ a rest. mapped (λ more. a ∷ more) (several_over
        (read_root nodes) (fold (reaching nodes)) (fold (reaching nodes) reached a) k rest)))) misses.1),
  )
  roots_stop bytes Memory misses = tt

pub roots_done : (nodes : Nodes) (front : List (List ℕ)) (reached here : List ℕ) (total : Reading (List (List ℕ)))
    → RootsSoFar nodes front reached 0 here total → mapped four total ≡ found (four front) here
roots_done nodes front reached here total so_far = ap (mapped four) (sym so_far ∙ ap (λ items. found items here) (append-nil front))
