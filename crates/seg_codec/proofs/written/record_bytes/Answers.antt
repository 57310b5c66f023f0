use Rattle.std.proofs.Common.{◌≡◌, ◌++◌, ◌∷◌, [], not, map, sym, ap, subst, ◌∙◌}
use Rattle.std.specs.Prelude.{All, IsTrue, flat_map}
use Rattle.std.proofs.lemmas.List.Elements.{All-filter}
use Rattle.log_model.specs.Fields.{u32_bytes, u64_bytes}
use Rattle.log_model.specs.Payload.{written_format}
use Rattle.log_model.specs.Storable.{is_storable_value}
use Rattle.log_model.specs.Nodes.{is_among, list_bytes, leaf_bytes, directory_bytes, in_order_of_indexes}
use Rattle.seg_tree.specs.Nodes.{LeafNode}
use Rattle.seg_codec.specs.Trees.{file_leaf, file_directory, leaves_of_four, roots_of, merge_over}
use Rattle.seg_codec.proofs.Rows.{behind_free, free_room}
use Rattle.seg_codec.proofs.written.record_bytes.Goals as goal
use Rattle.seg_codec.proofs.written.record_bytes.Goals.{In_ok-put_roots}

pub put_leaves-requires : goal.put_leaves-requires
put_leaves-requires c =
    subst (All (λ (leaf : LeafNode). All (λ d. IsTrue (is_storable_value written_format d.v)) leaf.datoms)) (sym c.in_ok-leaves.ensures)
    (All-filter (λ (leaf : LeafNode). not (is_among c.args.in_file.now leaf.id))
    (λ (leaf : LeafNode). All (λ d. IsTrue (is_storable_value written_format d.v)) leaf.datoms)
    (leaves_of_four c.args.roots.now) c.requires)

whole : (c : In_ok-put_roots) → c.put_roots.new.out.items
    ≡ ((((0 ∷ 0 ∷ 0 ∷ 0 ∷ 0 ∷ 0 ∷ 0 ∷ 0 ∷ []) ++ 2 ∷ []) ++ u32_bytes c.args.c) ++ list_bytes leaf_bytes
    (merge_over c.args.in_file.now c.args.roots.now c.args.c).leaves)
    ++ list_bytes directory_bytes (merge_over c.args.in_file.now c.args.roots.now c.args.c).directories
    ++ flat_map (list_bytes u64_bytes) (in_order_of_indexes (roots_of c.args.roots.now))
whole c =
    let merge = merge_over c.args.in_file.now c.args.roots.now c.args.c in
    let leaves = list_bytes leaf_bytes merge.leaves in
    let directories = list_bytes directory_bytes merge.directories in
    let roots = flat_map (list_bytes u64_bytes) (in_order_of_indexes (roots_of c.args.roots.now)) in
    let front = c.in_ok-push.ensures.items
    ∙ ap (λ l. l ++ 2 ∷ []) (c.in_ok-put.ensures ∙ ap (λ l. l ++ 0 ∷ 0 ∷ 0 ∷ 0 ∷ 0 ∷ 0 ∷ 0 ∷ 0 ∷ []) c.in_ok-out.ensures.items) in
    let with_c = c.in_ok-put-2.ensures ∙ ap (λ l. c.push.new.self.items ++ l) c.to_be_bytes.ensures
    ∙ ap (λ l. l ++ u32_bytes c.args.c) front in
    let with_leaves = c.in_ok-put_leaves.ensures
    ∙ ap (λ ls. c.put-2.new.out.items ++ list_bytes leaf_bytes (map file_leaf ls)) c.in_ok-leaves.ensures
    ∙ ap (λ l. l ++ leaves) with_c in
    let with_directories = c.in_ok-put_directories.ensures
    ∙ ap (λ ds. c.put_leaves.new.out.items ++ list_bytes directory_bytes (map file_directory ds)) c.in_ok-directories.ensures
    ∙ ap (λ l. l ++ directories) with_leaves in
    c.in_ok-put_roots.ensures ∙ ap (λ l. l ++ roots) with_directories

pub returns-clause-room : goal.returns-clause-room
returns-clause-room c =
    free_room c.put_roots.new.out.items (u32_bytes c.args.c)
    (list_bytes leaf_bytes (merge_over c.args.in_file.now c.args.roots.now c.args.c).leaves)
    (list_bytes directory_bytes (merge_over c.args.in_file.now c.args.roots.now c.args.c).directories)
    (flat_map (list_bytes u64_bytes) (in_order_of_indexes (roots_of c.args.roots.now))) 2
    (whole (goal.at.returns-clause-room c).In_ok-put_roots)

pub returns-clause-bytes : goal.returns-clause-bytes
returns-clause-bytes c =
    behind_free c.put_roots.new.out.items (u32_bytes c.args.c)
    (list_bytes leaf_bytes (merge_over c.args.in_file.now c.args.roots.now c.args.c).leaves)
    (list_bytes directory_bytes (merge_over c.args.in_file.now c.args.roots.now c.args.c).directories)
    (flat_map (list_bytes u64_bytes) (in_order_of_indexes (roots_of c.args.roots.now))) 2
    (whole (goal.at.returns-clause-bytes c).In_ok-put_roots)
