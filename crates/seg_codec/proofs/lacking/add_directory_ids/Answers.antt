use Rattle.std.proofs.Common.{◌<◌, ◌≤◌, ◌++◌, ◌∷◌, [], length, map, take, sym, ap, ◌∙◌, arith, append_assoc}
use Rattle.std.specs.Arc.{arc_value}
use Rattle.seg_tree.specs.Nodes.{DirectoryNode}
use Rattle.seg_codec.specs.Trees.{directory_ids}
use Rattle.std.proofs.lemmas.List.{take_all}
use Rattle.seg_codec.proofs.LackingIds.{directory_ids_more}
use Rattle.seg_codec.proofs.lacking.add_directory_ids.Goals as goal

pub loop-directory-preserved : goal.loop-directory-preserved
loop-directory-preserved c =
    let old = c.args.ids.now.items in
    let items = c.args.directories.now.items in
    let i = c.loop-directory.directory-index in
    let there : c.loop-directory.directory-index < length c.deref-directory-items.result.now = omega arith in
    let within = rw c.deref-directory-items.ensures.value at there in
    let is = rw c.deref-directory-items.ensures.value at c.directory-item.is in
    let id = c.id.ensures ∙ ap (λ (x : DirectoryNode). x.id) c.deref.ensures in
    c.in_ok-push.ensures.items
    ∙ ap (λ l. l ++ c.id.result ∷ []) c.loop-directory.invariant
    ∙ ap (λ n. (old ++ directory_ids (map arc_value (take i items))) ++ n ∷ []) id
    ∙ append_assoc old (directory_ids (map arc_value (take i items))) ((arc_value {X = DirectoryNode} c.directory-item.result).id ∷ [])
    ∙ ap (λ l. old ++ l) (sym (directory_ids_more arc_value items i c.directory-item.result within is))

pub returns : goal.returns
returns c =
    let past : length c.deref-directory-items.result.now ≤ c.loop-directory.directory-index = omega arith in
    c.loop-directory.invariant ∙ ap (λ l. c.args.ids.now.items ++ l) (ap (λ l. directory_ids (map arc_value l)) (take_all
    c.loop-directory.directory-index c.args.directories.now.items (rw c.deref-directory-items.ensures.value at past)))
