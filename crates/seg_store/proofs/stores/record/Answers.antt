use Rattle.std.proofs.Common.{◌∙◌, arith}
use Rattle.std.specs.Prelude.{All, IsTrue}
use Rattle.std.proofs.lemmas.Bool.{and_parts}
use Rattle.std.proofs.lemmas.List.Elements.{All-weaker}
use Rattle.std.proofs.lemmas.Result.{IfOk-weaker}
use Rattle.fb_values.specs.declared.facts.Datom.{Datom}
use Rattle.log_model.specs.Payload.{written_format}
use Rattle.log_model.specs.Storable.{is_storable_value}
use Rattle.log_model.specs.Merges.{is_storable_dated}
use Rattle.seg_tree.specs.Nodes.{LeafNode}
use Rattle.seg_codec.specs.Trees.{leaves_of_four}
use Rattle.seg_store.proofs.Keeping.{next_record}
use Rattle.seg_store.proofs.stores.record.Goals as goal

value_of : (d : Datom) → IsTrue (is_storable_dated written_format d) → IsTrue (is_storable_value written_format d.v)
value_of d is = (and_parts _ _ (and_parts _ _ (and_parts _ _ is).0).0).1

pub record_bytes-requires : goal.record_bytes-requires
record_bytes-requires c =
    All-weaker (λ (leaf : LeafNode). All (λ d. IsTrue (is_storable_dated written_format d)) leaf.datoms)
    (λ (leaf : LeafNode). All (λ d. IsTrue (is_storable_value written_format d.v)) leaf.datoms)
    (λ leaf. All-weaker (λ d. IsTrue (is_storable_dated written_format d)) (λ d. IsTrue (is_storable_value written_format d.v))
    value_of leaf.datoms)
    (leaves_of_four c.args.roots.now) c.requires

pub returns : goal.returns
returns c =
    IfOk-weaker c.frame_in.result _ _
    (λ payload is.
    next_record c.args.ids.now c.args.roots.now c.args.c payload c.args.roots.now.distinct c.in_ok-check_counts.ensures
    (omega (arith, c.ranges.c)) (is ∙ c.in_ok-bytes.ensures.bytes))
    c.frame_in.ensures
