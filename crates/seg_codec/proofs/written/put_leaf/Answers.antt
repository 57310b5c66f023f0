use Rattle.std.proofs.Common.{◌++◌, sym, ap, subst, ◌∙◌, append_assoc}
use Rattle.std.specs.Prelude.{All, IsTrue}
use Rattle.std.proofs.lemmas.Result.{on_ok_weaker}
use Rattle.log_model.specs.Fields.{u64_bytes}
use Rattle.log_model.specs.Payload.{written_format}
use Rattle.log_model.specs.Storable.{is_storable_value}
use Rattle.log_model.specs.Nodes.{list_bytes, dated_bytes}
use Rattle.seg_codec.proofs.written.put_leaf.Goals as goal

pub put_datoms-requires : goal.put_datoms-requires
put_datoms-requires c = subst (All (λ d. IsTrue (is_storable_value written_format d.v))) (sym c.datoms.ensures.datoms) c.requires

pub returns : goal.returns
returns c =
    let old = c.args.out.now.items in
    let leaf = c.args.leaf.now in
    on_ok_weaker c.put_datoms.result
    (λ last. last
    ∙ ap (λ ds. c.put.new.out.items ++ list_bytes dated_bytes ds) c.datoms.ensures.datoms
    ∙ ap (λ l. l ++ list_bytes dated_bytes leaf.datoms)
    (c.in_ok-put.ensures ∙ ap (λ l. old ++ l) (c.to_be_bytes.ensures ∙ ap u64_bytes c.id.ensures.id))
    ∙ append_assoc old (u64_bytes leaf.id) (list_bytes dated_bytes leaf.datoms))
    c.put_datoms.ensures
