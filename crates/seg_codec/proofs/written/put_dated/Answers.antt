use Rattle.std.proofs.Common.{◌++◌, ap, ◌∙◌, append_assoc}
use Rattle.std.proofs.lemmas.Result.{on_ok_weaker}
use Rattle.log_model.specs.Fields.{u32_bytes}
use Rattle.log_model.specs.Payload.{datom_bytes}
use Rattle.seg_codec.proofs.written.put_dated.Goals as goal

pub returns : goal.returns
returns c =
    let old = c.args.out.now.items in
    let d = c.args.datom.now in
    on_ok_weaker c.put.result
    (λ last. last
    ∙ ap (λ l. c.put_datom.new.out.items ++ l) c.to_be_bytes.ensures
    ∙ ap (λ l. l ++ u32_bytes d.t) c.in_ok-put_datom.ensures
    ∙ append_assoc old (datom_bytes d) (u32_bytes d.t))
    c.put.ensures
