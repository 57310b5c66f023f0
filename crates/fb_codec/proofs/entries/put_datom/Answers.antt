use Rattle.std.proofs.Common.{[], ◌∷◌, ◌++◌, ap, ◌∙◌}
use Rattle.std.proofs.lemmas.Result.{on_ok_weaker}
use Rattle.fb_codec.proofs.Rows.{datom_written}
use Rattle.fb_codec.proofs.entries.put_datom.Goals as goal

pub returns : goal.returns
returns c =
    let old = c.args.out.now.items in
    on_ok_weaker c.put-3.result
    (λ last. datom_written c.args.datom.now old c.put.new.out.items c.put-2.new.out.items c.put_value.new.out.items c.put-3.new.out.items
    (c.in_ok-put.ensures ∙ ap (λ l. old ++ l) c.to_be_bytes.ensures)
    (c.in_ok-put-2.ensures ∙ ap (λ l. c.put.new.out.items ++ l) c.to_be_bytes-2.ensures)
    c.in_ok-put_value.ensures
    (last ∙ ap (λ b. c.put_value.new.out.items ++ b ∷ []) c.from.ensures))
    c.put-3.ensures
