use Rattle.std.proofs.Common.{◌++◌, ◌∙◌, Bor, ap, map}
use Rattle.fb_values.specs.declared.facts.Datom.{Datom}
use Rattle.std.specs.Prelude.{decimal}
use Rattle.std.proofs.lemmas.Result.{on_ok_weaker}
use Rattle.fb_replies.proofs.Lines.{datoms_line}
use Rattle.fb_replies.proofs.replies.write_datoms.Goals as goal

pub returns : goal.returns
returns c =
    let n = c.in_ok-append_count.ensures ∙ ap (λ n. c.begin.new.line.items ++ decimal n) c.from.ensures in
    on_ok_weaker c.append-2.result (λ e. datoms_line c.args.basis c.args.schema.now (map (λ (d : Bor Datom). d.now) c.args.datoms.now) _ _ _
    _ _ c.in_ok-begin.ensures n c.in_ok-append.ensures c.in_ok-append_lent.ensures e) c.append-2.ensures
