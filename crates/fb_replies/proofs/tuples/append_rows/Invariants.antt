use Rattle.std.proofs.Common.{map, take}
use Rattle.edn_model.specs.Form.{forms}
use Rattle.edn_model.specs.Canon.{CanonAll}
use Rattle.edn_print.specs.Printed.{Appends}
use Rattle.talk_model.specs.Replies.{row_form}
use Rattle.fb_tuples.specs.Lent.{model_row}
use Rattle.fb_replies.proofs.tuples.append_rows.Given as goal

abbrev pub invariant-loop-index : goal.invariant-loop-index
invariant-loop-index l =
    Appends (CanonAll (forms (map (λ row. row_form (model_row row)) (take l.index l.rows)))) l.fn.line.items l.line.items
