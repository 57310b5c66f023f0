use Rattle.std.proofs.Common.{map, take}
use Rattle.edn_model.specs.Form.{forms}
use Rattle.edn_model.specs.Canon.{CanonAll}
use Rattle.edn_print.specs.Printed.{Appends}
use Rattle.talk_model.specs.Replies.{transaction_form}
use Rattle.fb_replies.proofs.datoms.append_transactions.Given as goal

abbrev pub invariant-loop-index : goal.invariant-loop-index
invariant-loop-index l =
    Appends (CanonAll (forms (map (λ entry. transaction_form l.schema entry.now) (take l.index l.entries)))) l.fn.line.items l.line.items
