use Rattle.std.proofs.Common.{map, take}
use Rattle.edn_model.specs.Form.{pairs}
use Rattle.edn_model.specs.Canon.{CanonPairs}
use Rattle.edn_print.specs.Printed.{Appends}
use Rattle.talk_model.specs.Replies.{tempid_pair}
use Rattle.fb_replies.proofs.tokens.append_tempids.Given as goal

abbrev pub invariant-loop-index : goal.invariant-loop-index
invariant-loop-index l = Appends (CanonPairs (pairs (map tempid_pair (take l.index l.tempids)))) l.fn.line.items l.line.items
