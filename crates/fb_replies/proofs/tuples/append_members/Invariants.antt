use Rattle.std.proofs.Common.{map, take}
use Rattle.std.specs.Option.{option_map}
use Rattle.edn_model.specs.Form.{forms}
use Rattle.edn_model.specs.Canon.{CanonAll}
use Rattle.edn_print.specs.Printed.{Appends}
use Rattle.talk_model.specs.Replies.{member_form}
use Rattle.fb_replies.proofs.tuples.append_members.Given as goal

abbrev pub invariant-loop-index : goal.invariant-loop-index
invariant-loop-index l =
    Appends (CanonAll (forms (map (λ member. member_form (option_map (λ v. v.now) member)) (take l.index l.members)))) l.fn.line.items
    l.line.items
