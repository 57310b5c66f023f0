use Rattle.std.proofs.Common.{◌≡◌, true, Bor, List, Option, map, take, sym, subst, arith, ◌∙◌}
use Rattle.std.specs.List.{list_all}
use Rattle.std.specs.Option.{option_map, option_map_or}
use Rattle.std.proofs.lemmas.List.{take_all}
use Rattle.std.proofs.lemmas.List.Folds.{list_all-map}
use Rattle.std.proofs.lemmas.List.Sums.{AllPass-from_list_all}
use Rattle.edn_model.specs.Form.{Form, forms}
use Rattle.edn_model.specs.Canon.{CanonAll}
use Rattle.edn_print.specs.Printed.{Appends}
use Rattle.fb_values.specs.declared.facts.Value.{Value}
use Rattle.talk_model.specs.Replies.{member_form}
use Rattle.fb_replies.specs.Texts.{has_text}
use Rattle.fb_replies.proofs.Growing.{no_member, member_taken, map_twice}
use Rattle.fb_replies.proofs.tuples.append_members.Goals as goal

abbrev lent : Option (Bor Value) → Option Value
lent = option_map (λ v. v.now)

pub append_member-requires : goal.append_member-requires
append_member-requires c =
    let members = c.args.members.now in
    let x = c.index-members-index.result in
    let passes = λ (member : Option (Bor Value)). option_map_or has_text (lent member) true in
    let each : list_all passes members ≡ true =
    sym (list_all-map (λ (member : Option Value). option_map_or has_text member true) lent members) ∙ c.requires in
    subst (λ (member : Option (Bor Value)). option_map_or has_text (lent member) true ≡ true) (sym c.index-members-index.is)
    (AllPass-from_list_all passes members each c.loop-index.index x (omega arith))

pub loop-index-init : goal.loop-index-init
loop-index-init c = no_member c.args.line.now.items

pub loop-index-preserved : goal.loop-index-preserved
loop-index-preserved c =
    let x = c.index-members-index.result in
    member_taken (λ (member : Option (Bor Value)). member_form (lent member)) c.args.members.now c.loop-index.index x _ _ _ _ (omega arith)
    (sym c.index-members-index.is) c.loop-index.invariant c.in_ok-separate.ensures c.in_ok-append_member.ensures

pub returns : goal.returns
returns c =
    let xs = c.args.members.now in
    let f = λ (member : Option (Bor Value)). member_form (lent member) in
    let whole : take c.loop-index.index xs ≡ xs = take_all c.loop-index.index xs (omega arith) in
    let here =
    subst (λ ms. Appends (CanonAll (forms (map f ms))) c.args.line.now.items c.loop-index.line.items) whole c.loop-index.invariant in
    subst (λ (fs : List Form). Appends (CanonAll (forms fs)) c.args.line.now.items c.loop-index.line.items)
    (map_twice member_form lent xs) here
