use Rattle.std.proofs.Common.{◌≡◌, true, Bor, List, map, take, sym, subst, arith, ◌∙◌}
use Rattle.std.specs.List.{list_all}
use Rattle.std.proofs.lemmas.List.{take_all}
use Rattle.std.proofs.lemmas.List.Folds.{list_all-map}
use Rattle.std.proofs.lemmas.List.Sums.{AllPass-from_list_all}
use Rattle.edn_model.specs.Form.{Form, forms}
use Rattle.edn_model.specs.Canon.{CanonAll}
use Rattle.edn_print.specs.Printed.{Appends}
use Rattle.fb_values.specs.declared.facts.Datom.{Datom}
use Rattle.talk_model.specs.Replies.{datom_form}
use Rattle.fb_replies.specs.Texts.{has_text}
use Rattle.fb_replies.proofs.Growing.{no_member, member_taken, map_twice}
use Rattle.fb_replies.proofs.datoms.append_lent.Goals as goal

pub append_datom-requires : goal.append_datom-requires
append_datom-requires c =
    let ds = c.args.datoms.now in
    let x = c.index-datoms-index.result in
    let passes = λ (d : Bor Datom). has_text d.now.v in
    let each : list_all passes ds ≡ true = sym (list_all-map (λ (d : Datom). has_text d.v) (λ (d : Bor Datom). d.now) ds) ∙ c.requires in
    subst (λ (d : Bor Datom). has_text d.now.v ≡ true) (sym c.index-datoms-index.is)
    (AllPass-from_list_all passes ds each c.loop-index.index x (omega arith))

pub loop-index-init : goal.loop-index-init
loop-index-init c = no_member c.args.line.now.items

pub loop-index-preserved : goal.loop-index-preserved
loop-index-preserved c =
    let x = c.index-datoms-index.result in
    member_taken (λ (d : Bor Datom). datom_form c.args.schema.now d.now) c.args.datoms.now c.loop-index.index x _ _ _ _ (omega arith)
    (sym c.index-datoms-index.is) c.loop-index.invariant c.in_ok-separate.ensures c.in_ok-append_datom.ensures

pub returns : goal.returns
returns c =
    let xs = c.args.datoms.now in
    let f = λ (d : Bor Datom). datom_form c.args.schema.now d.now in
    let whole : take c.loop-index.index xs ≡ xs = take_all c.loop-index.index xs (omega arith) in
    let here =
    subst (λ ds. Appends (CanonAll (forms (map f ds))) c.args.line.now.items c.loop-index.line.items) whole c.loop-index.invariant in
    subst (λ (fs : List Form). Appends (CanonAll (forms fs)) c.args.line.now.items c.loop-index.line.items)
    (map_twice (datom_form c.args.schema.now) (λ (d : Bor Datom). d.now) xs) here
