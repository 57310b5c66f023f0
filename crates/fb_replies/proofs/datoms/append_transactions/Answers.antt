use Rattle.std.proofs.Common.{◌≡◌, true, Bor, List, map, take, sym, subst, arith, ◌∙◌}
use Rattle.std.specs.List.{list_all}
use Rattle.std.proofs.lemmas.List.{take_all}
use Rattle.std.proofs.lemmas.List.Folds.{list_all-map}
use Rattle.std.proofs.lemmas.List.Sums.{AllPass-from_list_all}
use Rattle.edn_model.specs.Form.{Form, forms}
use Rattle.edn_model.specs.Canon.{CanonAll}
use Rattle.edn_print.specs.Printed.{Appends}
use Rattle.fb_values.specs.declared.facts.Entry.{Entry}
use Rattle.talk_model.specs.Replies.{transaction_form}
use Rattle.fb_replies.specs.Texts.{have_texts}
use Rattle.fb_replies.proofs.Growing.{no_member, member_taken, map_twice}
use Rattle.fb_replies.proofs.datoms.append_transactions.Goals as goal

pub append_transaction-requires : goal.append_transaction-requires
append_transaction-requires c =
    let es = c.args.entries.now in
    let x = c.index-entries-index.result in
    let passes = λ (entry : Bor Entry). have_texts entry.now.datoms in
    let each : list_all passes es ≡ true =
    sym (list_all-map (λ (entry : Entry). have_texts entry.datoms) (λ (entry : Bor Entry). entry.now) es) ∙ c.requires in
    subst (λ (entry : Bor Entry). have_texts entry.now.datoms ≡ true) (sym c.index-entries-index.is)
    (AllPass-from_list_all passes es each c.loop-index.index x (omega arith))

pub loop-index-init : goal.loop-index-init
loop-index-init c = no_member c.args.line.now.items

pub loop-index-preserved : goal.loop-index-preserved
loop-index-preserved c =
    let x = c.index-entries-index.result in
    member_taken (λ (entry : Bor Entry). transaction_form c.args.schema.now entry.now) c.args.entries.now c.loop-index.index x _ _ _ _
    (omega arith) (sym c.index-entries-index.is) c.loop-index.invariant c.in_ok-separate.ensures c.in_ok-append_transaction.ensures

pub returns : goal.returns
returns c =
    let xs = c.args.entries.now in
    let f = λ (entry : Bor Entry). transaction_form c.args.schema.now entry.now in
    let whole : take c.loop-index.index xs ≡ xs = take_all c.loop-index.index xs (omega arith) in
    let here =
    subst (λ es. Appends (CanonAll (forms (map f es))) c.args.line.now.items c.loop-index.line.items) whole c.loop-index.invariant in
    subst (λ (fs : List Form). Appends (CanonAll (forms fs)) c.args.line.now.items c.loop-index.line.items)
    (map_twice (transaction_form c.args.schema.now) (λ (entry : Bor Entry). entry.now) xs) here
