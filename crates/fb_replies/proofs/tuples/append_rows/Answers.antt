use Rattle.std.proofs.Common.{◌≡◌, true, List, map, take, sym, subst, arith, ◌∙◌}
use Rattle.std.specs.List.{list_all}
use Rattle.std.proofs.lemmas.List.{take_all}
use Rattle.std.proofs.lemmas.List.Folds.{list_all-map}
use Rattle.std.proofs.lemmas.List.Sums.{AllPass-from_list_all}
use Rattle.edn_model.specs.Form.{Form, forms}
use Rattle.edn_model.specs.Canon.{CanonAll}
use Rattle.edn_print.specs.Printed.{Appends}
use Rattle.tuple_model.specs.Tuples.{Row}
use Rattle.talk_model.specs.Replies.{row_form}
use Rattle.fb_tuples.specs.declared.rows.LentRow.{LentRow}
use Rattle.fb_tuples.specs.Lent.{model_row}
use Rattle.fb_replies.specs.Texts.{members_have_texts}
use Rattle.fb_replies.proofs.Growing.{no_member, member_taken, map_twice}
use Rattle.fb_replies.proofs.tuples.append_rows.Goals as goal

pub append_row-requires : goal.append_row-requires
append_row-requires c =
    let rows = c.args.rows.now in
    let x = c.index-rows-index.result in
    let passes = λ (row : LentRow). members_have_texts (model_row row).tuple in
    let each : list_all passes rows ≡ true = sym (list_all-map (λ (row : Row). members_have_texts row.tuple) model_row rows) ∙ c.requires in
    subst (λ (row : LentRow). members_have_texts (model_row row).tuple ≡ true) (sym c.index-rows-index.is)
    (AllPass-from_list_all passes rows each c.loop-index.index x (omega arith))

pub loop-index-init : goal.loop-index-init
loop-index-init c = no_member c.args.line.now.items

pub loop-index-preserved : goal.loop-index-preserved
loop-index-preserved c =
    let x = c.index-rows-index.result in
    member_taken (λ (row : LentRow). row_form (model_row row)) c.args.rows.now c.loop-index.index x _ _ _ _ (omega arith)
    (sym c.index-rows-index.is) c.loop-index.invariant c.in_ok-separate.ensures c.in_ok-append_row.ensures

pub returns : goal.returns
returns c =
    let xs = c.args.rows.now in
    let f = λ (row : LentRow). row_form (model_row row) in
    let whole : take c.loop-index.index xs ≡ xs = take_all c.loop-index.index xs (omega arith) in
    let here =
    subst (λ rows. Appends (CanonAll (forms (map f rows))) c.args.line.now.items c.loop-index.line.items) whole c.loop-index.invariant in
    subst (λ (fs : List Form). Appends (CanonAll (forms fs)) c.args.line.now.items c.loop-index.line.items)
    (map_twice row_form model_row xs) here
