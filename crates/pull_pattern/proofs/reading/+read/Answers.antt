-- By the lemmas on patterns that are put together.
use Rattle.std.proofs.Common.{rules, Some, ap, sym, ◌∙◌, option_map, length}
use Rattle.edn_model.specs.Form as edn
use Rattle.edn_form.specs.View.{form_of, forms_of, pairs_of, members, entries}
use Rattle.pull_model.specs.Patterns as model
use Rattle.pull_model.specs.Reading as reading
use Rattle.pull_pattern.specs.View.{pattern_of}
use Rattle.pull_pattern.proofs.Joined.{both-first, not_empty, read_more, read_all, read_none, any_items, specify_more, specify_all}
use Rattle.pull_pattern.proofs.Joined.{specify_none, any_specifications, item_of_vector}
use Rattle.pull_pattern.proofs.Refused.{refused_again}
use Rattle.pull_pattern.proofs.reading.+read.Goals as goal

-- ---- a form as an item

pub add_item-returns-in_err-item_with_options-in-Vector-clause-refused :
    goal.add_item-returns-in_err-item_with_options-in-Vector-clause-refused
add_item-returns-in_err-item_with_options-in-Vector-clause-refused t c =
    refused_again c.from_residual-in_err-item_with_options-in-Vector.result c.in_err-item_with_options-in-Vector.field-0.0
    (reading.item_with_options (forms_of c.as_slice.result.now)) (reading.item_of (form_of c.args.f.now))
    c.from_residual-in_err-item_with_options-in-Vector.ensures.1 c.in_err-item_with_options-in-Vector.ensures
    (λ none. ap (λ f. reading.item_of (form_of f)) c.in-Vector.is
    ∙ item_of_vector c.in-Vector.items
    ∙ ap (λ es. option_map model.one (reading.item_with_options (forms_of es))) (sym c.as_slice.ensures)
    ∙ ap (option_map model.one) none)

pub add_item-returns-in_ok-add-in-Vector-clause-added : goal.add_item-returns-in_ok-add-in-Vector-clause-added
add_item-returns-in_ok-add-in-Vector-clause-added t c =
    ap Some c.in_ok-add-in-Vector.ensures
    ∙ sym (ap (reading.both (Some (pattern_of c.args.list.now.items)))
    (ap (λ f. reading.item_of (form_of f)) c.in-Vector.is
    ∙ item_of_vector c.in-Vector.items
    ∙ ap (λ es. option_map model.one (reading.item_with_options (forms_of es))) (sym c.as_slice.ensures)
    ∙ ap (option_map model.one) c.in_ok-item_with_options-in-Vector.ensures))

-- ---- the forms of a vector

pub add_items-returns-in_err-add_item-clause-refused : goal.add_items-returns-in_err-add_item-clause-refused
add_items-returns-in_err-add_item-clause-refused t c =
    let es = members c.args.items.now in
    let all = reading.items_of (edn.forms (forms_of es)) in
    let f = c.f-item.result in
    refused_again c.from_residual.result c.in_err-add_item.field-0.0 (reading.item_of (form_of f)) all
    c.from_residual.ensures.1 c.in_err-add_item.ensures.refused
    (read_none es c.loop-f.f-index f (pattern_of c.loop-f.list.items) (pattern_of c.args.list.now.items) all c.loop-f.invariant
    (search rules) (search rules))

pub add_items-loop-f-preserved : goal.add_items-loop-f-preserved
add_items-loop-f-preserved t c =
    let es = members c.args.items.now in
    let all = reading.items_of (edn.forms (forms_of es)) in
    let list = pattern_of c.loop-f.list.items in
    let new = pattern_of c.add_item.new.list.items in
    read_more es c.loop-f.f-index c.f-item.result (Some list) (Some new) (reading.both (Some (pattern_of c.args.list.now.items)) all)
    c.loop-f.invariant (search rules) (search rules) c.in_ok-add_item.ensures.added

pub add_items-returns-clause-added : goal.add_items-returns-clause-added
add_items-returns-clause-added t c =
    let es = members c.args.items.now in
    let all = reading.items_of (edn.forms (forms_of es)) in
    read_all es c.loop-f.f-index (Some (pattern_of c.loop-f.list.items)) (reading.both (Some (pattern_of c.args.list.now.items)) all)
    c.loop-f.invariant (search rules)

pub pattern_below-returns : goal.pattern_below-returns
pattern_below-returns t c =
    let es = members c.args.items.now in
    let all = reading.items_of (edn.forms (forms_of es)) in
    any_items es (not_empty (length es) c.if-is_empty.ensures)
    ∙ sym (both-first all)
    ∙ sym (ap (λ xs. reading.both (Some (pattern_of xs)) all) c.new-list.ensures.items)
    ∙ sym c.in_ok-add_items.ensures.added
    ∙ ap Some (sym c.in_ok-of.ensures)

-- ---- the pairs of a map

pub add_specifications-returns-in_err-specification-clause-refused : goal.add_specifications-returns-in_err-specification-clause-refused
add_specifications-returns-in_err-specification-clause-refused t c =
    let es = entries c.args.pairs.now in
    let all = reading.specifications_of (edn.pairs (pairs_of es)) in
    let p = c.loop-key-item.result in
    refused_again c.from_residual.result c.in_err-specification.field-0.0
    (reading.specification (reading.specified (form_of p.0)) (reading.below_of (form_of p.1))) (reading.if_any all)
    c.from_residual.ensures.1 c.in_err-specification.ensures
    (λ none. any_specifications es (not_empty (length es) c.if-is_empty.ensures)
    ∙ specify_none es c.loop-key.key-index p (pattern_of c.loop-key.list.items) (pattern_of c.args.list.now.items) all c.loop-key.invariant
    (search rules) (search rules) (ap (option_map model.one) none))

pub add_specifications-loop-key-preserved : goal.add_specifications-loop-key-preserved
add_specifications-loop-key-preserved t c =
    let es = entries c.args.pairs.now in
    let all = reading.specifications_of (edn.pairs (pairs_of es)) in
    let list = pattern_of c.loop-key.list.items in
    let new = pattern_of c.add.new.list.items in
    specify_more es c.loop-key.key-index c.loop-key-item.result (Some list) (Some new)
    (reading.both (Some (pattern_of c.args.list.now.items)) all) c.loop-key.invariant (search rules) (search rules)
    (ap Some c.in_ok-add.ensures ∙ sym (ap (λ o. reading.both (Some list) (option_map model.one o)) c.in_ok-specification.ensures))

pub add_specifications-returns-clause-added : goal.add_specifications-returns-clause-added
add_specifications-returns-clause-added t c =
    let es = entries c.args.pairs.now in
    let all = reading.specifications_of (edn.pairs (pairs_of es)) in
    let first = pattern_of c.args.list.now.items in
    specify_all es c.loop-key.key-index (Some (pattern_of c.loop-key.list.items)) (reading.both (Some first) all)
    c.loop-key.invariant (search rules)
    ∙ sym (ap (reading.both (Some first)) (any_specifications es (not_empty (length es) c.if-is_empty.ensures)))
