-- By the lemmas on the outermost pattern.
use Rattle.std.proofs.Common.{rules, Some, Err, ap, sym, subst, ◌∙◌, refl, length}
use Rattle.edn_model.specs.Form as edn
use Rattle.edn_form.specs.View.{form_of, forms_of, members}
use Rattle.pull_model.specs.Patterns.{no_items}
use Rattle.pull_model.specs.Reading as reading
use Rattle.pull_pattern.specs.Answers.{ReadsPattern}
use Rattle.pull_pattern.specs.View.{pattern_of}
use Rattle.pull_pattern.proofs.Joined.{both-first, not_empty, read_more, read_all, read_none, bad_more, bad_here, no_pattern, a_pattern}
use Rattle.pull_pattern.proofs.Refused.{refused_at}
use Rattle.pull_pattern.proofs.reading.read_outermost.Goals as goal

pub loop-item-init : goal.loop-item-init
loop-item-init c =
    let all = reading.items_of (edn.forms (forms_of (members c.args.items.now))) in
    (ap (λ xs. reading.both (Some (pattern_of xs)) all) c.new-list.ensures.items ∙ both-first all, refl)

pub returns-in-Err : goal.returns-in-Err
returns-in-Err c =
    let es = members c.args.items.now in
    let all = reading.items_of (edn.forms (forms_of es)) in
    let answer = reading.pattern_in (edn.vector (edn.forms (forms_of es))) in
    let f = c.f-item.result in
    let i = c.loop-item.item in
    subst (λ stop. ReadsPattern answer (Err stop)) (sym c.at.ensures)
    (refused_at i c.in-Err.stop (reading.item_of (form_of f)) answer c.in-Err.ensures.refused
    (λ none. no_pattern es i (not_empty (length es) c.if-is_empty.ensures)
    (read_none es i f (pattern_of c.loop-item.list.items) no_items all (c.loop-item.invariant.0 ∙ sym (both-first all))
    (search rules) (search rules) none)
    (bad_here es i f c.loop-item.invariant.1 (search rules) (search rules) none)))

pub loop-item-preserved : goal.loop-item-preserved
loop-item-preserved c =
    let es = members c.args.items.now in
    let all = reading.items_of (edn.forms (forms_of es)) in
    let f = c.f-item.result in
    let i = c.loop-item.item in
    let list = pattern_of c.loop-item.list.items in
    let new = pattern_of c.add_item.new.list.items in (
      read_more es i f (Some list) (Some new) all c.loop-item.invariant.0 (search rules) (search rules) (search rules),
      bad_more es i f list new c.loop-item.invariant.1 (search rules) (search rules) (search rules),
    )

pub returns : goal.returns
returns c =
    let es = members c.args.items.now in
    let all = reading.items_of (edn.forms (forms_of es)) in
    let list = pattern_of c.loop-item.list.items in
    a_pattern es list (not_empty (length es) c.if-is_empty.ensures)
    (read_all es c.loop-item.item (Some list) all c.loop-item.invariant.0 (search rules))
    ∙ search rules
