use Rattle.std.proofs.Common.{sym, ◌∙◌, arith}
use Rattle.fb_recover.proofs.Laws.{lawful-followed}
use Rattle.fb_recover.proofs.judging.followed.Goals as goal

pub add-requires : goal.add-requires
add-requires c =
    let held = c.args.held in let lawful = c.requires.lawful in
    omega (arith, c.lawful_histories_are_small.ensures.t held lawful, c.lawful_histories_are_counted_by_t.ensures.counted held lawful)

pub overflow_add-t : goal.overflow_add-t
overflow_add-t c = omega (arith, c.lawful_histories_are_small.ensures.t c.args.held c.requires.lawful, c.basis-t.ensures)

pub returns-in-Some : goal.returns-in-Some
returns-in-Some c = (
  omega (arith, c.lawful_histories_are_counted_by_t.ensures.counted c.args.held c.requires.lawful, c.basis-t.ensures),
  sym c.in_ok-law.ensures ∙ c.in-Some.is,
)

pub returns : goal.returns
returns c =
    let keeps_all = c.the_least_law_is_none_where_all_are_kept.ensures c.args.held c.args.entry in
    let next = keeps_all.0 (sym c.in_ok-law.ensures ∙ c.in_default.is) in
    lawful-followed c.args.held c.in_ok-held.held c.args.entry c.in_ok-schema.schema
    (c.lawful_entries_make_lawful_histories.ensures.made c.args.held c.args.entry c.requires.lawful next)
    c.in_ok-held.ensures (c.in_ok-schema.ensures c.args.held c.requires.schema)
