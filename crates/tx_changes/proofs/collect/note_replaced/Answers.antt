use Rattle.std.proofs.Common.{ap, sym, ◌∙◌, nat_lt}
use Rattle.fb_numbers.specs.Numbers.{user_number}
use Rattle.tx_changes.proofs.NewEntities.{new_replaces_nothing}
use Rattle.tx_changes.proofs.collect.note_replaced.Goals as goal

pub returns-then-is_new-clause-noted : goal.returns-then-is_new-clause-noted
returns-then-is_new-clause-noted g c =
    let new = ap (λ n. nat_lt n (user_number c.args.addition.now.e)) (sym c.requires.issued) ∙ sym c.is_new.ensures ∙ c.if-is_new.true in
    new_replaces_nothing c.the_lists_are_the_rising_ones.ensures
    (g.F.Facts.history c.args.facts.now) c.args.schema.now c.args.addition.now c.new_users_have_no_facts.ensures.no_datom
    new c.args.notes.now.noted.items
