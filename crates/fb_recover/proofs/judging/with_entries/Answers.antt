use Rattle.std.proofs.Common.{◌∷◌, length, ap, arith}
use Rattle.std.proofs.lemmas.Iterator.Adapters.{YieldsList-from_vec}
use Rattle.std.proofs.lemmas.Iterator.Consumers.{YieldsList-turn}
use Rattle.fb_values.specs.declared.facts.Entry.{Entry}
use Rattle.fb_model.specs.FirstEntry.{first_entry}
use Rattle.fb_recover.proofs.judging.with_entries.Goals as goal

pub with-requires : goal.with-requires
with-requires c =
    let entries = c.args.entries.items in
    let h = first_entry ∷ entries in
    let gives = c.into_iter-entry-iterator.ensures.into_iter_gives in
    let yields =
    YieldsList-from_vec {s = c.into_iter-entry-iterator.result} entries gives.0 (omega (arith, gives.1, c.args.entries.ok.0)) in
    let turn =
    YieldsList-turn yields c.loop-entry.yielded _ c.loop-entry.yielded_by c.next.result c.next.new.self c.in-Some.entry c.in-Some.is
    c.next.ensures.steps in
    omega (
      arith,
      turn.0,
      ap (length {A = Entry}) c.loop-entry.invariant,
      c.lawful_histories_are_counted_by_t.ensures.counted h c.requires,
      c.lawful_histories_are_small.ensures.t h c.requires,
    )
