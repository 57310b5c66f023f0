-- Of the candidates those that pass the test are the rows of the range.
use Rattle.std.proofs.Common.{option_map, rules}
use Rattle.std.proofs.lemmas.Fn.{filter_same}
use Rattle.fb_db.specs.Seen.{window_of}
use Rattle.tuple_model.specs.Tuples.{is_in_range}
use Rattle.fb_tuples.specs.declared.rows.LentRow.{LentRow}
use Rattle.fb_tuples.specs.Lent.{model_row}
use Rattle.fb_tuples.proofs.LentOrder.{rows_sorted}
use Rattle.fb_tuples.proofs.Gathering.{in_range_sorted}
use Rattle.fb_tuples.proofs.ranges.ranged.Goals as goal

pub returns : goal.returns
returns g c =
    let db = c.args.db.now in
    let start = option_map (λ b. b.now) c.args.start in
    let end = option_map (λ b. b.now) c.args.end in
    let all = c.in_ok-rows.rows.items in
    in_range_sorted db.snapshot.entries (window_of db) (g.S.Selector.selects db.filter) c.args.attrs.now start end model_row
    all c.retain.new.self.items c.sort_unstable.new.self.items c.in_ok-rows.ensures
    (filter_same _ (λ (row : LentRow). is_in_range start end (model_row row)) _ (λ x b f' called. search rules) all c.retain.new.self.items
    c.retain.ensures.filtered)
    c.sort_unstable.ensures.permutation (rows_sorted c.sort_unstable.new.self.items c.sort_unstable.ensures.sorted)
