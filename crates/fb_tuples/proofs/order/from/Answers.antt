-- An open start leaves all rows, and a part of a rising list rises.
use Rattle.std.proofs.Common.{map, take, drop, ap, sym, ◌∙◌, Some, None}
use Rattle.std.proofs.Math.Seq.{take-length}
use Rattle.std.proofs.lemmas.List.{length-drop}
use Rattle.tuple_model.specs.Tuples.{rows_rise, is_in_range}
use Rattle.tuple_model.proofs.Rows.{filter-rises}
use Rattle.fb_tuples.proofs.BelowBounds.{all_in_range}
use Rattle.fb_tuples.proofs.order.from.Goals as goal

pub returns-in-Some-clause-rising : goal.returns-in-Some-clause-rising
returns-in-Some-clause-rising g c =
    let n = c.count_below.result in
    let rest = drop n c.args.rows.now in
    ap (λ rows. rows_rise (map g.R.Bounded.stands_for rows))
    (ap (λ k. take k rest) (sym (length-drop n c.args.rows.now)) ∙ take-length rest)
    ∙ ap rows_rise c.count_below.ensures.behind
    ∙ filter-rises (is_in_range (Some c.in-Some.bound.now) None) (map g.R.Bounded.stands_for c.args.rows.now) c.requires

pub returns-in-None-clause-rows : goal.returns-in-None-clause-rows
returns-in-None-clause-rows g c = rw c.in-None.is (all_in_range (map g.R.Bounded.stands_for c.args.rows.now))
