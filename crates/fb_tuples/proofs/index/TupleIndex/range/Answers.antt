-- The rows stand for themselves.
use Rattle.std.proofs.Common.{◌∙◌, sym, ap, option_map}
use Rattle.tuple_model.specs.Tuples.{rows_rise, range}
use Rattle.fb_tuples.specs.Indexed.{Indexed}
use Rattle.fb_tuples.proofs.Sorted.{map_same}
use Rattle.fb_tuples.proofs.index.TupleIndex.range.Goals as goal

pub part-requires : goal.part-requires
part-requires c = ap rows_rise (map_same c.deref.result.now ∙ c.deref.ensures.value) ∙ c.self.invariant

pub returns : goal.returns
returns c =
    sym (map_same c.part.result.now) ∙ c.part.ensures
    ∙ ap (range (option_map (λ b. b.now) c.args.start) (option_map (λ b. b.now) c.args.end))
    (map_same c.deref.result.now ∙ c.deref.ensures.value ∙ ap (λ (i : Indexed). i.rows) c.self.view_is)
