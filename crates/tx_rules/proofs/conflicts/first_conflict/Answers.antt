use Rattle.std.proofs.Common.{ap, sym, ◌∙◌, None, arith}
use Rattle.std.specs.Prelude.{filter}
use Rattle.std.specs.Option.{option_copied}
use Rattle.tx_rules.specs.Places.{earlier}
use Rattle.tx_rules.specs.Conflicts.{is_addition, first_behind}
use Rattle.tx_rules.proofs.Pairs.{first_conflict-behind, one_behind, none_more, all_behind}
use Rattle.tx_rules.proofs.conflicts.first_conflict.Goals as goal
use Rattle.tx_rules.proofs.conflicts.first_conflict.Goals.{then-is_some, else-is_some}

pub loop-triple-preserved : goal.loop-triple-preserved
loop-triple-preserved c =
    let schema = c.args.schema.now in
    let triples = c.args.triples.now in
    let whole = first_behind schema None (filter is_addition triples) in
    elim c.if-is_some.branch [
      | then-is_some w ↦
          one_behind schema triples c.loop-triple.triple-index c.triple-item.result c.loop-triple-test.true c.triple-item.is
          c.loop-triple.first (option_copied c.loop-triple.last) whole c.loop-triple.invariant c.if-is_some.first
          (option_copied c.if-is_some.last) (sym c.is_some.ensures ∙ w.if-is_some.true)
          (w.first-is ∙ w.earlier-first.ensures ∙ ap (earlier c.loop-triple.first) w.conflict_at.ensures) (ap option_copied w.last-is)
      | else-is_some w ↦
          none_more schema triples c.loop-triple.triple-index c.triple-item.result c.loop-triple-test.true c.triple-item.is
          c.loop-triple.first (option_copied c.loop-triple.last) whole c.loop-triple.invariant c.if-is_some.first
          (option_copied c.if-is_some.last) (sym c.is_some.ensures ∙ w.if-is_some.false) w.first-is (ap option_copied w.last-is)
    ]

pub returns : goal.returns
returns c =
    let schema = c.args.schema.now in
    let triples = c.args.triples.now in
    all_behind schema triples c.loop-triple.triple-index c.loop-triple.first (option_copied c.loop-triple.last)
    (first_behind schema None (filter is_addition triples)) (omega (arith, c.loop-triple-test.false)) c.loop-triple.invariant
    ∙ first_conflict-behind schema triples c.requires
