use Rattle.std.proofs.Common.{◌&&◌, not, ap, sym, ◌∙◌}
use Rattle.std.specs.List.{list_any}
use Rattle.std.specs.Prelude.{nat_eq}
use Rattle.fb_values.specs.declared.facts.Datom.{Datom}
use Rattle.fb_model.specs.Facts.{value_eq}
use Rattle.tx_laws.proofs.Placing.{HasContents-cons}
use Rattle.tx_laws.proofs.values.meet_content.Goals as goal

pub returns-clause-first : goal.returns-clause-first
returns-clause-first c = λ test ds counts has.
    (rw c.in_ok-copy.ensures at c.in_ok-insert.ensures.added) ∙ ap not (has c.args.d.now.a c.args.d.now.v)
    ∙ ap (λ b. not (b && list_any (λ (other : Datom). test other && (nat_eq other.a c.args.d.now.a && value_eq other.v c.args.d.now.v)) ds))
    (sym c.if-not-counts.false)

pub returns-clause-met : goal.returns-clause-met
returns-clause-met c = λ test ds counts has.
    HasContents-cons c.args.met.now c.insert.new.self test c.args.d.now ds (counts ∙ c.if-not-counts.false)
    (rw c.in_ok-copy.ensures at c.in_ok-insert.ensures.updates) has
