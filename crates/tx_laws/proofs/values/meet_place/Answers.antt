use Rattle.std.proofs.Common.{◌&&◌, not, ap, sym, ◌∙◌}
use Rattle.std.specs.List.{list_any}
use Rattle.std.specs.Prelude.{nat_eq}
use Rattle.fb_values.specs.declared.facts.Datom.{Datom}
use Rattle.tx_laws.proofs.Placing.{HasPlaces-cons}
use Rattle.tx_laws.proofs.values.meet_place.Goals as goal

pub returns-clause-first : goal.returns-clause-first
returns-clause-first c = λ test ds counts has.
    c.in_ok-insert.ensures.added ∙ ap not (has c.args.d.now.e c.args.d.now.a)
    ∙ ap (λ b. not (b && list_any (λ (other : Datom). test other && (nat_eq other.e c.args.d.now.e && nat_eq other.a c.args.d.now.a)) ds))
    (sym c.if-not-counts.false)

pub returns-clause-met : goal.returns-clause-met
returns-clause-met c =
    λ test ds counts has.
    HasPlaces-cons c.args.met.now c.insert.new.self test c.args.d.now ds (counts ∙ c.if-not-counts.false) c.in_ok-insert.ensures.updates has
