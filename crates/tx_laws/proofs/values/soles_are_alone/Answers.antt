use Rattle.std.proofs.Common.{◌-◌, ◌&&◌, ◌∙◌, List, not, drop, ap, sym, subst, arith}
use Rattle.std.specs.Prelude.{nat_eq}
use Rattle.std.specs.List.{list_any}
use Rattle.fb_values.specs.declared.facts.Datom.{Datom}
use Rattle.fb_model.specs.Facts.{value_eq}
use Rattle.std.proofs.lemmas.Bool.{and_from}
use Rattle.tx_laws.specs.Additions as additions
use Rattle.tx_laws.proofs.Drops.{drop_before}
use Rattle.tx_laws.proofs.Placing.{not_alone}
use Rattle.tx_laws.proofs.values.soles_are_alone.Goals as goal

pub returns-then-not-is_first : goal.returns-then-not-is_first
returns-then-not-is_first c =
    let i = c.loop-i.i in
    let ds = c.args.datoms.now in
    let d = c.index-datoms-i.result in
    let test = additions.is_sole c.args.schema.now c.args.altered.now in
    let rest = drop i ds in
    let first = drop_before ds i d (omega arith) c.loop-i.invariant.in_range c.index-datoms-i.is in
    let counts = sym c.is_sole-counts.ensures in
    let found = list_any (λ (other : Datom). test other && (nat_eq other.a d.a && value_eq other.v d.v)) rest in
    let met = sym (c.in_ok-is_first.ensures.first test rest counts c.loop-i.invariant.has) ∙ c.if-not-is_first.true in
    not_alone test (i - 1) ds
    (ap (additions.are_alone test) first
    ∙ ap (λ b. not (b && found) && additions.are_alone test rest) counts
    ∙ ap (λ b. b && additions.are_alone test rest) met)

pub loop-i-preserved : goal.loop-i-preserved
loop-i-preserved c =
    let i = c.loop-i.i in
    let ds = c.args.datoms.now in
    let d = c.index-datoms-i.result in
    let test = additions.is_sole c.args.schema.now c.args.altered.now in
    let rest = drop i ds in
    let first = drop_before ds i d (omega arith) c.loop-i.invariant.in_range c.index-datoms-i.is in
    let counts = sym c.is_sole-counts.ensures in
    let met = sym (c.in_ok-is_first.ensures.first test rest counts c.loop-i.invariant.has) ∙ c.if-not-is_first.false in
    let found = list_any (λ (other : Datom). test other && (nat_eq other.a d.a && value_eq other.v d.v)) rest in
    record {
      in_range = omega (arith, c.loop-i.invariant.in_range);
      apart = ap (additions.are_alone test) first ∙ and_from _ _ (ap (λ b. not (b && found)) counts ∙ met) c.loop-i.invariant.apart;
      has =
          subst (λ (l : List Datom). additions.HasContents c.meet_content.new.met test l) (sym first)
          (c.in_ok-is_first.ensures.met test rest counts c.loop-i.invariant.has);
    }
