use Rattle.std.proofs.Common.{◌≡◌, ◌-◌, ◌∙◌, ◌∷◌, length, drop, true, ap, sym, subst, arith, length-drop}
use Rattle.fb_values.specs.declared.facts.Datom.{Datom}
use Rattle.tx_after.specs.Places.{entities_rise}
use Rattle.tx_after.specs.Promises as promises
use Rattle.tx_after.proofs.Drops.{drop_before}
use Rattle.tx_after.proofs.Promising.{single, not_entities, first_two, next_decides, rise_drop}
use Rattle.tx_after.proofs.promises.are_of_other_entities.Goals as goal

pub loop-i-init : goal.loop-i-init
loop-i-init c = record {
  in_range = omega arith;
  apart =
      single (drop (length c.args.facts.now - 1) c.args.facts.now)
      (omega (arith, length-drop (length c.args.facts.now - 1) c.args.facts.now));
}

pub returns-then-facts-i : goal.returns-then-facts-i
returns-then-facts-i c =
    let i = c.loop-i.i in
    let facts = c.args.facts.now in
    let x = c.index-facts-i in
    let y = c.index-facts-i-in-loop-i in
    let before = drop_before facts (i - 1) x.result (omega arith) (omega (arith, c.loop-i.invariant.in_range)) x.is in
    let next = drop_before facts i y.result (omega arith) c.loop-i.invariant.in_range y.is in
    let same = ap (λ (d : Datom). d.e) x.is ∙ c.if-facts-i.true ∙ sym (ap (λ (d : Datom). d.e) y.is) in
    not_entities (i - 1 - 1) facts
    (ap promises.are_of_other_entities (before ∙ ap (λ l. x.result ∷ l) next) ∙ first_two x.result y.result (drop i facts) same)

pub loop-i-preserved : goal.loop-i-preserved
loop-i-preserved c =
    let i = c.loop-i.i in
    let facts = c.args.facts.now in
    let x = c.index-facts-i in
    let y = c.index-facts-i-in-loop-i in
    let before = drop_before facts (i - 1) x.result (omega arith) (omega (arith, c.loop-i.invariant.in_range)) x.is in
    let next = drop_before facts i y.result (omega arith) c.loop-i.invariant.in_range y.is in
    let both = before ∙ ap (λ l. x.result ∷ l) next in
    let apart =
    λ (same : x.result.e ≡ y.result.e). c.if-facts-i.false (sym (ap (λ (d : Datom). d.e) x.is) ∙ same ∙ ap (λ (d : Datom). d.e) y.is) in
    record {
      in_range = omega (arith, c.loop-i.invariant.in_range);
      apart =
          ap promises.are_of_other_entities both
          ∙ next_decides x.result y.result (drop i facts)
          (subst (λ l. entities_rise l ≡ true) both (rise_drop (i - 1 - 1) facts c.requires)) apart
          (ap promises.are_of_other_entities (sym next) ∙ c.loop-i.invariant.apart);
    }
