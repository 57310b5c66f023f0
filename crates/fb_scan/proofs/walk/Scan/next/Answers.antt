use Rattle.std.proofs.Common.{◌∙◌, sym, arith}
use Rattle.std.proofs.lemmas.Bool.{true≢false}
use Rattle.std.specs.Option.{option_copied}
use Rattle.fb_scan.proofs.Stepping.{shorter, none_left, all_beyond, found_one, passed_one}
use Rattle.fb_scan.proofs.walk.Scan.next.Goals as goal

pub returns-then-is_past-clause-next : goal.returns-then-is_past-clause-next
returns-then-is_past-clause-next g c = λ db from end found has.
    all_beyond db (λ v. g.S.Selector.selects v.filter) from end c.loop-datom.self found
    (c.loop-datom.invariant.goes db from end found has) c.in-Some.datom.now c.next.new.self c.in-Some.ensures
    (sym c.is_past.ensures ∙ c.if-is_past.true)

pub returns-then-sees-clause-next : goal.returns-then-sees-clause-next
returns-then-sees-clause-next g c = λ db from end found has.
    found_one db (λ v. g.S.Selector.selects v.filter) from end c.loop-datom.self found
    (c.loop-datom.invariant.goes db from end found has) c.in-Some.datom.now c.next.new.self c.in-Some.ensures
    c.holds-held.result (option_copied c.following-next.result)
    (c.holds-held.ensures (c.loop-datom.invariant.goes db from end found has).knows)
    c.following-next.ensures (sym c.is_past.ensures ∙ c.if-is_past.false) (c.sees.ensures.0 c.if-sees.true)

pub returns-then-sees-clause-less : goal.returns-then-sees-clause-less
returns-then-sees-clause-less g c =
    let one = shorter c.loop-datom.self.walk c.next.new.self c.in-Some.datom.now c.in-Some.ensures in
    omega (arith, one, c.loop-datom.invariant.less)

pub loop-datom-smaller : goal.loop-datom-smaller
loop-datom-smaller g c = shorter c.loop-datom.self.walk c.next.new.self c.in-Some.datom.now c.in-Some.ensures

pub loop-datom-preserved : goal.loop-datom-preserved
loop-datom-preserved g c =
    let one = shorter c.loop-datom.self.walk c.next.new.self c.in-Some.datom.now c.in-Some.ensures in
    record {
      goes = λ db from end found has.
          passed_one db (λ v. g.S.Selector.selects v.filter) from end c.loop-datom.self found
          (c.loop-datom.invariant.goes db from end found has) c.in-Some.datom.now c.next.new.self c.in-Some.ensures
          c.holds-held.result (option_copied c.following-next.result)
          (c.holds-held.ensures (c.loop-datom.invariant.goes db from end found has).knows)
          c.following-next.ensures (λ tested. true≢false (sym (c.sees.ensures.1 tested) ∙ c.if-sees.false));
      less = omega (arith, one, c.loop-datom.invariant.less);
    }

pub returns-clause-next : goal.returns-clause-next
returns-clause-next g c = λ db from end found has.
    none_left db (λ v. g.S.Selector.selects v.filter) from end c.loop-datom.self found
    (c.loop-datom.invariant.goes db from end found has) c.in_default.ensures.0
