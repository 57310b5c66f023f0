use Rattle.std.proofs.Common.{◌≡◌, ◌∙◌, ◌-◌, ◌<◌, ◌≤◌, ◌++◌, ◌∷◌, List, [], refl, drop, length, take, sym, ap, subst, arith}
use Rattle.std.specs.Prelude.{filter}
use Rattle.fb_values.specs.declared.facts.Datom.{Datom}
use Rattle.live_index.specs.Growth.{is_held}
use Rattle.live_index.specs.Ranks.{IsRanked, datoms_of}
use Rattle.live_index.proofs.Ranking.{all_if, datoms_if, held_more, ranked_at}
use Rattle.live_index.proofs.Spans.{next_number, number_within}
use Rattle.live_index.proofs.splitting.with_span.Goals as goal

append_none : (l : List Datom) → l ++ [] ≡ l
append_none [] = refl
append_none (x ∷ l) = ap (λ k. x ∷ k) (append_none l)

pub loop-number-init : goal.loop-number-init
loop-number-init c =
    let from = c.args.span.from in
    let none : 0 ≡ from - from = omega arith in
    record {
      ranked = c.requires.ranked;
      datoms =
          sym (append_none (datoms_of c.args.all.items))
          ∙ ap (λ n. datoms_of c.args.all.items ++ filter (is_held c.args.covers.now c.args.order) (take n (drop from c.args.table.now))) none;
    }

pub of-ranked-requires : goal.of-ranked-requires
of-ranked-requires c = omega (arith, c.loop-number-test.true, c.requires.span.within)

pub loop-number-preserved : goal.loop-number-preserved
loop-number-preserved c =
    let p = is_held c.args.covers.now c.args.order in
    let table = c.args.table.now in
    let from = c.args.span.from in
    let number = c.loop-number.number in
    let low : from ≤ number = c.loop-number.auto.number in
    let high : number < length table = omega (arith, c.loop-number-test.true, c.requires.span.within) in
    let r = c.of-ranked.result in
    let one : IsRanked c.args.order table r = c.of-ranked.ensures.ranked in
    let all = c.loop-number.all.items in
    let new = c.in_ok-all.all.items in
    record {
      ranked = all_if (IsRanked c.args.order table) all new r c.holds.result c.in_ok-all.ensures c.loop-number.invariant.ranked one;
      datoms =
          subst (λ n. datoms_of new ≡ datoms_of c.args.all.items ++ filter p (take n (drop from table))) (sym (next_number from number low))
          (held_more p (datoms_of c.args.all.items) (drop from table) (number - from) r.datom.now (datoms_of all) (datoms_of new)
          c.loop-number.invariant.datoms (number_within table from number low high)
          (ranked_at c.args.order table from number r one c.of-ranked.ensures.number low high)
          (datoms_if p all new r c.holds.result c.in_ok-all.ensures c.holds.ensures));
    }

pub returns : goal.returns
returns c =
    let p = is_held c.args.covers.now c.args.order in
    let table = c.args.table.now in
    let from = c.args.span.from in
    let n = c.loop-number.number in
    let upto : n ≤ c.args.span.to = c.loop-number.auto.number-end c.requires.span.rises in
    let at : n ≡ c.args.span.to = omega (arith, upto, c.loop-number-test.false) in
    record {
      ranked = c.loop-number.invariant.ranked;
      datoms =
          subst (λ k. datoms_of c.loop-number.all.items ≡ datoms_of c.args.all.items ++ filter p (take (k - from) (drop from table))) at
          c.loop-number.invariant.datoms;
    }
