use Rattle.std.proofs.Common.{◌≡◌, ◌∙◌, ◌+◌, ◌<◌, ◌++◌, ◌∷◌, [], cond, not, length, drop, get_or, sym, ap, subst, List, arith}
use Rattle.std.specs.List.{slice_get}
use Rattle.std.proofs.lemmas.List.{append-nil, drop_all}
use Rattle.std.proofs.lemmas.List.Elements.{All-nil}
use Rattle.fb_values.specs.declared.facts.Datom.{Datom}
use Rattle.live_runs.specs.Members.{nothing}
use Rattle.live_index.specs.Growth.{is_twin}
use Rattle.live_index.specs.declared.ranked.Ranked.{Ranked}
use Rattle.live_index.specs.Ranks.{AreRanked, IsRanked, datoms_of}
use Rattle.live_index.specs.Splits.{once}
use Rattle.live_index.proofs.Ranking.{all_if, datoms_cond, length_datoms, ranked_read, read_at}
use Rattle.live_index.proofs.Sorting.{once-step, left_if}
use Rattle.live_index.proofs.splitting.each_once.Goals as goal

pub loop-place-init : goal.loop-place-init
loop-place-init c =
    record {
      ranked = λ table are. subst (AreRanked c.args.order table) (sym c.in_ok-all.ensures.items) (All-nil (IsRanked c.args.order table));
      datoms = ap (λ (l : List Ranked). datoms_of l ++ once c.args.order (datoms_of c.args.sorted.now)) c.in_ok-all.ensures.items;
    }

pub loop-place-preserved : goal.loop-place-preserved
loop-place-preserved c =
    let order = c.args.order in
    let rs = c.args.sorted.now in
    let ds = datoms_of rs in
    let i = c.loop-place.place in
    let inside : i < length rs = c.loop-place-test.true in
    let within : i < length (datoms_of rs) = omega (arith, inside, length_datoms rs) in
    let rest = once order (drop (i + 1) ds) in
    let r = c.at.result in
    let x = r.datom.now in
    let all = c.loop-place.all.items in
    let new = c.in_ok-all-2.all.items in
    let repeats = c.is_repeated-is_last.result in
    let twin = is_twin order (get_or ds i nothing) (slice_get ds (i + 1)) in
    let x_is : x ≡ get_or ds i nothing = sym (read_at rs i r nothing c.at.ensures inside) in
    let split : cond repeats rest (x ∷ rest) ≡ once order (drop i ds) =
    ap (λ q. cond q rest (x ∷ rest)) c.is_repeated-is_last.ensures
    ∙ ap (λ (z : Datom). cond twin rest (z ∷ rest)) x_is
    ∙ sym (once-step order ds i nothing within) in
    record {
      ranked = λ table are.
          all_if (IsRanked order table) all new r (not repeats) c.in_ok-all-2.ensures (c.loop-place.invariant.ranked table are)
          (ranked_read order table rs i r are c.at.ensures inside);
      datoms = left_if (datoms_of all) rest (once order ds) x repeats (datoms_of new) (datoms_cond all new r (not repeats) c.in_ok-all-2.ensures)
          (ap (λ (l : List Datom). datoms_of all ++ l) split ∙ c.loop-place.invariant.datoms);
    }

pub returns-clause-ranked : goal.returns-clause-ranked
returns-clause-ranked c = c.loop-place.invariant.ranked

pub returns-clause-datoms : goal.returns-clause-datoms
returns-clause-datoms c =
    let ds = datoms_of c.args.sorted.now in
    let past : drop c.loop-place.place ds ≡ [] =
    drop_all c.loop-place.place ds (omega (arith, c.loop-place-test.false, length_datoms c.args.sorted.now)) in
    sym (append-nil (datoms_of c.loop-place.all.items))
    ∙ ap (λ (l : List Datom). datoms_of c.loop-place.all.items ++ once c.args.order l) (sym past)
    ∙ c.loop-place.invariant.datoms
