use Rattle.std.proofs.Common.{◌≡◌, ◌∙◌, ◌+◌, ◌<◌, ◌++◌, ◌∷◌, [], cond, not, length, drop, get_or, sym, ap, subst, List, arith}
use Rattle.std.specs.List.{All, slice_get}
use Rattle.std.proofs.lemmas.List.{append-nil, drop_all}
use Rattle.std.proofs.lemmas.List.Elements.{All-nil}
use Rattle.fb_values.specs.declared.facts.Datom.{Datom}
use Rattle.fb_values.specs.declared.indexes.Order.{Order}
use Rattle.fb_values.specs.Rising.{IsRising}
use Rattle.fb_model.specs.Facts.{standing}
use Rattle.live_runs.specs.declared.members.Member.{Member}
use Rattle.live_runs.specs.Members.{IsMember, named, nothing}
use Rattle.live_index.specs.Halves.{withdrawn}
use Rattle.live_index.specs.Ranks.{AreInOrder, IsRanked, datoms_of}
use Rattle.live_index.specs.Splits.{stands_at}
use Rattle.live_index.proofs.Halves.{rising-withdrawn}
use Rattle.live_index.proofs.Ranking.{all_if, are_members, length_datoms, named_cond, ranked_read, read_at}
use Rattle.live_index.proofs.Sorting.{standing-step, withdrawn-step, pushed_if, left_if}
use Rattle.live_index.proofs.Together.{rising-standing}
use Rattle.live_index.proofs.splitting.part.Goals as goal

pub loop-place-init : goal.loop-place-init
loop-place-init c =
    let ds = datoms_of c.args.rising.now in
    record {
      holding = λ order table are. subst (All (IsMember order table)) (sym c.in_ok-holding.ensures.items) (All-nil (IsMember order table));
      past = λ order table are. subst (All (IsMember order table)) (sym c.new-past.ensures.items) (All-nil (IsMember order table));
      stands = λ order table are. ap (λ (ms : List Member). named table ms ++ standing ds) c.in_ok-holding.ensures.items;
      falls = λ order table are. ap (λ (ms : List Member). named table ms ++ withdrawn ds) c.new-past.ensures.items;
    }

pub loop-place-preserved : goal.loop-place-preserved
loop-place-preserved c =
    let rs = c.args.rising.now in
    let ds = datoms_of rs in
    let i = c.loop-place.place in
    let inside : i < length rs = c.loop-place-test.true in
    let within : i < length (datoms_of rs) = omega (arith, inside, length_datoms rs) in
    let b = c.stands-stands.result in
    let here = stands_at (get_or ds i nothing) (slice_get ds (i + 1)) in
    let r = c.at-ranked.result in
    let x = r.datom.now in
    let one : (order : Order) (table : List Datom) → AreInOrder order table rs → IsRanked order table r =
    λ order table are. ranked_read order table rs i r are.ranked c.at-ranked.ensures inside in
    let x_is : x ≡ get_or ds i nothing = sym (read_at rs i r nothing c.at-ranked.ensures inside) in
    let stood = standing (drop (i + 1) ds) in
    let gone = withdrawn (drop (i + 1) ds) in
    let all = c.loop-place.holding.items in
    let new = c.in_ok-holding-2.holding.items in
    let all_past = c.loop-place.past.items in
    let new_past = c.in_ok-past.past.items in
    let split : (order : Order) → IsRising order ds → cond b (x ∷ stood) stood ≡ standing (drop i ds) =
    λ order rises.
    ap (λ q. cond q (x ∷ stood) stood) c.stands-stands.ensures
    ∙ ap (λ (z : Datom). cond here (z ∷ stood) stood) x_is
    ∙ sym (standing-step order ds i nothing rises within) in
    let split_gone : (order : Order) → IsRising order ds → cond b gone (x ∷ gone) ≡ withdrawn (drop i ds) =
    λ order rises.
    ap (λ q. cond q gone (x ∷ gone)) c.stands-stands.ensures
    ∙ ap (λ (z : Datom). cond here gone (z ∷ gone)) x_is
    ∙ sym (withdrawn-step order ds i nothing rises within) in
    record {
      holding = λ order table are.
          all_if (IsMember order table) all new r.member b c.in_ok-holding-2.ensures (c.loop-place.invariant.holding order table are)
          (one order table are).member;
      past = λ order table are.
          all_if (IsMember order table) all_past new_past r.member (not b) c.in_ok-past.ensures (c.loop-place.invariant.past order table are)
          (one order table are).member;
      stands = λ order table are.
          pushed_if (named table all) stood (standing ds) x b (named table new)
          (named_cond table all new r.member x b c.in_ok-holding-2.ensures (one order table are).datom_is)
          (ap (λ (l : List Datom). named table all ++ l) (split order are.rising) ∙ c.loop-place.invariant.stands order table are);
      falls = λ order table are.
          left_if (named table all_past) gone (withdrawn ds) x b (named table new_past)
          (named_cond table all_past new_past r.member x (not b) c.in_ok-past.ensures (one order table are).datom_is)
          (ap (λ (l : List Datom). named table all_past ++ l) (split_gone order are.rising) ∙ c.loop-place.invariant.falls order table are);
    }

pub returns : goal.returns
returns c = λ order table are.
    let ds = datoms_of c.args.rising.now in
    let held = c.loop-place.holding.items in
    let gone = c.loop-place.past.items in
    let past : drop c.loop-place.place ds ≡ [] =
    drop_all c.loop-place.place ds (omega (arith, c.loop-place-test.false, length_datoms c.args.rising.now)) in
    let stands : named table held ≡ standing ds =
    sym (append-nil (named table held)) ∙ ap (λ (l : List Datom). named table held ++ standing l) (sym past)
    ∙ c.loop-place.invariant.stands order table are in
    let falls : named table gone ≡ withdrawn ds =
    sym (append-nil (named table gone)) ∙ ap (λ (l : List Datom). named table gone ++ withdrawn l) (sym past)
    ∙ c.loop-place.invariant.falls order table are in
    record {
      holding = are_members order table held (standing ds) (rising-standing order ds are.rising) stands (c.loop-place.invariant.holding order table are);
      past = are_members order table gone (withdrawn ds) (rising-withdrawn order ds are.rising) falls (c.loop-place.invariant.past order table are);
      stands = stands;
      falls = falls;
    }
