use Rattle.std.proofs.Common.{◌≡◌, ◌∙◌, map, ap, arith, rules}
use Rattle.std.specs.List.{range_with_len}
use Rattle.fb_run.specs.Loading.{supply, room}
use Rattle.fb_run.proofs.Loads.{one_more}
use Rattle.fb_run.proofs.loading.sessions_of.Goals as goal

pub loop-number-init : goal.loop-number-init
loop-number-init c =
    (ap (map (λ s. s.source)) c.new-sessions.ensures.items, ap (map (λ s. s.sink)) c.new-sessions.ensures.items)

pub loop-number-preserved : goal.loop-number-preserved
loop-number-preserved c =
    let inv = c.loop-number.invariant in
    let made = c.in_ok-numbered.ensures in (
      one_more (λ s. s.source) (supply c.args.count) c.loop-number.number _ _ _ c.in_ok-push.ensures.items made.source inv.0,
      one_more (λ s. s.sink) room c.loop-number.number _ _ _ c.in_ok-push.ensures.items made.sink inv.1,
    )

pub returns : goal.returns
returns c =
    let all : c.loop-number.number ≡ 5 = first_of (search rules, omega arith, grind arith) in
    record {
      sources = c.loop-number.invariant.0 ∙ ap (λ n. map (supply c.args.count) (range_with_len 0 n)) all;
      sinks = c.loop-number.invariant.1 ∙ ap (λ n. map room (range_with_len 0 n)) all;
    }
