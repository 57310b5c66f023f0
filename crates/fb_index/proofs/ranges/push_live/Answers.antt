use Rattle.std.proofs.Common.{◌∙◌, ◌++◌, ◌∷◌, [], ap, sym, append_assoc}
use Rattle.std.specs.List.{take_while}
use Rattle.fb_values.specs.Lists.{list_in}
use Rattle.fb_index.specs.Ranges.{is_led}
use Rattle.fb_index.proofs.Merging.{run_from, run_step}
use Rattle.fb_index.proofs.ranges.push_live.Goals as goal

pub loop-d-init : goal.loop-d-init
loop-d-init c =
    let p = c.args.probe.now in
    ap (λ l. c.args.found.now.items ++ l)
    (ap (take_while (is_led p)) c.said_walk-walk.ensures.walk
    ∙ run_from p (list_in c.args.live.now p.order) c.said_walk-walk.ensures.rising)

pub loop-d-preserved : goal.loop-d-preserved
loop-d-preserved c =
    let p = c.args.probe.now in
    rw (c.in_ok-push.ensures.items, c.in_ok-copy.ensures)
    (append_assoc c.loop-d.found.items (c.in-Some.d.now ∷ []) _
    ∙ ap (λ l. c.loop-d.found.items ++ l) (sym (run_step p c.in-Some.d.now c.next.new.self (sym c.is_led.ensures ∙ c.if-not-is_led.false)))
    ∙ ap (λ l. c.loop-d.found.items ++ take_while (is_led p) l) (sym c.in-Some.ensures)
    ∙ c.loop-d.invariant)
