use Rattle.std.proofs.Common.{◌≡◌, ◌∙◌, ◌+◌, ◌++◌, ◌∷◌, [], ap, arith, sym, append_assoc, append-nil}
use Rattle.std.specs.Option.{option_copied}
use Rattle.seg_tree.specs.Nodes.{tree_datoms}
use Rattle.seg_tree.specs.Ranks.{rank}
use Rattle.fb_index.proofs.Ranging.{led_from_place, led_ends, led_past, led_step, read_at}
use Rattle.fb_index.proofs.ranges.push_older.Goals as goal

pub loop-d-init : goal.loop-d-init
loop-d-init c = record {
  from = omega (arith, c.place-place.ensures);
  rest = rw c.place-place.ensures (ap (λ l. c.args.found.now.items ++ l) (led_from_place c.args.probe.now (tree_datoms c.args.tree.now)));
}

pub returns-then-not-is_led : goal.returns-then-not-is_led
returns-then-not-is_led c =
    sym (append-nil c.loop-d.found.items)
    ∙ ap (λ l. c.loop-d.found.items ++ l) (sym
    (led_ends c.args.probe.now (tree_datoms c.args.tree.now) (rank c.args.tree.now c.loop-d.place) c.in-Some.d.now c.requires
    c.loop-d.invariant.from (sym c.at.ensures ∙ ap option_copied c.in-Some.is) (sym c.is_led.ensures ∙ c.if-not-is_led.true)))
    ∙ c.loop-d.invariant.rest

pub loop-d-smaller : goal.loop-d-smaller
loop-d-smaller c =
    let within = (read_at (tree_datoms c.args.tree.now) (rank c.args.tree.now c.loop-d.place) c.in-Some.d.now
    (sym c.at.ensures ∙ ap option_copied c.in-Some.is)).0 in
    omega (arith, within, c.next-place.ensures)

pub loop-d-preserved : goal.loop-d-preserved
loop-d-preserved c =
    let read = sym c.at.ensures ∙ ap option_copied c.in-Some.is in
    let within = (read_at (tree_datoms c.args.tree.now) (rank c.args.tree.now c.loop-d.place) c.in-Some.d.now read).0 in
    let behind : rank c.args.tree.now c.next-place.result ≡ rank c.args.tree.now c.loop-d.place + 1 = omega
    (arith, within, c.next-place.ensures) in
    record {
      from = omega (arith, c.loop-d.invariant.from, behind);
      rest =
          rw (c.in_ok-push.ensures.items, c.in_ok-copy.ensures, behind)
          (append_assoc c.loop-d.found.items (c.in-Some.d.now ∷ []) _
          ∙ ap (λ l. c.loop-d.found.items ++ l) (sym
          (led_step c.args.probe.now (tree_datoms c.args.tree.now) (rank c.args.tree.now c.loop-d.place) c.in-Some.d.now read
          (sym c.is_led.ensures ∙ c.if-not-is_led.false)))
          ∙ c.loop-d.invariant.rest);
    }

pub returns : goal.returns
returns c =
    sym (append-nil c.loop-d.found.items)
    ∙ ap (λ l. c.loop-d.found.items ++ l) (sym
    (led_past c.args.probe.now (tree_datoms c.args.tree.now) (rank c.args.tree.now c.loop-d.place)
    (sym c.at.ensures ∙ ap option_copied c.in_default.is)))
    ∙ c.loop-d.invariant.rest
