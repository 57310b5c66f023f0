use Rattle.std.proofs.Common.{◌∙◌, sym, ap, subst}
use Rattle.std.specs.Option.{option_copied}
use Rattle.fb_values.specs.Rising.{IsRising}
use Rattle.fb_index.specs.Ranges.{within}
use Rattle.fb_index.proofs.Walking.{hand_is, rises_to, live_part_rises, start_pair, start_is}
use Rattle.fb_index.proofs.sides.Sides.walk.Goals as goal

pub next_live-live-requires : goal.next_live-live-requires
next_live-live-requires c =
    let s = c.args.self.now in
    rises_to (option_copied c.args.end) s.order c.live_walk-rest.result c.requires.end_order
    (subst (IsRising s.order) (sym c.live_walk-rest.ensures)
    (live_part_rises s.extent s.order s.tree.now s.live.now c.requires.beside c.args.from.now c.requires.order))

pub invariant_of-result : goal.invariant_of-result
invariant_of-result c =
    let s = c.args.self.now in
    let rises = live_part_rises s.extent s.order s.tree.now s.live.now c.requires.beside c.args.from.now c.requires.order in
    let older = hand_is c.next_older.result.0 _ _ c.next_older.ensures in
    let live = hand_is c.next_live-live.result _ _ c.next_live-live.ensures.first
    ∙ ap (within (option_copied c.args.end)) c.live_walk-rest.ensures in (
      c.requires.beside,
      c.requires.end_order,
      start_pair s.extent s.order s.tree.now s.live.now c.requires.beside c.args.from.now c.requires.order (option_copied c.args.end)
          c.place.result c.place.ensures _ _ older live,
      c.next_live-live.ensures.rising s.order (subst (IsRising s.order) (sym c.live_walk-rest.ensures) rises),
    )

pub returns : goal.returns
returns c =
    let s = c.args.self.now in
    let older = hand_is c.next_older.result.0 _ _ c.next_older.ensures in
    let live = hand_is c.next_live-live.result _ _ c.next_live-live.ensures.first
    ∙ ap (within (option_copied c.args.end)) c.live_walk-rest.ensures in
    start_is s.extent s.order s.tree.now s.live.now c.requires.beside c.args.from.now c.requires.order (option_copied c.args.end)
    c.place.result c.place.ensures _ _ older live
