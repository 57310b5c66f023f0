use Rattle.std.proofs.Common.{◌∙◌, sym}
use Rattle.fb_index.proofs.Walking.{older_pair, older_step, live_pair, live_step}
use Rattle.fb_index.proofs.walk.Walk.next.Goals as goal

pub invariant_of-self : goal.invariant_of-self
invariant_of-self c =
    let w = c.self.inside in
    let i = c.self.invariant in (
      i.0,
      i.1,
      older_pair w.sides.order w.older w.live _ _ c.args.self.now i.2 c.self.view_is (sym c.is_first.ensures ∙ c.if-is_first.true)
          c.next_older.result.0 _ c.next_older.ensures,
      i.3,
    )

pub invariant_of-self-else-is_first : goal.invariant_of-self-else-is_first
invariant_of-self-else-is_first c =
    let w = c.self.inside in
    let i = c.self.invariant in (
      i.0,
      i.1,
      live_pair w.sides.order w.older w.live _ _ c.args.self.now i.2 c.self.view_is
          (sym c.is_first.ensures ∙ c.if-is_first.false) c.in_ok-first.first c.in_ok-first.was c.next_live-self-inside.result _
          c.next_live-self-inside.ensures.first,
      c.next_live-self-inside.ensures.rising w.sides.order i.3,
    )

pub returns-then-is_first : goal.returns-then-is_first
returns-then-is_first c =
    let w = c.self.inside in
    older_step w.sides.order w.older w.live _ _ c.args.self.now c.self.invariant.2 c.self.view_is
    (sym c.is_first.ensures ∙ c.if-is_first.true) c.next_older.result.0 _ c.next_older.ensures

pub returns-in_ok-first : goal.returns-in_ok-first
returns-in_ok-first c =
    let w = c.self.inside in
    live_step w.sides.order w.older w.live _ _ c.args.self.now c.self.invariant.2 c.self.view_is
    (sym c.is_first.ensures ∙ c.if-is_first.false) c.in_ok-first.first c.in_ok-first.was c.next_live-self-inside.result _
    c.next_live-self-inside.ensures.first
