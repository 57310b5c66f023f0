use Rattle.std.proofs.Common.{◌∙◌, sym}
use Rattle.fb_index.proofs.Walking.{older_first, live_first}
use Rattle.fb_index.proofs.walk.Walk.peek.Goals as goal

pub returns-then-is_first : goal.returns-then-is_first
returns-then-is_first c =
    let w = c.self.inside in
    older_first w.sides.order w.older w.live _ _ c.args.self.now c.self.invariant.2 c.self.view_is
    (sym c.is_first.ensures ∙ c.if-is_first.true)

pub returns-else-is_first : goal.returns-else-is_first
returns-else-is_first c =
    let w = c.self.inside in
    live_first w.sides.order w.older w.live _ _ c.args.self.now c.self.invariant.2 c.self.view_is
    (sym c.is_first.ensures ∙ c.if-is_first.false)
