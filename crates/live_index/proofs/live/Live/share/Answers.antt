use Rattle.std.proofs.Common.{◌≡◌, ◌∙◌, List, sym, ap, subst, Option}
use Rattle.std.proofs.lemmas.List.{append-nil}
use Rattle.fb_values.specs.declared.facts.Datom.{Datom}
use Rattle.live_index.specs.declared.orders.Orders.{Orders}
use Rattle.live_index.specs.Halves.{both_lists}
use Rattle.live_index.specs.Lists.{AreIndex, lists_if, lists_of}
use Rattle.live_index.proofs.live.Live.share.Goals as goal

pub invariant_of-result : goal.invariant_of-result
invariant_of-result c =
    let same : c.in_ok-with_all.field-0 ≡ c.self.inside.table = c.in_ok-with_all.ensures ∙ append-nil c.self.inside.table in
    subst (λ (p : Option Orders). AreIndex c.in_ok-with_all.field-0 c.in_ok-copy.field-0 p c.self.inside.last) (sym c.in_ok-share.ensures)
    (subst (λ (h : Orders). AreIndex c.in_ok-with_all.field-0 h c.self.inside.past c.self.inside.last) (sym c.in_ok-copy.ensures)
    (subst (λ (t : List Datom). AreIndex t c.self.inside.holding c.self.inside.past c.self.inside.last) (sym same) c.self.invariant))

pub returns : goal.returns
returns c =
    let same : c.in_ok-with_all.field-0 ≡ c.self.inside.table = c.in_ok-with_all.ensures ∙ append-nil c.self.inside.table in
    ap (λ (p : Option Orders). both_lists (lists_of c.in_ok-with_all.field-0 c.in_ok-copy.field-0) (lists_if c.in_ok-with_all.field-0 p))
    c.in_ok-share.ensures
    ∙ ap (λ (h : Orders). both_lists (lists_of c.in_ok-with_all.field-0 h) (lists_if c.in_ok-with_all.field-0 c.self.inside.past))
    c.in_ok-copy.ensures
    ∙ ap (λ (t : List Datom). both_lists (lists_of t c.self.inside.holding) (lists_if t c.self.inside.past)) same
    ∙ c.self.view_is
