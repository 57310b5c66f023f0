use Rattle.std.proofs.Common.{◌≡◌, ◌∙◌, sym, ap, subst}
use Rattle.fb_model.specs.Facts.{standing}
use Rattle.fb_values.specs.Lists.{Lists, list_in}
use Rattle.fb_values.specs.Rising.{IsRising}
use Rattle.live_index.specs.Halves.{merged}
use Rattle.live_index.specs.Lists.{lists_if, lists_of}
use Rattle.live_index.proofs.Halves.{both_at, merged_rises}
use Rattle.live_index.proofs.live.Live.holding.Goals as goal

pub of-requires : goal.of-requires
of-requires c = c.self.invariant.holding_are

pub returns-clause-stands : goal.returns-clause-stands
returns-clause-stands c = λ order.
    let h = lists_of c.self.inside.table c.self.inside.holding in
    let p = lists_if c.self.inside.table c.self.inside.past in
    ap (λ (ls : Lists). list_in ls order) c.of.ensures
    ∙ (c.self.invariant.halves order).stands
    ∙ ap standing (sym (both_at h p order) ∙ ap (λ (ls : Lists). list_in ls order) c.self.view_is)

pub returns-clause-rising : goal.returns-clause-rising
returns-clause-rising c = λ order.
    let h = lists_of c.self.inside.table c.self.inside.holding in
    let p = lists_if c.self.inside.table c.self.inside.past in
    let all : merged order (list_in h order) (list_in p order) ≡ list_in c.args.self.now order =
    sym (both_at h p order) ∙ ap (λ (ls : Lists). list_in ls order) c.self.view_is in
    subst (IsRising order) all (merged_rises order (list_in h order) (list_in p order))
