use Rattle.std.proofs.Common.{◌≡◌, ◌∙◌, sym, ap, subst}
use Rattle.fb_values.specs.Lists.{Lists, list_in}
use Rattle.fb_values.specs.Rising.{IsRising}
use Rattle.live_index.specs.Halves.{merged, withdrawn}
use Rattle.live_index.specs.Lists.{AreIf, lists_if, lists_of}
use Rattle.live_index.proofs.Halves.{both_at, merged_rises, past_is}
use Rattle.live_index.proofs.live.Live.past.Goals as goal

pub of-requires : goal.of-requires
of-requires c = subst (AreIf c.self.inside.table) (sym c.looked_at.ensures) c.self.invariant.past_are

pub returns-clause-withdrawn : goal.returns-clause-withdrawn
returns-clause-withdrawn c = λ order.
    let h = lists_of c.self.inside.table c.self.inside.holding in
    let p = lists_if c.self.inside.table c.self.inside.past in
    let all : merged order (list_in h order) (list_in p order) ≡ list_in c.args.self.now order =
    sym (both_at h p order) ∙ ap (λ (ls : Lists). list_in ls order) c.self.view_is in
    ap (λ (ls : Lists). list_in ls order) c.of.ensures
    ∙ ap (λ o. list_in (lists_if c.self.inside.table o) order) c.looked_at.ensures
    ∙ past_is order (list_in h order) (list_in p order) (c.self.invariant.halves order)
    ∙ ap withdrawn all

pub returns-clause-rising : goal.returns-clause-rising
returns-clause-rising c = λ order.
    let h = lists_of c.self.inside.table c.self.inside.holding in
    let p = lists_if c.self.inside.table c.self.inside.past in
    let all : merged order (list_in h order) (list_in p order) ≡ list_in c.args.self.now order =
    sym (both_at h p order) ∙ ap (λ (ls : Lists). list_in ls order) c.self.view_is in
    subst (IsRising order) all (merged_rises order (list_in h order) (list_in p order))
