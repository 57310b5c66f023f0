-- What a sweep of the datoms in the law's order says of each group.
use Rattle.std.proofs.Common.{◌≡◌, ◌∙◌, true, sym, ap, subst, rules}
use Rattle.std.proofs.lemmas.Fn.{always_returns_same}
use Rattle.log_sweep.specs.Groups.{lent, keeps_in}
use Rattle.log_sweep.specs.Sweeps.{keeps_swept}
use Rattle.log_sweep.proofs.Sorted.{below, below-weak, sorted-in_turn, stable-groups, swept-groups}
use Rattle.log_sweep.proofs.sweep.keeps.Goals as goal

pub returns-clause-stable : goal.returns-clause-stable
returns-clause-stable c =
    stable-groups c.args.law _ _
    (c.sort_by.ensures.stable (below c.args.law) (below-weak c.args.law) (always_returns_same _ _ _ (λ a r f' called. search rules)))

pub returns-in_err-sort_by-clause-stable : goal.returns-in_err-sort_by-clause-stable
returns-in_err-sort_by-clause-stable c =
    stable-groups c.args.law _ _
    (c.sort_by.ensures.stable (below c.args.law) (below-weak c.args.law) (always_returns_same _ _ _ (λ a r f' called. search rules)))

pub returns-clause-kept : goal.returns-clause-kept
returns-clause-kept c = λ keeps d asks.
    let law = c.args.law in
    let schema = c.args.schema.now in
    let new = c.sort_by.new.self.items in
    let stable =
    stable-groups law _ new
    (c.sort_by.ensures.stable (below law) (below-weak law) (always_returns_same _ _ _ (λ a r f' called. search rules))) in
    let sorted =
    sorted-in_turn law new
    (c.in_ok-sort_by.ensures.sorted (below law) (below-weak law) (always_returns_same _ _ _ (λ a r f' called. search rules))) in
    let swept : keeps_swept law schema 0 (lent new) ≡ true =
    sym (c.keeps_swept.ensures ∙ ap (λ l. keeps_swept law schema 0 (lent l)) c.deref.ensures.value) ∙ keeps in
    subst (λ l. keeps_in law schema 0 l ≡ true) (stable d) (swept-groups law schema (lent new) sorted swept d)
