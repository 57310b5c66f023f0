use Rattle.std.proofs.Common.{ℕ, sym, subst}
use Rattle.fb_roots.specs.Bases.{IsBaseOf}
use Rattle.merge_worker.proofs.Ahead.{ahead_of_longer}
use Rattle.merge_worker.proofs.working.round.Goals as goal

pub returns-in_err-begins-clause-base : goal.returns-in_err-begins-clause-base
returns-in_err-begins-clause-base g c =
    subst (λ (n : ℕ). IsBaseOf c.args.base.now c.begins.new.seat.last.entries n) (sym c.begins.ensures.covered)
    (c.begins.ensures.trees c.args.base.now _ c.requires.base)

pub returns-in_err-begins-clause-ahead : goal.returns-in_err-begins-clause-ahead
returns-in_err-begins-clause-ahead g c =
    ahead_of_longer c.args.ahead.now c.args.seat.now.last.entries c.begins.new.seat.last.entries c.begins.ensures.trees c.requires.ahead

pub returns-then-not-branch-clause-base : goal.returns-then-not-branch-clause-base
returns-then-not-branch-clause-base g c =
    subst (λ (n : ℕ). IsBaseOf c.args.base.now c.begins.new.seat.last.entries n) (sym c.begins.ensures.covered)
    (c.begins.ensures.trees c.args.base.now _ c.requires.base)

pub returns-then-not-branch-clause-ahead : goal.returns-then-not-branch-clause-ahead
returns-then-not-branch-clause-ahead g c =
    ahead_of_longer c.args.ahead.now c.args.seat.now.last.entries c.begins.new.seat.last.entries c.begins.ensures.trees c.requires.ahead

pub merge_last-requires-clause-base : goal.merge_last-requires-clause-base
merge_last-requires-clause-base g c κs within =
    subst (λ (n : ℕ). IsBaseOf c.args.base.now c.begins.new.seat.last.entries n) (sym c.begins.ensures.covered)
    (c.begins.ensures.trees c.args.base.now _ c.requires.base)

pub merge_last-requires-clause-ahead : goal.merge_last-requires-clause-ahead
merge_last-requires-clause-ahead g c κs within =
    ahead_of_longer c.args.ahead.now c.args.seat.now.last.entries c.begins.new.seat.last.entries c.begins.ensures.trees c.requires.ahead
