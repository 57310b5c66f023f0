use Rattle.std.proofs.Common.{◌∙◌, ℕ, sym, subst}
use Rattle.fb_roots.specs.Bases.{IsBaseOf}
use Rattle.merge_worker.proofs.working.adopt.Goals as goal

pub returns-in-Ok-clause-base : goal.returns-in-Ok-clause-base
returns-in-Ok-clause-base g c =
    let next = c.args.next in let now = c.publish.new.seat.last.entries in
    let covered = c.in-Ok.ensures.adopted ∙ c.requires.next.0 in
    subst (λ (n : ℕ). IsBaseOf next now n) (sym covered) (c.publish.ensures.trees next _ c.requires.next)

pub returns-in-Err-clause-base : goal.returns-in-Err-clause-base
returns-in-Err-clause-base g c =
    let base = c.args.base.now in let now = c.publish.new.seat.last.entries in
    subst (λ (n : ℕ). IsBaseOf base now n) (sym c.in-Err.ensures.unchanged) (c.publish.ensures.trees base _ c.requires.base)

pub returns-in-Err-clause-ahead : goal.returns-in-Err-clause-ahead
returns-in-Err-clause-ahead g c =
    let next = c.args.next in let now = c.publish.new.seat.last.entries in
    subst (λ (n : ℕ). IsBaseOf next now n) (sym c.requires.next.0) (c.publish.ensures.trees next _ c.requires.next)
