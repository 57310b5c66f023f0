-- Of all changes, each entity once.
use Rattle.std.proofs.Common.{◌≡◌, ◌∙◌, ℕ, List, ap, subst, map, rules}
use Rattle.std.specs.Prelude.{◌↔◌, Contains}
use Rattle.std.proofs.lemmas.List.{take_all}
use Rattle.fb_values.specs.declared.facts.Datom.{Datom}
use Rattle.fb_tuples.proofs.renewed.entities_of.Goals as goal

pub returns-clause-members : goal.returns-clause-members
returns-clause-members c =
    let all : c.loop-d.entities.items ≡ map (λ d. d.e) c.args.changes.now =
    c.loop-d.invariant ∙ ap (λ (l : List Datom). map (λ d. d.e) l) (take_all c.loop-d.d-index c.args.changes.now (search rules)) in
    subst (λ (l : List ℕ). (e : ℕ) → Contains l e ↔ Contains c.keep_each_once.new.numbers.items e) all c.keep_each_once.ensures.members
