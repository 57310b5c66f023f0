-- Of all datoms, each entity once.
use Rattle.std.proofs.Common.{◌≡◌, ◌∙◌, ◌++◌, ℕ, List, map, ap, subst}
use Rattle.std.specs.Prelude.{◌↔◌, Contains}
use Rattle.fb_tuples.specs.Lent.{datoms_lent}
use Rattle.fb_tuples.proofs.rows.entities_in.Goals as goal

pub returns-clause-members : goal.returns-clause-members
returns-clause-members c =
    let all = map (λ d. d.e) (datoms_lent c.args.datoms.now) in
    let pushed : c.push_entities.new.entities.items ≡ all =
    c.in_ok-push_entities.ensures ∙ ap (λ (l : List ℕ). l ++ all) c.in_ok-entities.ensures.items in
    subst (λ (l : List ℕ). (e : ℕ) → Contains l e ↔ Contains c.keep_each_once.new.numbers.items e) pushed c.keep_each_once.ensures.members
