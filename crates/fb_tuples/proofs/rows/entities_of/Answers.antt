-- Of all lists, each entity once.
use Rattle.std.proofs.Common.{◌≡◌, ◌∙◌, ℕ, List, ap, subst, rules}
use Rattle.std.specs.Prelude.{◌↔◌, Contains}
use Rattle.std.proofs.lemmas.List.{take_all}
use Rattle.fb_tuples.specs.Lent.{lists_lent}
use Rattle.fb_tuples.specs.Gathered.{entities_in}
use Rattle.fb_tuples.proofs.rows.entities_of.Goals as goal

pub returns-clause-members : goal.returns-clause-members
returns-clause-members c =
    let all : c.loop-list.entities.items ≡ entities_in (lists_lent c.args.lists.now) =
    c.loop-list.invariant ∙ ap (λ l. entities_in (lists_lent l)) (take_all c.loop-list.list-index c.args.lists.now (search rules)) in
    subst (λ (l : List ℕ). (e : ℕ) → Contains l e ↔ Contains c.keep_each_once.new.numbers.items e) all c.keep_each_once.ensures.members
