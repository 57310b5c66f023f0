use Rattle.std.proofs.Common.{◌∷◌, ◌++◌, [], ap, ◌∙◌}
use Rattle.std.specs.Map.{values_of}
use Rattle.std.specs.Ordering.{nat_cmp}
use Rattle.shared_map.specs.Entries.{put}
use Rattle.fb_schema.proofs.Numbers.{kept-more, values-more}
use Rattle.fb_schema.proofs.facts.Facts.and.Goals as goal

pub invariant_of-result : goal.invariant_of-result
invariant_of-result c =
    let d = c.args.d.now in
    let next = c.self.inside.next in
    let facts = c.self.inside.by_number in
    let all = c.in_ok-numbers.ensures ∙ ap (λ l. l ++ next ∷ []) c.numbers_at.ensures in
    let stands = rw (← c.self.view_is) at c.requires in
    rw (c.in_ok-with.ensures, c.in_ok-copy.ensures, c.in_ok-with-2.ensures)
    (kept-more d next c.in_ok-numbers.numbers facts c.self.inside.numbers c.self.invariant all stands)

pub returns : goal.returns
returns c =
    let d = c.args.d.now in
    let next = c.self.inside.next in
    let facts = c.self.inside.by_number in
    ap values_of (c.in_ok-with.ensures ∙ ap (λ x. put nat_cmp (next, x) facts) c.in_ok-copy.ensures)
    ∙ values-more d next facts c.self.invariant.below
    ∙ ap (λ l. l ++ d ∷ []) c.self.view_is
