use Rattle.std.proofs.Common.{◌∷◌, [], not, eqb, ap, sym, ◌∙◌}
use Rattle.std.specs.Prelude.{filter}
use Rattle.std.specs.List.{find}
use Rattle.std.specs.Map.{values_of}
use Rattle.fb_model.proofs.Triples.{not_followed}
use Rattle.fb_schema.specs.Numbered.{is_number_of}
use Rattle.fb_schema.proofs.Results.{IfOk-map}
use Rattle.fb_schema.proofs.Numbers.{number-found, none-restated, kept-removed, values-removed}
use Rattle.fb_schema.proofs.facts.Facts.of_other_triples.Goals as goal

pub returns-in_default-clause-others : goal.returns-in_default-clause-others
returns-in_default-clause-others c =
    let d = c.args.d.now in
    let facts = c.self.inside.by_number in
    let none = sym (c.number_of.ensures ∙ ap (find (is_number_of d facts)) c.numbers_at-numbers.ensures) ∙ c.in_default.is in
    let same = none-restated d c.self.inside.next facts c.self.inside.numbers c.self.invariant none in
    IfOk-map _ _ (λ shared is. is ∙ sym (ap (filter (not_followed (d ∷ []))) (sym c.self.view_is) ∙ same ∙ c.self.view_is)) c.share.result
    c.share.ensures

pub invariant_of-result : goal.invariant_of-result
invariant_of-result c =
    let d = c.args.d.now in
    let n = c.in-Some.number in
    let facts = c.self.inside.by_number in
    let found = number-found d facts c.numbers_at-numbers.result.now n (sym c.number_of.ensures ∙ c.in-Some.is) in
    let left = c.in_ok-left.ensures ∙ ap (filter (λ m. not (eqb m n))) c.numbers_at-numbers.ensures in
    rw (c.in_ok-without.ensures.entries, c.in_ok-with.ensures)
    (kept-removed d c.self.inside.next n c.in_ok-left.left facts c.self.inside.numbers c.self.invariant found left)

pub returns-clause-others : goal.returns-clause-others
returns-clause-others c =
    let d = c.args.d.now in
    let n = c.in-Some.number in
    let facts = c.self.inside.by_number in
    let found = number-found d facts c.numbers_at-numbers.result.now n (sym c.number_of.ensures ∙ c.in-Some.is) in
    ap values_of c.in_ok-without.ensures.entries
    ∙ values-removed d c.self.inside.next n facts c.self.inside.numbers c.self.invariant found
    ∙ ap (filter (not_followed (d ∷ []))) c.self.view_is
