use Rattle.std.proofs.Common.{[], ◌∷◌, ap, sym, ◌∙◌}
use Rattle.std.specs.Cmp.Lexicographic.{slice_cmp, pointwise}
use Rattle.std.specs.Ordering.{eq_by_cmp}
use Rattle.edn_duplicates.specs.Order.{token_eq, token_cmp, tokens_of}
use Rattle.edn_duplicates.proofs.Tokens.{same_lists, same_ones}
use Rattle.edn_duplicates.proofs.coded.CodedPartialEq.eq.Goals as goal

pub returns-in-One-One : goal.returns-in-One-One
returns-in-One-One c =
    let self = c.args.self.now in
    let other = c.args.other.now in
    c.eq.ensures ∙ same_ones c.in-One-One.token c.in-One-One.same
    ∙ ap (λ a. eq_by_cmp (slice_cmp token_cmp) (tokens_of a) (c.in-One-One.same ∷ [])) (sym c.in-One-One.is-0)
    ∙ ap (λ b. eq_by_cmp (slice_cmp token_cmp) (tokens_of self) (tokens_of b)) (sym c.in-One-One.is-1)

pub returns-in_default : goal.returns-in_default
returns-in_default c =
    let self = c.args.self.now in
    let other = c.args.other.now in
    c.eq-in_default.ensures ∙ ap (λ a. pointwise token_eq a c.as_slice-in_default.result.now) c.as_slice.ensures
    ∙ ap (λ b. pointwise token_eq (tokens_of self) b) c.as_slice-in_default.ensures ∙ same_lists (tokens_of self) (tokens_of other)
