use Rattle.std.proofs.Common.{ap, ◌∙◌}
use Rattle.std.specs.Cmp.Lexicographic.{slice_cmp}
use Rattle.edn_duplicates.specs.Order.{token_cmp, tokens_of}
use Rattle.edn_duplicates.proofs.coded.CodedOrd.cmp.Goals as goal

pub returns : goal.returns
unfolding token_cmp
returns c =
    c.cmp.ensures ∙ ap (λ a. slice_cmp token_cmp a c.as_slice-2.result.now) c.as_slice.ensures
    ∙ ap (λ b. slice_cmp token_cmp (tokens_of c.args.self.now) b) c.as_slice-2.ensures
