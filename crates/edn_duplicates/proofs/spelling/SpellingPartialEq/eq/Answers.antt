use Rattle.std.proofs.Common.{nat_eq, ap, ◌∙◌}
use Rattle.std.specs.Cmp.Lexicographic.{pointwise, texts_ties}
use Rattle.edn_duplicates.proofs.spelling.SpellingPartialEq.eq.Goals as goal

pub returns : goal.returns
returns c =
    let text = c.args.self.now.text in
    let other = c.args.other.now.text in
    c.eq.ensures ∙ ap (λ a. pointwise nat_eq a c.as_str-2.result.now) c.as_str.ensures
    ∙ ap (λ b. pointwise nat_eq text b) c.as_str-2.ensures ∙ texts_ties text other
