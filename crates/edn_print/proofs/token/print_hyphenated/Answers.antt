use Rattle.std.proofs.Common.{◌≡◌, ◌++◌, List, ℕ, OnOk, ap, ◌∙◌, subst}
use Rattle.uuid.specs.Text.{lower, hyphenated_text}
use Rattle.edn_model.specs.Canon.{string_text}
use Rattle.edn_print.proofs.token.print_hyphenated.Goals as goal

pub returns-clause-ok : goal.returns-clause-ok
returns-clause-ok c =
    let family : List ℕ → Type 0 = λ z. OnOk c.print_str.result (c.print_str.new.out.items ≡ c.args.out.now.items ++ string_text z) in
    subst family (c.lower_text-text.ensures ∙ ap (hyphenated_text lower) c.from_u128.ensures) c.print_str.ensures.ok
