use Rattle.std.proofs.Common.{◌<◌, length, ◌∙◌, sym, arith}
use Rattle.std.proofs.lemmas.Bool.Decides.{nat_tests}
use Rattle.edn_token.proofs.name.is_name.Goals as goal

pub returns-then-not-is_empty : goal.returns-then-not-is_empty
returns-then-not-is_empty c =
    let some : 0 < length c.args.text.now =
    let empty = c.is_empty.ensures in let was = c.if-not-is_empty.true in grind (arith, nat_tests) in
    (λ e. (some, sym c.are_name_bytes.ensures ∙ e), λ h. c.are_name_bytes.ensures ∙ h.1)
