use Rattle.edn_duplicates.specs.Order.{token_cmp}
use Rattle.edn_duplicates.proofs.Codes.{same_code}
use Rattle.edn_duplicates.proofs.Likeness.{alike_from}
use Rattle.edn_duplicates.specs.Order.{token_total}
use Rattle.edn_duplicates.proofs.Tokens.{code_exact}
use Rattle.edn_duplicates.proofs.laws.alike_forms_have_one_code.Goals as goal

pub returns : goal.returns
returns c = record { are_alike = alike_from token_cmp token_total code_exact; one_code = same_code token_cmp token_total code_exact }
