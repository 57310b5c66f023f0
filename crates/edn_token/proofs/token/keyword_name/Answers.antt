use Rattle.std.proofs.Common.{lit<}
use Rattle.edn_token.proofs.WholeCharacters.{cut_behind}
use Rattle.edn_model.specs.Bytes.{colon}
use Rattle.edn_token.proofs.token.keyword_name.Goals as goal

pub returns-in-None : goal.returns-in-None
returns-in-None c =
    λ name is. absurd (let some = c.in-None.ensures.variant.1 (cut_behind c.args.token.now name colon is (lit< tt) c.utf8.token) in cc)
