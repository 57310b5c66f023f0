use Rattle.edn_token.proofs.Strings.{whole_string_is}
use Rattle.edn_token.proofs.string.read_string.Goals as goal

pub returns-in-Quote : goal.returns-in-Quote
returns-in-Quote c =
    whole_string_is c.args.inside.now c.in-Plain.s.now _ _ c.in-Plain.ensures.1 c.in-Plain.ensures.2 c.split_at.ensures.back
    c.in-Quote.ensures c.in_ok-of.ensures
