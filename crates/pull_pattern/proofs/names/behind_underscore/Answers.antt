-- By the lemma on texts that begin with an underscore.
use Rattle.std.proofs.Common.{Some, None, drop, refl, arith}
use Rattle.std.proofs.lemmas.Str.Pattern.{strip_prefix_char}
use Rattle.pull_pattern.proofs.Underscores.{first_is}
use Rattle.pull_pattern.proofs.names.behind_underscore.Goals as goal

pub returns-in-Some : goal.returns-in-Some
returns-in-Some c =
    let whole = strip_prefix_char 95 c.args.text.now (Some c.in-Some.rest) c.in-Some.ensures.cases (omega arith) in
    rw whole refl

pub returns-in-None : goal.returns-in-None
returns-in-None c =
    let text = c.args.text.now in
    absurd (strip_prefix_char 95 text None c.in-None.ensures.cases (omega arith) (drop 1 text) (first_is text c.requires))
