use Rattle.std.proofs.lemmas.Result.{err_from_is_err_and}
use Rattle.edn_token.proofs.Gaps.{line_last, line_ends, line_broken}
use Rattle.edn_token.proofs.gap.line_end.Goals as goal

pub returns-in_err-characters : goal.returns-in_err-characters
returns-in_err-characters c =
    let told = err_from_is_err_and c.from_residual.result c.from_residual.ensures.1 in
    rw (told.1, told.2) (line_broken c.args.line.now _ _ c.in_err-characters.field-0.0 c.split_line.ensures c.in_err-characters.ensures)

pub returns-in-None : goal.returns-in-None
returns-in-None c = line_last c.args.line.now _ _ c.split_line.ensures c.in_ok-characters.ensures.1 c.in-None.ensures.cases

pub returns-in-Some : goal.returns-in-Some
returns-in-Some c = line_ends c.args.line.now _ _ _ _ c.split_line.ensures c.in_ok-characters.ensures.1 c.in-Some.ensures.cases.0
