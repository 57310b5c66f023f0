use Rattle.std.proofs.Common.{◌∙◌, None, Some}
use Rattle.std.proofs.lemmas.Result.{IfOk-weaker}
use Rattle.clap.specs.Words.{app_of}
use Rattle.command_line.proofs.Reading.{run_reads}
use Rattle.command_line.proofs.commands.run_in.Goals as goal

pub returns-in-Some-clause-run : goal.returns-in-Some-clause-run
returns-in-Some-clause-run c =
    let command = app_of c.in_ok-run_command.field-0 in
    let reads = run_reads command c.args.words.now c.in_ok-matches.field-0 (Some c.in-Some.matches) c.in-Some.is c.in_ok-matches.ensures
    c.in_ok-run_command.ensures in
    IfOk-weaker c.run_of.result _ _ (λ run e. e ∙ reads) c.run_of.ensures.run

pub returns-in-None-clause-run : goal.returns-in-None-clause-run
returns-in-None-clause-run c =
    let command = app_of c.in_ok-run_command.field-0 in
    run_reads command c.args.words.now c.in_ok-matches.field-0 None c.in-None.is c.in_ok-matches.ensures c.in_ok-run_command.ensures
