use Rattle.std.proofs.Common.{◌∙◌, None, Some, ap}
use Rattle.std.specs.Prelude.{option_and_then}
use Rattle.clap.specs.Words.{app_of}
use Rattle.command_line.specs.Words.{between}
use Rattle.command_line.proofs.Reading.{pair_reads}
use Rattle.command_line.proofs.commands.backup_in.Goals as goal

pub returns-in-Some-clause-backup : goal.returns-in-Some-clause-backup
returns-in-Some-clause-backup c =
    c.backup_from.ensures.backup
    ∙ ap (option_and_then between) (pair_reads (app_of c.in_ok-pair_command.field-0) c.args.words.now c.in_ok-matches.field-0
    (Some c.in-Some.matches) c.in-Some.is c.in_ok-matches.ensures c.in_ok-pair_command.ensures)

pub returns-in-None-clause-backup : goal.returns-in-None-clause-backup
returns-in-None-clause-backup c =
    ap (option_and_then between) (pair_reads (app_of c.in_ok-pair_command.field-0) c.args.words.now c.in_ok-matches.field-0 None
    c.in-None.is c.in_ok-matches.ensures c.in_ok-pair_command.ensures)
