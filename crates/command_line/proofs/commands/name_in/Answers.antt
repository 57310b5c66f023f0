use Rattle.std.proofs.Common.{◌∙◌, None, Some, codes}
use Rattle.clap.specs.Words.{app_of, found_of}
use Rattle.clap.proofs.WalkLemmas.{first_value-rows}
use Rattle.command_line.proofs.Reading.{name_reads}
use Rattle.command_line.proofs.commands.name_in.Goals as goal

pub returns-in-Some : goal.returns-in-Some
returns-in-Some c =
    c.get_str.ensures ∙ first_value-rows (found_of c.in-Some.matches) (codes "NAME")
    ∙ name_reads (app_of c.in_ok-name_command.field-0) c.args.words.now c.in_ok-matches.field-0 (Some c.in-Some.matches) c.in-Some.is
    c.in_ok-matches.ensures c.in_ok-name_command.ensures

pub returns-in-None : goal.returns-in-None
returns-in-None c =
    name_reads (app_of c.in_ok-name_command.field-0) c.args.words.now c.in_ok-matches.field-0 None c.in-None.is c.in_ok-matches.ensures
    c.in_ok-name_command.ensures
