use Rattle.std.proofs.Common.{◌∙◌, map, Some, None, refl}
use Rattle.std.proofs.lemmas.Result.{IfOk-weaker}
use Rattle.clap.specs.Words.{found_of}
use Rattle.command_line.proofs.Told.{asks_for}
use Rattle.command_line.proofs.commands.run_of.Goals as goal

pub returns-in_default-clause-run : goal.returns-in_default-clause-run
returns-in_default-clause-run c = asks_for (found_of c.args.matches.now) None _ _ _ c.in_default.ensures refl refl refl

pub returns-in_default-get_strs-clause-run : goal.returns-in_default-get_strs-clause-run
returns-in_default-get_strs-clause-run c =
    asks_for (found_of c.args.matches.now) (Some c.in-Some.directory.now) None _ _ c.in-Some.ensures c.in_default-get_strs.ensures refl refl

pub returns-clause-run : goal.returns-clause-run
returns-clause-run c =
    let scripts = map (λ s. s.now) c.in-Some-get_strs.scripts.now in
    let asks = asks_for (found_of c.args.matches.now) (Some c.in-Some.directory.now) (Some scripts) _ _
    c.in-Some.ensures c.in-Some-get_strs.ensures c.get_str-3.ensures c.get_str-2.ensures in
    IfOk-weaker c.run_with.result _ _ (λ run e. e ∙ rw c.is_set-strict.ensures asks) c.run_with.ensures.run
