use Rattle.std.specs.Prelude.{string_bytes}
use Rattle.fb_run.proofs.Causing.{says_line}
use Rattle.fb_run.proofs.Backups.{says_copy}
use Rattle.fb_run.proofs.backing.told.Goals as goal

pub returns-in-Err-clause-told : goal.returns-in-Err-clause-told
returns-in-Err-clause-told g c =
    let out = c.without_session.ensures in
    let says = says_copy c.in-Err.why c.status_of_copy.result _ _ c.status_of_copy.ensures
    (says_line string_bytes c.line_of_copy.result c.status_of_copy.result _ _ _ out.said out.unsaid c.line_of_copy.ensures) in
    rw c.in-Err.is (says, out.no_console)
