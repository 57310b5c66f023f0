use Rattle.std.proofs.Common.{◌∙◌}
use Rattle.fb_conn.proofs.conn.Conn.show_latest.Goals as goal

pub returns-in-Ok-clause-shown : goal.returns-in-Ok-clause-shown
returns-in-Ok-clause-shown g c =
    let one = c.in-Ok.ensures ∙ c.snapshot.ensures.snapshot in (c.in-Ok.field-0.same ∙ one, one, c.end_seen.ensures.left)
