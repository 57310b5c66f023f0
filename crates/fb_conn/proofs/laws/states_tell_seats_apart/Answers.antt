use Rattle.std.proofs.Common.{◌∙◌}
use Rattle.fb_conn.proofs.States.{same_table}
use Rattle.fb_conn.proofs.laws.states_tell_seats_apart.Goals as goal

pub returns : goal.returns
returns c = λ table other old new was is same.
    let both = same_table _ _ _ _ same in (record { on = both.1 ∙ was.on; idle = is.idle; alone = is.alone; seen = is.seen }, both.0)
