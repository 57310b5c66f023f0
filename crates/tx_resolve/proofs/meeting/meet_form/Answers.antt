use Rattle.std.proofs.Common.{sym, subst}
use Rattle.tx_resolve.specs.Meeting.{tempids_of, Meets}
use Rattle.tx_resolve.proofs.Drops.{flat_take}
use Rattle.tx_resolve.proofs.Meetings.{meets_both}
use Rattle.tx_resolve.proofs.meeting.meet_form.Goals as goal

pub loop-ask-preserved : goal.loop-ask-preserved
loop-ask-preserved c =
    subst (Meets c.args.met.now c.meet_ask.new.self)
    (sym (flat_take tempids_of c.args.asks.now c.loop-ask.ask-index c.ask-item.result c.loop-ask-test.true c.ask-item.is))
    (meets_both c.loop-ask.invariant c.in_ok-meet_ask.ensures)
