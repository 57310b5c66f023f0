use Rattle.std.proofs.Common.{sym}
use Rattle.fb_run.proofs.opening.add_session.Goals as goal

pub returns-clause-opened : goal.returns-clause-opened
returns-clause-opened g c = record {
  session = c.session_of.result;
  source = rw (sym c.session_of.ensures.source) at c.in-Some.ensures.cases.0;
  opens = rw (sym c.session_of.ensures.sink) at c.in_ok-sink.ensures.opened;
  added = c.in-Ok.ensures.items;
}
