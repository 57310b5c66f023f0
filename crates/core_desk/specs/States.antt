-- What the session of a core knows through its desk.
-- This project's own choice.
use Rattle.std.specs.Prelude.{◌-◌, false, [], None}
use Rattle.fb_desk.specs.Desks.{State, most_calls}
use Rattle.core_desk.specs.declared.alone.CoreDesk.{CoreDesk}
use Rattle.core_desk.specs.Alone.{opening_of}

-- the desk sees the core's latest value,
-- and is never notified of a log that stopped; it is the only one
abbrev pub state_of : CoreDesk → State
state_of desk = record {
  entries = desk.core.snapshot.entries;
  opening = opening_of desk.core;
  commits = desk.commits.items;
  stop = None;
  teller = false;
  tally = record { glances = desk.counts.glances; loads = desk.counts.loads };
  left = most_calls - desk.counts.calls;
  seat = [];
}
