-- By the lemma on the cases of an event.
use Rattle.event_model.proofs.Running.{one_world}
use Rattle.event_model.proofs.runs.each_event_but_a_crash_makes_one_world.Goals as goal

pub returns : goal.returns
returns c = one_world
