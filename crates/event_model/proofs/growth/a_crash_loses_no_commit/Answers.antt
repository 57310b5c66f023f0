-- By the lemmas on crashes.
use Rattle.event_model.proofs.Growing.{commit-kept, crash-kept, crash-log, crash-IsBeginning}
use Rattle.event_model.proofs.growth.a_crash_loses_no_commit.Goals as goal

pub returns : goal.returns
returns c = record { kept = crash-kept; ever_after = commit-kept; at_most_one_more = crash-log; begins_again = crash-IsBeginning }
