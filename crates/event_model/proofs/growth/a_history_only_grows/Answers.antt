-- By the lemmas on what stays as it is.
use Rattle.event_model.proofs.Growing.{runs-begins, runs-places, runs-opening}
use Rattle.event_model.proofs.growth.a_history_only_grows.Goals as goal

pub returns : goal.returns
returns c = record { grows = runs-begins; places = runs-places; opening = runs-opening }
