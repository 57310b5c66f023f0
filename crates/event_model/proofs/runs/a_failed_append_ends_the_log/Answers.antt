-- By the lemma on what is behind a failed append.
use Rattle.std.proofs.Common.{◌∙◌}
use Rattle.event_model.proofs.Running.{runs-Stays}
use Rattle.event_model.proofs.runs.a_failed_append_ends_the_log.Goals as goal

pub returns : goal.returns
returns c =
    record {
      stop = λ guard before events after stop torn none runs. (runs-Stays guard before events after stop torn none runs).stop ∙ torn;
      history = λ guard before events after stop torn none runs. (runs-Stays guard before events after stop torn none runs).history;
    }
