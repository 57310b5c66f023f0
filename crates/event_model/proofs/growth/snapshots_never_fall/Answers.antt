-- By the lemma on sessions between crashes.
use Rattle.event_model.proofs.Growing.{runs-GoOn}
use Rattle.event_model.proofs.growth.snapshots_never_fall.Goals as goal

pub returns : goal.returns
returns c =
    record {
      mailed = λ guard before events after s sound none runs. (runs-GoOn guard before events after sound none runs s).mailed;
      snap = λ guard before events after s sound none runs. (runs-GoOn guard before events after sound none runs s).snap;
      commits = λ guard before events after s sound none runs. (runs-GoOn guard before events after sound none runs s).commits;
    }
