-- By the lemma on merges.
use Rattle.std.proofs.Common.{ap}
use Rattle.view_model.specs.View.{seen}
use Rattle.event_model.proofs.Growing.{merge-LeavesAlone}
use Rattle.event_model.proofs.growth.a_merge_changes_no_view.Goals as goal

pub returns : goal.returns
returns c =
    record {
      history = λ guard before event after of_merge happens. (merge-LeavesAlone guard before event after of_merge happens).history;
      opening = λ guard before event after of_merge happens. (merge-LeavesAlone guard before event after of_merge happens).opening;
      stop = λ guard before event after of_merge happens. (merge-LeavesAlone guard before event after of_merge happens).stop;
      sessions = λ guard before event after of_merge happens. (merge-LeavesAlone guard before event after of_merge happens).sessions;
      views =
          λ guard before event after w of_merge happens.
          ap (λ h. seen h w) (merge-LeavesAlone guard before event after of_merge happens).history;
    }
