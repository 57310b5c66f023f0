-- By the lemma on entries up to a t.
use Rattle.std.proofs.Common.{ap}
use Rattle.view_model.specs.View.{seen}
use Rattle.event_model.proofs.Growing.{runs-upto}
use Rattle.event_model.proofs.growth.snapshots_stay_what_they_are.Goals as goal

pub returns : goal.returns
returns c =
    record {
      beginning = runs-upto;
      views = λ guard before events after b w sound runs low. ap (λ h. seen h w) (runs-upto guard before events after b sound runs low);
    }
