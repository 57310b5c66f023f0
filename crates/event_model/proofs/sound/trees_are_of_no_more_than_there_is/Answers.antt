-- By the lemmas on sound worlds.
use Rattle.std.proofs.Common.{◌≤◌}
use Rattle.std.proofs.lemmas.List.Elements.{All-contains}
use Rattle.fb_model.specs.History.{basis}
use Rattle.event_model.proofs.SoundWorlds.{reached-IsSound}
use Rattle.event_model.proofs.sound.trees_are_of_no_more_than_there_is.Goals as goal

pub returns : goal.returns
returns c =
    record {
      opening = λ guard world reached. (reached-IsSound guard world reached).opening;
      adopted = λ guard world reached. (reached-IsSound guard world reached).adopted;
      kept =
          λ guard world c reached is_kept.
          All-contains (λ c. c ≤ basis world.history) world.kept c (reached-IsSound guard world reached).kept is_kept;
      merging = λ guard world c reached is. (reached-IsSound guard world reached).merging c is;
    }
