-- By the lemmas on sound worlds.
use Rattle.std.proofs.Common.{◌≤◌}
use Rattle.std.proofs.lemmas.List.Elements.{All-contains}
use Rattle.event_model.proofs.SoundWorlds.{reached-IsSound}
use Rattle.event_model.proofs.sound.snapshots_show_their_own_commits.Goals as goal

pub returns : goal.returns
returns c =
    record {
      mailed = λ guard world s reached. ((reached-IsSound guard world reached).sessions s).mailed;
      snap = λ guard world s reached. ((reached-IsSound guard world reached).sessions s).snap;
      own =
          λ guard world s t reached theirs. All-contains (λ t. t ≤ (world.sessions s).snap) (world.sessions s).commits t
          ((reached-IsSound guard world reached).sessions s).seen theirs;
    }
