-- By the lemmas on sound worlds.
use Rattle.std.proofs.Common.{◌<◌}
use Rattle.std.proofs.lemmas.List.Elements.{All-contains}
use Rattle.event_model.proofs.SoundWorlds.{reached-IsSound, commit-low}
use Rattle.event_model.proofs.sound.each_t_has_one_author.Goals as goal

pub returns : goal.returns
returns c =
    record {
      one = λ guard world t reached above below. (reached-IsSound guard world reached).authors t above below;
      nothing_else = λ guard world s t reached theirs.
          let sound = reached-IsSound guard world reached in (
            All-contains (λ t. world.opening < t) (world.sessions s).commits t (sound.sessions s).made_here theirs,
            commit-low world s t sound theirs,
          );
      rising = λ guard world s reached. ((reached-IsSound guard world reached).sessions s).rising;
    }
