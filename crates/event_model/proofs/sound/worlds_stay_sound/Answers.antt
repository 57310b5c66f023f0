-- By the lemmas on sound worlds.
use Rattle.event_model.proofs.SoundWorlds.{beginning-IsSound, happens-IsSound, runs-IsSound, reached-IsSound}
use Rattle.event_model.proofs.sound.worlds_stay_sound.Goals as goal

pub returns : goal.returns
returns c = record { begins = beginning-IsSound; happens = happens-IsSound; goes_on = runs-IsSound; reached = reached-IsSound }
