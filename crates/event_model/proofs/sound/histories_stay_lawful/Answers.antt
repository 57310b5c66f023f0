-- By the lemma on sound worlds.
use Rattle.event_model.proofs.SoundWorlds.{reached-IsSound}
use Rattle.event_model.proofs.sound.histories_stay_lawful.Goals as goal

pub returns : goal.returns
returns c = λ guard world reached. (reached-IsSound guard world reached).lawful
