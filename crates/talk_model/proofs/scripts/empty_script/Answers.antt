use Rattle.std.proofs.Common.{refl, lit≤}
use Rattle.edn_model.specs.Grammar.{no_gap}
use Rattle.talk_model.proofs.scripts.empty_script.Goals as goal

pub returns : goal.returns
returns c = record { end = 0; forms = refl; few = lit≤ tt; ends = no_gap }
