-- By the lemmas on what is barred.
use Rattle.tuple_model.proofs.Barred.{bars-IsBarred, IsBarred-bars}
use Rattle.tuple_model.proofs.laws.the_guard_bars_what_is_barred.Goals as goal

pub returns : goal.returns
returns c = λ lists h changes. (bars-IsBarred h changes lists, IsBarred-bars h changes lists)
