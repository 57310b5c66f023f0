use Rattle.edn_model.proofs.OnePlace.{one_next}
use Rattle.edn_model.proofs.reading.one_next.Goals as goal

pub returns : goal.returns
returns c = λ bytes at f g m n h k. let same = one_next bytes at f g m n h k in (same.same, same.next)
