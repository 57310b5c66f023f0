use Rattle.std.proofs.Common.{refl}
use Rattle.std.specs.Fmt.{digits}
use Rattle.live_model.proofs.answers.what_is_written.Goals as goal

pub returns : goal.returns
unfolding digits
returns c = refl
