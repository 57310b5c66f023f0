use Rattle.log_sweep.proofs.Joining.{lawful-swept}
use Rattle.log_sweep.proofs.lawful.what_is_kept_makes_a_lawful_history.Goals as goal

pub returns : goal.returns
returns c = lawful-swept
