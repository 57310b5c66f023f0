use Rattle.fb_values.proofs.Rising.{rises_from, rising_from}
use Rattle.fb_values.proofs.laws.rising_by_neighbours_is_rising_by_all.Goals as goal

pub returns : goal.returns
returns c = (rising_from _ _, rises_from _ _)
