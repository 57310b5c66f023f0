use Rattle.seg_store.proofs.Fitting.{fits_made}
use Rattle.seg_store.proofs.laws.trees_made_of_fitting_ones_fit.Goals as goal

pub returns : goal.returns
returns c = fits_made
