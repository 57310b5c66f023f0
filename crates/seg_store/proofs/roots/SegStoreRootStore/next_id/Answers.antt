use Rattle.std.proofs.Common.{◌≤◌, ℕ, sym, ◌∙◌, subst}
use Rattle.log_model.specs.Kept.{nodes_of}
use Rattle.seg_store.proofs.roots.SegStoreRootStore.next_id.Goals as goal

pub returns-clause-fit : goal.returns-clause-fit
returns-clause-fit g c = λ first old new behind fits made.
    let id = c.next_id.ensures in
    let above = subst (λ (n : ℕ). n ≤ first) (sym id.next ∙ id.least fits.records fits.keeps) behind in record {
      records = fits.records;
      keeps = fits.keeps;
      fits = c.trees_made_of_fitting_ones_fit.ensures (nodes_of fits.records) first old new above fits.fits made.older made.directories;
    }
