use Rattle.std.proofs.Common.{◌⊎◌, subst}
use Rattle.seg_store.specs.Trees.{root_of}
use Rattle.fb_recover.specs.Openings.{HasCoverage, AgreesWithNone, HasFault, HasRoot}
use Rattle.fb_run.proofs.database.reopened.Goals as goal

pub returns-in-Ok-clause-opened : goal.returns-in-Ok-clause-opened
returns-in-Ok-clause-opened g c =
    let e = c.in-Ok.ensures in
    record {
      history = e.history;
      core = e.core.0;
      fresh = e.core.1;
      recovered = e.recovered;
      keeps = e.keeps;
      count = e.count;
      known = e.known;
      unfailed = e.counted;
      any_moment = e.any_moment_stands;
      unharmed = e.any_moment;
      coverage = λ file spec. subst (λ n. HasCoverage c.in-Ok.field-0.core.snapshot.entries n file) e.covered (e.coverage file spec);
      root = λ file spec.
          subst (λ n. HasFault file ⊎ (AgreesWithNone c.in-Ok.field-0.core.snapshot.entries file
          ⊎ HasRoot g.D.Disk.bytes g.D.Disk.images c.in-Ok.field-0.store (root_of c.in-Ok.field-0.core.snapshot.roots n))) e.covered
          (e.root file spec);
      below = e.below;
      fit = e.fits;
      great = e.great;
      segments_known = e.segments_known;
      segments_unfailed = e.segments_counted;
    }
