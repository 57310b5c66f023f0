use Rattle.std.proofs.Common.{◌≡◌, subst, rules}
use Rattle.std.specs.Fork.{ChangesEach}
use Rattle.fb_run.proofs.merging.beside.Goals as goal

pub returns-clause-jobs : goal.returns-clause-jobs
returns-clause-jobs g c =
    let left : c.join_mut.new.g.3.now ≡ c.jobs-1.given.0 = search rules in
    subst (ChangesEach g.F.Fn c.args.job.now c.args.jobs.now) left c.join_mut.ensures.1.met.1
