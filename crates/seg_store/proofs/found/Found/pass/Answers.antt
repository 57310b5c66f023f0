use Rattle.std.proofs.Common.{◌++◌, refl, ap, not}
use Rattle.seg_store.proofs.Finding.{found_behind, found_bad}
use Rattle.seg_store.proofs.found.Found.pass.Goals as goal

pub returns-then-not-self-clause-added : goal.returns-then-not-self-clause-added
returns-then-not-self-clause-added c = λ passes rest wanted records has.
    found_behind wanted records (c.args.front.now ++ rest) c.args.self.now c.if-not-self.true has

pub returns-clause-added : goal.returns-clause-added
returns-clause-added c = λ passes rest wanted records has.
    let told = c.in_ok-bad.ensures.bad passes rest in
    found_bad wanted records (c.args.front.now ++ rest) c.args.self.now
    (record c.args.self.now { nodes = c.is_bad_front.new.nodes; good = not c.in_ok-bad.bad }) c.if-not-self.false has refl told.0 told.1
    c.in_ok-bad.ensures.stays refl (ap not passes)
