use Rattle.std.proofs.Common.{refl, false}
use Rattle.seg_store.proofs.Finding.{found_behind, found_more, found_bad}
use Rattle.seg_store.proofs.found.Found.add.Goals as goal

pub returns-then-not-self : goal.returns-then-not-self
returns-then-not-self c = λ wanted records has. found_behind wanted records c.args.payload.now c.args.self.now c.if-not-self.true has

pub returns-in_ok-push-in-Ok : goal.returns-in_ok-push-in-Ok
returns-in_ok-push-in-Ok c = λ wanted records has.
    found_more wanted records c.args.payload.now c.args.self.now
    (record c.args.self.now { nodes = c.record_of.new.nodes; kept = c.push.new.self }) c.if-not-self.false has refl
    c.in-Ok.roots c.in-Ok.c
    c.in-Ok.ensures c.in_ok-push-in-Ok.ensures.items c.if-not-self.false

pub returns-in-Err-At : goal.returns-in-Err-At
returns-in-Err-At c = λ wanted records has.
    let told = rw c.in-Err-At.field-0-is at c.in-Err-At.ensures in
    found_bad wanted records c.args.payload.now c.args.self.now
    (record c.args.self.now { nodes = c.record_of.new.nodes; good = false }) c.if-not-self.false has refl c.in-Err-At.field-0-0 told.1 told.0
    refl refl
