use Rattle.std.proofs.Common.{◌≡◌, ◌∙◌, true, false, refl, sym}
use Rattle.live_runs.specs.Members.{datom_of}
use Rattle.live_index.specs.Growth.{takes}
use Rattle.live_index.proofs.Growing.{both_ok}
use Rattle.live_index.proofs.orders.taken.Goals as goal

pub returns-then-is_taken-clause-datoms : goal.returns-then-is_taken-clause-datoms
returns-then-is_taken-clause-datoms c =
    let takes_it : takes c.args.covers.now c.args.order (datom_of c.args.table.now c.args.number) ≡ true =
    sym c.is_taken.ensures ∙ c.if-is_taken.true in
    both_ok c.add.result _ _ _ (λ new is also. is ∙ rw takes_it refl) c.add.ensures.datoms c.add.ensures.datoms

pub returns-else-is_taken-clause-datoms : goal.returns-else-is_taken-clause-datoms
returns-else-is_taken-clause-datoms c =
    let leaves_it : takes c.args.covers.now c.args.order (datom_of c.args.table.now c.args.number) ≡ false =
    sym c.is_taken.ensures ∙ c.if-is_taken.false in
    rw leaves_it refl
