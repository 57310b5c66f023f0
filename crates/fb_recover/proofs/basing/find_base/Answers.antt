use Rattle.std.proofs.Common.{subst}
use Rattle.std.proofs.lemmas.Result.{IfOk-weaker}
use Rattle.seg_store.specs.Loads.{IsLoadedNewest}
use Rattle.fb_recover.proofs.basing.find_base.Goals as goal

pub based_on_newest-requires-clause-newest : goal.based_on_newest-requires-clause-newest
based_on_newest-requires-clause-newest g c =
    let d = g.D.Disk in
    let known = d.bytes c.args.segments in
    (known, subst (IsLoadedNewest d.bytes d.images known) c.in-Ok-Root.field-0-is c.in-Ok-Root.ensures.newest)

pub based_on-requires-clause-loaded : goal.based_on-requires-clause-loaded
based_on-requires-clause-loaded g c =
    let d = g.D.Disk in
    let known = d.bytes c.args.segments in
    (known, (subst (IsLoadedNewest d.bytes d.images known) c.in-Ok-Whole.field-0-is c.in-Ok-Whole.ensures.newest).0)

pub returns-in-Ok-Root-clause-based : goal.returns-in-Ok-Root-clause-based
returns-in-Ok-Root-clause-based g c =
    let d = g.D.Disk in
    let known = d.bytes c.args.segments in
    let root = subst (IsLoadedNewest d.bytes d.images known) c.in-Ok-Root.field-0-is c.in-Ok-Root.ensures.newest in
    let stays = rw c.in-Ok-Root.field-0-is at
    c.in-Ok-Root.ensures.known in
    IfOk-weaker c.based_on_newest.result _ _ (λ b is. is known root stays) c.based_on_newest.ensures.based

pub returns-in-Ok-Whole-clause-based : goal.returns-in-Ok-Whole-clause-based
returns-in-Ok-Whole-clause-based g c =
    let d = g.D.Disk in
    let known = d.bytes c.args.segments in
    let whole = subst (IsLoadedNewest d.bytes d.images known) c.in-Ok-Whole.field-0-is c.in-Ok-Whole.ensures.newest in
    let stays = rw c.in-Ok-Whole.field-0-is at
    c.in-Ok-Whole.ensures.known in
    IfOk-weaker c.based_on.result _ _ (λ b is. is known whole.0 whole.1 stays) c.based_on.ensures.based
