use Rattle.std.proofs.Common.{sym}
use Rattle.std.proofs.lemmas.Result.{IfOk-weaker}
use Rattle.fb_backup.proofs.CopiedTrees.{none-loaded}
use Rattle.fb_backup.proofs.copying.copy_roots.Goals as goal

pub keep_in-requires-clause-storable : goal.keep_in-requires-clause-storable
keep_in-requires-clause-storable g c =
    let k = c.args.snapshot.now in
    let stands = c.roots.ensures.stands.history in
    rw c.roots.ensures.roots
    (c.trees_of_a_lawful_history_are_storable.ensures k.entries k.covered k.roots stands.lawful stands.roots_stand)

pub returns-in-Ok-clause-copy : goal.returns-in-Ok-clause-copy
returns-in-Ok-clause-copy g c =
    let d = g.D.Disk in
    let loaded = c.in-Ok.ensures.loaded in
    rw (sym c.roots.ensures.roots, sym c.covered.ensures.covered)
    (IfOk-weaker c.keep_in.result _ _
    (λ copy is. λ file told.
    let now = c.in-Ok.ensures.known file told in
    is (none-loaded d.bytes d.images (d.bytes c.args.segments) c.in-Ok.field-0 file loaded told (c.requires file told)) now.0 now.1)
    c.keep_in.ensures.copy)
