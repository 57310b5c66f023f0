use Rattle.std.proofs.Common.{◌∷◌, ◌∙◌, [], subst, ap}
use Rattle.std.proofs.lemmas.Result.{IfOk-weaker}
use Rattle.seg_store.specs.Stores.{disk_in}
use Rattle.seg_agree.specs.Newest.{IsNewest}
use Rattle.fb_recover.proofs.Agreeing.{IfOk-both, told_on, fits_agreeing, based_newest, based_known}
use Rattle.fb_recover.proofs.basing.based_on_newest.Goals as goal

pub with_room-requires-clause-fits : goal.with_room-requires-clause-fits
with_room-requires-clause-fits g c =
    let d = g.D.Disk in
    let newest = c.args.newest in
    let one = subst (IsNewest c.args.entries.now (newest.trees ∷ [])) c.in-Ok-Some.field-0-is c.in-Ok-Some.ensures in
    fits_agreeing d.bytes d.images c.requires.newest.0 c.args.entries.now newest c.requires.newest.1 c.in-Ok-Some.trees one.0

pub with_room-requires-clause-storable : goal.with_room-requires-clause-storable
with_room-requires-clause-storable g c =
    let trees = c.in-Ok-Some.trees in
    let one = subst (IsNewest c.args.entries.now (c.args.newest.trees ∷ [])) c.in-Ok-Some.field-0-is c.in-Ok-Some.ensures in
    c.trees_of_a_lawful_history_are_storable.ensures c.args.entries.now trees.c trees.roots c.requires.lawful one.1.agrees

pub returns-in-Ok-Some-clause-based : goal.returns-in-Ok-Some-clause-based
returns-in-Ok-Some-clause-based g c =
    let d = g.D.Disk in
    let newest = c.args.newest in
    let room = c.with_room.ensures in
    let one = subst (IsNewest c.args.entries.now (newest.trees ∷ [])) c.in-Ok-Some.field-0-is c.in-Ok-Some.ensures in
    IfOk-weaker c.with_room.result _ _
    (λ b has. λ known is begun. based_newest d.bytes d.images known c.args.entries.now newest is c.in-Ok-Some.trees b one
    has.0 has.1.0 has.1.1.0 has.1.1.1.0 has.1.1.1.1.0 has.1.1.1.1.1.0 room.distinct
    (told_on known (d.bytes (disk_in newest.store)) (d.bytes (disk_in b.store)) begun has.1.1.1.1.1.1))
    (IfOk-both c.with_room.result _ _ room.trees
    (IfOk-both c.with_room.result _ _ room.fits
    (IfOk-both c.with_room.result _ _ room.root
    (IfOk-both c.with_room.result _ _ room.below
    (IfOk-both c.with_room.result _ _ room.room (IfOk-both c.with_room.result _ _ room.still room.known))))))

pub returns-in-Ok-clause-based : goal.returns-in-Ok-clause-based
returns-in-Ok-clause-based g c =
    let d = g.D.Disk in
    let load = c.in-Ok.ensures in
    let later = d.bytes c.give_back.result in
    IfOk-weaker c.based_on.result _ _
    (λ b is. λ known root stays. based_known d.bytes d.images known later c.args.entries.now b
    (λ file was. ap d.bytes c.give_back.ensures ∙ root.same file was)
    (is later load.loaded load.kept load.known))
    c.based_on.ensures.based
