use Rattle.std.proofs.Common.{subst}
use Rattle.std.proofs.lemmas.Result.{IfOk-weaker}
use Rattle.seg_store.specs.Stores.{disk_in}
use Rattle.seg_agree.specs.Newest.{IsNewest}
use Rattle.fb_recover.proofs.Agreeing.{IfOk-both, told_on, fits_loaded, based_found, based_first}
use Rattle.fb_recover.proofs.basing.based_on.Goals as goal

pub with_room-requires-clause-fits : goal.with_room-requires-clause-fits
with_room-requires-clause-fits g c =
    let d = g.D.Disk in
    let loaded = c.args.loaded in
    let newest = subst (IsNewest c.args.entries.now loaded.kept.items) c.in-Ok-Some.field-0-is c.in-Ok-Some.ensures in
    fits_loaded d.bytes d.images c.requires.loaded.0 c.args.entries.now loaded c.in-Ok-Some.trees c.requires.loaded.1 newest.0

pub with_room-requires-clause-storable : goal.with_room-requires-clause-storable
with_room-requires-clause-storable g c =
    let trees = c.in-Ok-Some.trees in
    let newest = subst (IsNewest c.args.entries.now c.args.loaded.kept.items) c.in-Ok-Some.field-0-is c.in-Ok-Some.ensures in
    c.trees_of_a_lawful_history_are_storable.ensures c.args.entries.now trees.c trees.roots c.requires.lawful newest.1.agrees

pub returns-in-Ok-Some-clause-based : goal.returns-in-Ok-Some-clause-based
returns-in-Ok-Some-clause-based g c =
    let d = g.D.Disk in
    let loaded = c.args.loaded in
    let room = c.with_room.ensures in
    let newest = subst (IsNewest c.args.entries.now loaded.kept.items) c.in-Ok-Some.field-0-is c.in-Ok-Some.ensures in
    IfOk-weaker c.with_room.result _ _
    (λ b has. λ known is keeps begun. based_found d.bytes d.images known c.args.entries.now loaded c.in-Ok-Some.trees b is keeps
    newest has.0 has.1.0 has.1.1.0 has.1.1.1.0 has.1.1.1.1.0 has.1.1.1.1.1.0 room.distinct
    (told_on known (d.bytes (disk_in loaded.store)) (d.bytes (disk_in b.store)) begun has.1.1.1.1.1.1))
    (IfOk-both c.with_room.result _ _ room.trees
    (IfOk-both c.with_room.result _ _ room.fits
    (IfOk-both c.with_room.result _ _ room.root
    (IfOk-both c.with_room.result _ _ room.below
    (IfOk-both c.with_room.result _ _ room.room (IfOk-both c.with_room.result _ _ room.still room.known))))))

pub returns-in-Ok-None-clause-based : goal.returns-in-Ok-None-clause-based
returns-in-Ok-None-clause-based g c =
    let d = g.D.Disk in
    let loaded = c.args.loaded in
    let first = c.of_first.ensures in
    let none = subst (IsNewest c.args.entries.now loaded.kept.items) c.in-Ok-None.field-0-is c.in-Ok-None.ensures in
    IfOk-weaker c.of_first.result _ _
    (λ b has. λ known is keeps begun. based_first d.bytes d.images known c.args.entries.now loaded b c.requires.lawful keeps none has.0
    has.1.0 has.1.1.0 has.1.1.1.0
    (told_on known (d.bytes (disk_in loaded.store)) (d.bytes (disk_in b.store)) begun has.1.1.1.1))
    (IfOk-both c.of_first.result _ _ first.empty
    (IfOk-both c.of_first.result _ _ first.stands
    (IfOk-both c.of_first.result _ _ first.ids (IfOk-both c.of_first.result _ _ first.few first.known))))
