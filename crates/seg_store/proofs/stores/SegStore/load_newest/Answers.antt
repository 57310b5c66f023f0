use Rattle.std.proofs.lemmas.Result.{IfOk-weaker}
use Rattle.seg_store.specs.Stores.{disk_in}
use Rattle.seg_store.specs.Loads.{store_in}
use Rattle.seg_store.proofs.Opening.{known_opened, newest_opened}
use Rattle.seg_store.proofs.stores.SegStore.load_newest.Goals as goal

pub whole_from-requires : goal.whole_from-requires
whole_from-requires g c = (c.args.disk, (rw c.in-Empty.is at c.in_ok-file.ensures.first))

pub returns-in-Empty-clause-newest : goal.returns-in-Empty-clause-newest
returns-in-Empty-clause-newest g c =
    IfOk-weaker c.whole_from.result _ _ (λ newest is. is c.args.disk (rw c.in-Empty.is at c.in_ok-file.ensures.first)) c.whole_from.ensures.newest

pub returns-in-Empty-clause-known : goal.returns-in-Empty-clause-known
returns-in-Empty-clause-known g c =
    IfOk-weaker c.whole_from.result _ _ (λ newest is. is c.args.disk (rw c.in-Empty.is at c.in_ok-file.ensures.first)) c.whole_from.ensures.known

pub returns-in-Several-clause-newest : goal.returns-in-Several-clause-newest
returns-in-Several-clause-newest g c =
    let d = g.D.Disk in
    let told = d.bytes c.args.disk in
    let begun = d.bytes c.in-Several.begun in
    IfOk-weaker c.newest_of_several.result _ _
    (λ newest is. newest_opened d.bytes d.images told begun (rw c.in-Several.is at c.in_ok-file.ensures.first) newest is)
    c.newest_of_several.ensures.newest

pub returns-in-Several-clause-known : goal.returns-in-Several-clause-known
returns-in-Several-clause-known g c =
    let d = g.D.Disk in
    let told = d.bytes c.args.disk in
    let begun = d.bytes c.in-Several.begun in
    IfOk-weaker c.newest_of_several.result _ _
    (λ newest later. known_opened told begun (d.bytes (disk_in (store_in newest))) (rw c.in-Several.is at c.in_ok-file.ensures.first) later)
    c.newest_of_several.ensures.known

pub returns-in-Other-clause-newest : goal.returns-in-Other-clause-newest
returns-in-Other-clause-newest g c =
    let d = g.D.Disk in
    let told = d.bytes c.args.disk in
    let begun = d.bytes c.in-Other.begun in
    IfOk-weaker c.newest_with.result _ _
    (λ newest is. newest_opened d.bytes d.images told begun (rw c.in-Other.is at c.in_ok-file.ensures.first) newest is)
    c.newest_with.ensures.newest

pub returns-in-Other-clause-known : goal.returns-in-Other-clause-known
returns-in-Other-clause-known g c =
    let d = g.D.Disk in
    let told = d.bytes c.args.disk in
    let begun = d.bytes c.in-Other.begun in
    IfOk-weaker c.newest_with.result _ _
    (λ newest later. known_opened told begun (d.bytes (disk_in (store_in newest))) (rw c.in-Other.is at c.in_ok-file.ensures.first) later)
    c.newest_with.ensures.known
