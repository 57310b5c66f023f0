use Rattle.std.proofs.lemmas.Result.{IfOk-weaker}
use Rattle.seg_store.specs.Stores.{disk_in}
use Rattle.seg_store.specs.Loads.{store_in}
use Rattle.seg_store.proofs.Opening.{known_opened, newest_opened}
use Rattle.seg_store.proofs.newest.newest_of_several.Goals as goal

pub returns-clause-newest : goal.returns-clause-newest
returns-clause-newest g c =
    let d = g.D.Disk in
    let told = d.bytes c.args.disk in
    let read = d.bytes c.in_ok-wanted.read in
    IfOk-weaker c.newest_with.result _ _
    (λ newest is. newest_opened d.bytes d.images told read c.in_ok-wanted.ensures.opened newest is)
    c.newest_with.ensures.newest

pub returns-clause-known : goal.returns-clause-known
returns-clause-known g c =
    let d = g.D.Disk in
    let told = d.bytes c.args.disk in
    let read = d.bytes c.in_ok-wanted.read in
    IfOk-weaker c.newest_with.result _ _
    (λ newest later. known_opened told read (d.bytes (disk_in (store_in newest))) c.in_ok-wanted.ensures.opened later)
    c.newest_with.ensures.known
