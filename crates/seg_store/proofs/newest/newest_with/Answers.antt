use Rattle.std.proofs.Common.{ap, ◌∙◌}
use Rattle.seg_store.proofs.Opening.{known_opened, keeps_opened, loaded_opened, opened_back}
use Rattle.seg_store.proofs.newest.newest_with.Goals as goal

pub returns-in-Err-clause-newest : goal.returns-in-Err-clause-newest
returns-in-Err-clause-newest g c =
    let here = c.in_ok-loaded-in-Err.ensures.loaded (g.D.Disk.bytes c.args.disk) c.in-Err.ensures.why_not in
    (here, (λ file told. (here.read, here.file file told, here.kept.roots)))

pub returns-in-Err-clause-known : goal.returns-in-Err-clause-known
returns-in-Err-clause-known g c = c.in_ok-loaded-in-Err.ensures.known (g.D.Disk.bytes c.args.disk) c.in-Err.ensures.bytes

pub behind-requires : goal.behind-requires
behind-requires g c =
    let rooted = rw c.in-Ok-Some.field-0-is at c.in-Ok-Some.ensures.rooted in
    let has = rooted c.args.disk c.in-Ok.ensures.begins in
    (c.args.disk, has.0, has.1)

pub returns-in-Ok-Some-clause-newest : goal.returns-in-Ok-Some-clause-newest
returns-in-Ok-Some-clause-newest g c =
    let rooted = rw c.in-Ok-Some.field-0-is at c.in-Ok-Some.ensures.rooted in
    let has = rooted c.args.disk c.in-Ok.ensures.begins in
    c.behind.ensures.newest c.args.disk has.0 has.1 (c.in-Ok-Some.ensures.opened c.args.disk c.in-Ok.ensures.begins)

pub returns-in-Ok-Some-clause-known : goal.returns-in-Ok-Some-clause-known
returns-in-Ok-Some-clause-known g c = λ file was.
    let begun = c.in-Ok-Some.ensures.opened c.args.disk c.in-Ok.ensures.begins file was in
    (begun.0, ap g.D.Disk.bytes c.behind.ensures.disk ∙ begun.1)

pub returns-in_ok-loaded-in-Ok-None-clause-newest : goal.returns-in_ok-loaded-in-Ok-None-clause-newest
returns-in_ok-loaded-in-Ok-None-clause-newest g c =
    let d = g.D.Disk in
    let opened = opened_back d.bytes (d.bytes c.args.disk) _ _ c.give_back.ensures
    (c.in-Ok-None.ensures.opened c.args.disk c.in-Ok.ensures.begins) in (
      loaded_opened d.bytes d.images (d.bytes c.args.disk) _ opened c.in_ok-loaded-in-Ok-None.loaded c.in_ok-loaded-in-Ok-None.ensures.loaded,
      keeps_opened (d.bytes c.args.disk) _ _ opened c.in_ok-loaded-in-Ok-None.ensures.kept,
    )

pub returns-in_ok-loaded-in-Ok-None-clause-known : goal.returns-in_ok-loaded-in-Ok-None-clause-known
returns-in_ok-loaded-in-Ok-None-clause-known g c =
    let d = g.D.Disk in
    let opened = opened_back d.bytes (d.bytes c.args.disk) _ _ c.give_back.ensures
    (c.in-Ok-None.ensures.opened c.args.disk c.in-Ok.ensures.begins) in
    known_opened (d.bytes c.args.disk) _ _ opened c.in_ok-loaded-in-Ok-None.ensures.known
