use Rattle.std.proofs.Common.{ℕ, List, [], ◌∷◌, ◌++◌, subst}
use Rattle.disk_model.specs.Journal.{segments_mark}
use Rattle.seg_store.specs.Finding.{HasFound}
use Rattle.seg_store.proofs.Finding.{found_all, found_broken}
use Rattle.seg_store.proofs.loads.find.Goals as goal

pub returns-in_ok-add-in-Ok-Some-clause-record : goal.returns-in_ok-add-in-Ok-Some-clause-record
returns-in_ok-add-in-Ok-Some-clause-record g c = λ more.
    let went = rw c.in-Ok-Some.field-0-is at c.in-Ok-Some.ensures.record in
    let stays = c.in_ok-pass.ensures.stays c.if-branch.false in (
      c.next.new.payload.items,
      λ records. (
        (λ disk read. (went segments_mark disk records ((stays records).0 disk read)).0),
        (λ wanted has. subst (λ (p : List ℕ). HasFound wanted (records ++ p ∷ []) c.add.new.self) c.deref.ensures.value
            (c.in_ok-add-in-Ok-Some.ensures wanted records ((stays records).1 wanted has))),
      ),
    )

pub returns-in-Ok-None-clause-end : goal.returns-in-Ok-None-clause-end
returns-in-Ok-None-clause-end g c = λ none wanted disk records read has.
    let d = g.D.Disk in
    let stays = c.in_ok-pass.ensures.stays c.if-branch.false records in
    let ended = rw c.in-Ok-None.field-0-is at c.in-Ok-None.ensures.end in
    found_all d.bytes d.images d.moment d.images_since wanted disk records c.next.new.self c.pass.new.found (stays.1 wanted has)
    (ended segments_mark disk records (stays.0 disk read))

pub returns-in-Err-BadLog-clause-end : goal.returns-in-Err-BadLog-clause-end
returns-in-Err-BadLog-clause-end g c = λ none wanted disk records read has.
    let d = g.D.Disk in
    let stays = c.in_ok-pass.ensures.stays c.if-branch.false records in
    let why = (rw c.in-Err-BadLog.field-0-is at c.in-Err-BadLog.ensures.why_not) segments_mark disk records (stays.0 disk read) in
    found_broken d.bytes d.images d.moment d.images_since wanted disk records c.next.new.self c.pass.new.found (stays.1 wanted has)
    c.in-Err-BadLog.field-0-0 c.in-Err-BadLog.field-0-1 why.0 why.1
