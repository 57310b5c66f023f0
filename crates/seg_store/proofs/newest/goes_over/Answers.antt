use Rattle.std.proofs.Common.{ℕ, List, ◌++◌, ◌∷◌, [], subst, sym}
use Rattle.disk_model.specs.Journal.{segments_mark}
use Rattle.fb_journal.specs.Readings.{IsFront}
use Rattle.seg_store.proofs.newest.goes_over.Goals as goal

pub returns-in-Ok-None-clause-read : goal.returns-in-Ok-None-clause-read
returns-in-Ok-None-clause-read g c = λ disk records read. (records, c.front.ensures.stays segments_mark disk records read)

pub returns-in-Ok-None-2-clause-read : goal.returns-in-Ok-None-2-clause-read
returns-in-Ok-None-2-clause-read g c = λ disk records read. (records, c.front.ensures.stays segments_mark disk records read)

pub returns-in-Err-Disk-clause-read : goal.returns-in-Err-Disk-clause-read
returns-in-Err-Disk-clause-read g c = λ disk records read. (records, c.front.ensures.stays segments_mark disk records read)

pub returns-in-Err-Memory-clause-read : goal.returns-in-Err-Memory-clause-read
returns-in-Err-Memory-clause-read g c = λ disk records read. (records, c.front.ensures.stays segments_mark disk records read)

pub returns-clause-read : goal.returns-clause-read
returns-clause-read g c = λ disk records read.
    let front = rw c.in-Ok-Some.field-0-is at c.in-Ok-Some.ensures.front in
    let went = c.pass.ensures.passed in
    let bytes : List ℕ = c.as_slice-bytes.result.now in (
      records ++ (bytes ++ went.0) ∷ [],
      went.1 segments_mark disk records (c.front.ensures.stays segments_mark disk records read)
          (subst (IsFront g.D.Disk.bytes c.front.new.self c.in-Ok-Some.next) (sym c.as_slice-bytes.ensures.value)
          (front segments_mark disk records read).0),
    )
