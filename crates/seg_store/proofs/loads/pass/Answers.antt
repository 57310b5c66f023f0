use Rattle.std.proofs.Common.{ℕ, List, ◌++◌, subst, sym}
use Rattle.disk_model.specs.Journal.{segments_mark}
use Rattle.fb_journal.specs.Readings.{IsFront}
use Rattle.seg_store.proofs.loads.pass.Goals as goal

pub returns-in-Ok-None-clause-stays : goal.returns-in-Ok-None-clause-stays
returns-in-Ok-None-clause-stays g c = λ none records. ((λ disk read. c.front.ensures.stays segments_mark disk records read), (λ wanted has. has))

pub returns-in-Ok-None-2-clause-stays : goal.returns-in-Ok-None-2-clause-stays
returns-in-Ok-None-2-clause-stays g c = λ none records. ((λ disk read. c.front.ensures.stays segments_mark disk records read), (λ wanted has. has))

pub returns-then-not-branch-clause-stays : goal.returns-then-not-branch-clause-stays
returns-then-not-branch-clause-stays g c = λ none records. (
  (λ disk read. c.front.ensures.stays segments_mark disk records read),
  (λ wanted has. c.in_ok-pass.ensures.stays c.if-not-branch.true wanted records has),
)

pub returns-clause-record : goal.returns-clause-record
returns-clause-record g c = λ passes.
    let front = rw c.in-Ok-Some.field-0-is at c.in-Ok-Some.ensures.front in
    let went = c.pass-2.ensures.passed in
    let bytes : List ℕ = c.as_slice-bytes.result.now in (
      bytes ++ went.0,
      λ records. (
        (λ disk read.
            went.1 segments_mark disk records (c.front.ensures.stays segments_mark disk records read)
            (subst (IsFront g.D.Disk.bytes c.front.new.self c.in-Ok-Some.next) (sym c.as_slice-bytes.ensures.value)
            (front segments_mark disk records read).0)),
        (λ wanted has. c.in_ok-pass.ensures.added c.if-not-branch.false went.0 wanted records has),
      ),
    )
