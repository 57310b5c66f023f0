use Rattle.std.proofs.Common.{[], ◌∷◌}
use Rattle.fb_journal.specs.Marks.{mark_bytes}
use Rattle.test_files.proofs.fb_journal_tests.reopened.Goals as goal

pub finish-requires : goal.finish-requires
finish-requires c =
    let mark = mark_bytes c.args.mark in
    let went = rw c.in-Ok-Some.field-0-is at c.in-Ok-Some.ensures.record in
    let one = went mark c.args.disk [] c.in-Ok.ensures.begins in
    let ended = rw c.in-Ok-None.field-0-is at c.in-Ok-None.ensures.end in
    (mark, c.args.disk, c.next.new.payload.items ∷ [], ended mark c.args.disk (c.next.new.payload.items ∷ []) one.0)
