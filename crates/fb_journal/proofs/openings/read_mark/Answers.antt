use Rattle.std.proofs.Common.{◌∙◌}
use Rattle.fb_journal.specs.Windows.{Shows}
use Rattle.fb_journal.proofs.Appends.{length-mark_bytes}
use Rattle.fb_journal.proofs.Passing.{none-shown, marked-by}
use Rattle.fb_journal.proofs.openings.read_mark.Goals as goal

pub returns-then-starts_with-clause-file : goal.returns-then-starts_with-clause-file
returns-then-starts_with-clause-file g c = λ file told.
    let first : Shows file c.in_ok-window.window = record {
      len = c.in_ok-window.ensures.0 ∙ c.requires.len file told;
      bytes = none-shown file c.in_ok-window.window c.in_ok-window.ensures.1;
    } in
    let read = c.in_ok-read.ensures.read file told first in (
      marked-by file c.read.new.buf c.bytes.result.now _ c.if-starts_with.ensures.value read.1 c.bytes.ensures
          (length-mark_bytes c.args.mark),
      c.read.ensures.leaves.shows file told first,
    )
