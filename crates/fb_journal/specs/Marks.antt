-- Which mark a journal begins with.
-- This project's own choice.
use Rattle.std.specs.Prelude.{ℕ, List}
use Rattle.disk_model.specs.Journal.{log_mark, segments_mark}
use Rattle.fb_journal.specs.declared.marks.Mark.{Mark}
use Rattle.fb_journal.specs.declared.marks.Mark.TheVariants.{Log, Segments}

abbrev pub mark_bytes : Mark → List ℕ
mark_bytes Log = log_mark
mark_bytes Segments = segments_mark
