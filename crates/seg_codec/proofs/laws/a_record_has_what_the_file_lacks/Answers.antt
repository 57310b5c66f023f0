-- By the lemmas on what a record adds.
use Rattle.seg_codec.proofs.Kept.{trees_there, same_ids}
use Rattle.seg_codec.proofs.LackingIds.{ids_behind}
use Rattle.seg_codec.proofs.Over.{record_over}
use Rattle.seg_codec.proofs.laws.a_record_has_what_the_file_lacks.Goals as goal

pub returns : goal.returns
returns c = record { record_of = record_over; trees = trees_there; ids = same_ids; grown = ids_behind }
