use Rattle.disk_model.specs.Journal.{segments_mark}
use Rattle.seg_store.proofs.newest.has_none.Goals as goal

pub returns-in-Ok-clause-stays : goal.returns-in-Ok-clause-stays
returns-in-Ok-clause-stays g c = λ disk records read. c.front.ensures.stays segments_mark disk records read

pub returns-in-Err-BadLog-clause-stays : goal.returns-in-Err-BadLog-clause-stays
returns-in-Err-BadLog-clause-stays g c = λ disk records read. c.front.ensures.stays segments_mark disk records read

pub returns-in-Err-Disk-clause-stays : goal.returns-in-Err-Disk-clause-stays
returns-in-Err-Disk-clause-stays g c = λ disk records read. c.front.ensures.stays segments_mark disk records read

pub returns-clause-stays : goal.returns-clause-stays
returns-clause-stays g c = λ disk records read. c.front.ensures.stays segments_mark disk records read
