use Rattle.std.proofs.Common.{◌∙◌, ap}
use Rattle.disk_model.specs.Journal.{segments_mark}
use Rattle.seg_store.proofs.Opening.{same_opened}
use Rattle.seg_store.proofs.newest.behind.Goals as goal

pub finish-journal-requires : goal.finish-journal-requires
finish-journal-requires g c = (segments_mark, c.requires.0, c.requires.1, c.requires.2.read)

pub invariant_of-store : goal.invariant_of-store
invariant_of-store g c =
    record { marked = (c.finish-journal.ensures.keeps segments_mark c.requires.0 c.requires.1 c.requires.2.read).1 }

pub returns-clause-newest : goal.returns-clause-newest
returns-clause-newest g c = λ disk records rooted opened.
    let d = g.D.Disk in record {
      read = records;
      file = rooted.records_are;
      older = rooted.older;
      roots = rooted.roots;
      ids = rooted.tree_ids;
      there = rooted.there;
      store = record {
        journal = (c.finish-journal.ensures.keeps segments_mark disk records rooted.read).0;
        good = rooted.good;
        ids = rooted.ids;
      };
      same = λ file was.
          ap d.bytes c.finish-journal.ensures.disk
          ∙ same_opened (d.bytes disk) _ records rooted.older _ opened rooted.records_are rooted.roots file was;
    }
