use Rattle.std.proofs.Common.{sym, subst, ◌∙◌}
use Rattle.seg_codec.specs.InFile.{AreWhole}
use Rattle.seg_codec.proofs.RecordFields.{grown_cut}
use Rattle.seg_codec.proofs.records.record_of.Goals as goal

pub cut-requires : goal.cut-requires
cut-requires c =
    subst AreWhole
    (sym (grown_cut c.args.nodes.now c.read_record.new.nodes c.counts-known.result.leaves c.counts-known.result.directories
    c.in-Err.ensures.0 c.counts-known.ensures.leaves c.counts-known.ensures.directories))
    c.counts-known.ensures.whole

pub returns-in-Err : goal.returns-in-Err
returns-in-Err c = (
  c.cut.ensures
      ∙ grown_cut c.args.nodes.now c.read_record.new.nodes c.counts-known.result.leaves c.counts-known.result.directories
      c.in-Err.ensures.0 c.counts-known.ensures.leaves c.counts-known.ensures.directories,
  c.in-Err.ensures.1,
)
