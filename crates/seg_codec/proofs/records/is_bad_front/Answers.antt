use Rattle.std.proofs.Common.{sym, subst, ◌∙◌}
use Rattle.seg_codec.specs.InFile.{AreWhole}
use Rattle.seg_codec.proofs.RecordFields.{grown_cut, grown_merged}
use Rattle.seg_codec.proofs.records.is_bad_front.Goals as goal
use Rattle.seg_codec.proofs.records.is_bad_front.Goals.{in-Ok, in-Err}

pub cut-requires : goal.cut-requires
cut-requires c =
    subst AreWhole
    (sym (grown_cut c.args.nodes.now c.read_record.new.nodes c.counts-known.result.leaves c.counts-known.result.directories
    (grown_merged c.args.wanted.now c.args.nodes.now c.read_record.new.nodes _ _ _ c.in-Ok.ensures) c.counts-known.ensures.leaves
    c.counts-known.ensures.directories))
    c.counts-known.ensures.whole

pub returns-clause-stays : goal.returns-clause-stays
returns-clause-stays c =
    elim c.match-read_record.branch [
      | in-Ok w ↦ w.nodes-is
          ∙ w.cut.ensures
          ∙ grown_cut c.args.nodes.now c.read_record.new.nodes c.counts-known.result.leaves c.counts-known.result.directories
          (grown_merged c.args.wanted.now c.args.nodes.now c.read_record.new.nodes _ _ _ w.in-Ok.ensures) c.counts-known.ensures.leaves
          c.counts-known.ensures.directories
      | in-Err w ↦ w.nodes-is
          ∙ w.cut-in-Err.ensures
          ∙ grown_cut c.args.nodes.now c.read_record.new.nodes c.counts-known.result.leaves c.counts-known.result.directories
          w.in-Err.ensures.0 c.counts-known.ensures.leaves c.counts-known.ensures.directories
    ]
