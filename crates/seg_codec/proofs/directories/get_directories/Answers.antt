use Rattle.std.proofs.Common.{sym, subst, ap}
use Rattle.log_model.specs.Fields.{and_then}
use Rattle.log_model.specs.Nodes.{with_directory}
use Rattle.log_model.specs.Merges.{several_over, read_directory}
use Rattle.seg_codec.specs.Answers.{Adds}
use Rattle.seg_codec.proofs.directories.get_directories.Goals as goal

pub returns : goal.returns
returns c =
    subst (Adds with_directory c.args.bytes.now c.args.nodes.now c.add_directories.new.nodes c.add_directories.result)
    (sym (ap (λ r. and_then r
    (several_over read_directory with_directory c.args.nodes.now)) c.in_ok-count.ensures.1)) c.add_directories.ensures
