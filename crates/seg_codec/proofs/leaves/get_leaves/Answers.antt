use Rattle.std.proofs.Common.{sym, subst, ap}
use Rattle.log_model.specs.Fields.{and_then}
use Rattle.log_model.specs.Merges.{several_over, read_leaf}
use Rattle.seg_codec.specs.Wanted.{with_held}
use Rattle.seg_codec.specs.Answers.{Adds}
use Rattle.seg_codec.proofs.leaves.get_leaves.Goals as goal

pub returns : goal.returns
returns c =
    subst (Adds (with_held c.args.wanted.now) c.args.bytes.now c.args.nodes.now c.add_leaves.new.nodes c.add_leaves.result)
    (sym (ap (λ r. and_then r (several_over
    (read_leaf c.args.format) (with_held c.args.wanted.now) c.args.nodes.now)) c.in_ok-count.ensures.1)) c.add_leaves.ensures
