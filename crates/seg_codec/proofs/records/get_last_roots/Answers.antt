use Rattle.std.proofs.Common.{drop}
use Rattle.std.proofs.lemmas.Result.{err_from_is_err_and}
use Rattle.log_model.specs.Merges.{read_roots}
use Rattle.seg_codec.specs.Answers.{ids_of}
use Rattle.seg_codec.proofs.Passing.{roots_pass, more_behind, none_behind}
use Rattle.seg_codec.proofs.SeveralOver.{end_misses}
use Rattle.seg_codec.proofs.records.get_last_roots.Goals as goal

pub returns-in_err-ids : goal.returns-in_err-ids
returns-in_err-ids c =
    let exit = err_from_is_err_and c.from_residual.result c.from_residual.ensures.1 in
    rw (exit.1, exit.2) (end_misses c.args.payload.now _ (read_roots c.args.nodes.now
    (drop c.args.at c.args.payload.now)) c.in_err-ids.ensures)

pub returns-then-end-payload : goal.returns-then-end-payload
returns-then-end-payload c =
    rw c.misfit.ensures (
      c.in_ok-ids.ensures.0,
      more_behind c.args.payload.now c.in_ok-ids.end (ids_of c.in_ok-ids.ids)
          (read_roots c.args.nodes.now (drop c.args.at c.args.payload.now)) c.if-end-payload.true c.in_ok-ids.ensures.1,
    )

pub trees-requires : goal.trees-requires
trees-requires c = roots_pass c.args.nodes.now (drop c.args.at c.args.payload.now) (ids_of c.in_ok-ids.ids)
    (drop c.in_ok-ids.end c.args.payload.now) c.in_ok-ids.ensures.1

pub returns : goal.returns
returns c = (
  ids_of c.in_ok-ids.ids,
  none_behind c.args.payload.now c.in_ok-ids.end (ids_of c.in_ok-ids.ids)
      (read_roots c.args.nodes.now (drop c.args.at c.args.payload.now)) c.if-end-payload.false c.in_ok-ids.ensures.1,
  c.in_ok-trees.ensures,
)
