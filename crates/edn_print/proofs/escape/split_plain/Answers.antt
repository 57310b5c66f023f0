use Rattle.edn_print.proofs.Escapes.{run_fits, run_split}
use Rattle.edn_print.proofs.escape.split_plain.Goals as goal

pub split_at-requires : goal.split_at-requires
split_at-requires c = run_fits c.args.bytes.now _ c.plain_len.ensures

pub returns : goal.returns
returns c = run_split c.args.bytes.now _ _ _ c.plain_len.ensures c.split_at.ensures.front c.split_at.ensures.back
