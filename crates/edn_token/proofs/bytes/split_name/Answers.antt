use Rattle.edn_model.specs.Bytes.{is_name_byte}
use Rattle.edn_token.proofs.Splits.{run_fits, run_split}
use Rattle.edn_token.proofs.bytes.split_name.Goals as goal

pub split_at-requires : goal.split_at-requires
split_at-requires c = run_fits is_name_byte c.args.bytes.now _ c.name_len.ensures

pub returns : goal.returns
returns c = run_split is_name_byte c.args.bytes.now _ _ _ c.name_len.ensures c.split_at.ensures.front c.split_at.ensures.back
