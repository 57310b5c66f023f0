use Rattle.std.proofs.Common.{is_ok}
use Rattle.edn_print.proofs.Keeping.{keeps_either}
use Rattle.edn_print.proofs.token.append.Goals as goal

pub returns-clause-kept : goal.returns-clause-kept
returns-clause-kept c =
    keeps_either (is_ok c.extend_from_slice.result) c.args.out.now.items c.args.bytes.now _ c.extend_from_slice.ensures.items
