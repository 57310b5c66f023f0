-- A plain value is of the type already.
use Rattle.std.proofs.Common.{rules}
use Rattle.fb_tuples.proofs.Reading.{plain_value}
use Rattle.fb_tuples.proofs.given.value_given.Goals as goal

pub returns : goal.returns
returns c = search (rules, plain_value)
