use Rattle.std.proofs.Common.{◌≡◌, take, filter}
use Rattle.fb_model.specs.Schema.{is_unique}
use Rattle.log_sweep.specs.Groups.{lent}
use Rattle.log_sweep.proofs.gathered.unique_ones.Given as goal

abbrev pub invariant-loop-d : goal.invariant-loop-d
invariant-loop-d l = lent l.list.items ≡ filter (λ d. is_unique l.fn.schema d.a) (lent (take l.d-index l.fn.datoms))
