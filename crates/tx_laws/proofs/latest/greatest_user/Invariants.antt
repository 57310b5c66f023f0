use Rattle.std.proofs.Common.{◌≡◌, drop, max}
use Rattle.fb_model.specs.History.{users_in}
use Rattle.tx_laws.proofs.latest.greatest_user.Given as goal

abbrev pub invariant-loop-d : goal.invariant-loop-d
invariant-loop-d l = max l.users (users_in (drop l.d-index l.datoms)) ≡ max l.least (users_in l.datoms)
