use Rattle.std.proofs.Common.{◌≡◌, not, drop}
use Rattle.std.specs.List.{find, list_any}
use Rattle.fb_model.specs.Facts.{is_of}
use Rattle.tx_after.proofs.said.first_untold.Given as goal

abbrev pub invariant-loop-v : goal.invariant-loop-v
invariant-loop-v l =
    find (λ v. not (list_any (is_of l.e l.a v) l.changes)) (drop l.v-index l.values)
    ≡ find (λ v. not (list_any (is_of l.e l.a v) l.changes)) l.values
