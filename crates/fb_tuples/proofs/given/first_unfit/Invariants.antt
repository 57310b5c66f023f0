-- The attributes before are fit.
use Rattle.std.proofs.Common.{◌≡◌, [], take, drop}
use Rattle.tuple_model.specs.Composite.{first_unfit}
use Rattle.fb_tuples.proofs.given.first_unfit.Given as goal

abbrev pub invariant-loop-place : goal.invariant-loop-place
invariant-loop-place l =
    first_unfit l.fn.schema [] l.fn.attrs ≡ first_unfit l.fn.schema (take l.place l.fn.attrs) (drop l.place l.fn.attrs)
