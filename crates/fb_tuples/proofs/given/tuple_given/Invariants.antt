-- The members so far, and then those that are left.
use Rattle.std.proofs.Common.{◌≡◌, ◌++◌, drop, option_map}
use Rattle.edn_form.specs.View.{forms_of}
use Rattle.tuple_model.specs.Given.{kinds_of, members_in}
use Rattle.fb_tuples.proofs.given.tuple_given.Given as goal

abbrev pub invariant-loop-place : goal.invariant-loop-place
invariant-loop-place l =
    members_in (kinds_of l.fn.schema l.fn.attrs) (forms_of l.fn.members)
    ≡ option_map (λ rest. l.tuple.items ++ rest)
    (members_in (kinds_of l.fn.schema (drop l.place l.fn.attrs)) (forms_of (drop l.place l.fn.members)))
