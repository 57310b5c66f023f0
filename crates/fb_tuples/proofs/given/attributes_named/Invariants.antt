-- The attributes so far, and then those that are left.
use Rattle.std.proofs.Common.{◌≡◌, ◌++◌, drop, option_map}
use Rattle.edn_form.specs.View.{forms_of}
use Rattle.fb_tuples.specs.Reading.{ids_in}
use Rattle.fb_tuples.proofs.given.attributes_named.Given as goal

abbrev pub invariant-loop-name : goal.invariant-loop-name
invariant-loop-name l =
    ids_in l.fn.schema (forms_of l.fn.names)
    ≡ option_map (λ ids. l.attrs.items ++ ids) (ids_in l.fn.schema (forms_of (drop l.name-index l.fn.names)))
