-- The attributes so far, and then those that are left.
use Rattle.std.proofs.Common.{◌≡◌, ◌++◌, drop, option_map}
use Rattle.tuple_model.specs.Composite.{attributes_named}
use Rattle.fb_tuple_guard.proofs.named.attributes_named.Given as goal

abbrev pub invariant-loop-name : goal.invariant-loop-name
invariant-loop-name l =
    attributes_named l.fn.schema l.fn.names
    ≡ option_map (λ ids. l.attrs.items ++ ids) (attributes_named l.fn.schema (drop l.name-index l.fn.names))
