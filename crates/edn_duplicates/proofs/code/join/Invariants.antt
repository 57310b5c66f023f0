use Rattle.std.proofs.Common.{◌≡◌, ◌++◌, map, vec_items, flat_map}
use Rattle.edn_duplicates.proofs.code.join.Given as goal

abbrev pub invariant-loop-part : goal.invariant-loop-part
invariant-loop-part l = l.tokens.items ≡ l.initial.tokens.items ++ flat_map (λ p. p) (map vec_items l.yielded)
