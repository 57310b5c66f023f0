use Rattle.std.proofs.Common.{◌≡◌, ℕ, eqb, take}
use Rattle.std.specs.List.{list_any}
use Rattle.std.specs.Map.{keys_of}
use Rattle.fb_covers.proofs.set_of.Given as goal

-- the set has the attributes so far
abbrev pub invariant-loop-a : goal.invariant-loop-a
invariant-loop-a l = (a : ℕ) → list_any (λ b. eqb a b) (keys_of l.set) ≡ list_any (λ b. eqb a b) (take l.a-index l.attributes)
