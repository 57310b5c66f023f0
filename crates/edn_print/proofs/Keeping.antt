-- What stands in front of the old bytes stands in front of the new ones.
use Rattle.std.proofs.Common.{◌≡◌, ℕ, Bool, true, false, List, [], ◌∷◌, ◌++◌, refl, sym, subst}
use Rattle.std.specs.Prelude.{if◌then◌else◌}
use Rattle.std.specs.Io.{StartsWith}
use Rattle.edn_model.proofs.Runs.{heads, tails}
use Rattle.edn_print.specs.Printed.{KeepsFront}

starts_longer : (old more front : List ℕ) → StartsWith old front → StartsWith (old ++ more) front
starts_longer old more [] h = refl
starts_longer [] more (f ∷ front) h = cc
starts_longer (b ∷ old) more (f ∷ front) h =
    let first = heads h in
    let rest = starts_longer old more front (tails h) in
    cc

pub keeps_either : (appended : Bool) (old more new : List ℕ) → new ≡ (if appended then old ++ more else old) → KeepsFront old new
keeps_either true old more new e front h = subst (λ (z : List ℕ). StartsWith z front) (sym e) (starts_longer old more front h)
keeps_either false old more new e front h = subst (λ (z : List ℕ). StartsWith z front) (sym e) h
