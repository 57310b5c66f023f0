use Rattle.std.proofs.Common.{codes, refl, inr, inl, lit<}
use Rattle.edn_model.specs.Tokens.{IsDecimal, positive, negative}
use Rattle.edn_model.specs.Grammar.{atom}
use Rattle.edn_model.proofs.worked.integers.Goals as goal

pub returns-clause-plus : goal.returns-clause-plus
returns-clause-plus c =
    let seven : IsDecimal 7 (codes "7") = record { some = lit< tt; each = refl; leading = inr refl; is = refl } in
    atom (codes "+7") (positive refl seven refl, refl) refl refl

pub returns-clause-minus_zero : goal.returns-clause-minus_zero
returns-clause-minus_zero c =
    let nothing : IsDecimal 0 (codes "0") = record { some = lit< tt; each = refl; leading = inl refl; is = refl } in
    atom (codes "-0") (negative refl nothing refl, refl) refl refl
