-- Two datoms are the same, and two lists of them.
use Rattle.std.proofs.Common.{◌≡◌, ◌∙◌, true, false, sym}
use Rattle.std.specs.Bool.{Decides}
use Rattle.std.specs.Cmp.{booleans_Decides}
use Rattle.std.proofs.lemmas.Bool.{true≢false, and_parts, and_from, eq-eqb}
use Rattle.fb_values.specs.declared.facts.Datom.{Datom}
use Rattle.fb_model.specs.Facts.{is_of}
use Rattle.backup_model.proofs.SameEntries.{datom_eq-Decides}

pub decides-no : {P : Type 0} → (P → ⊥) → Decides false P
decides-no never = ((λ is. absurd (true≢false (sym is))), (λ p. absurd (never p)))

pub same-datom : (d other : Datom) → is_of other.e other.a other.v d ≡ true → d.t ≡ other.t → d.added ≡ other.added → d ≡ other
same-datom d other triple t_is added_is =
    (datom_eq-Decides d other).0
    (and_from _ _ (and_from _ _ triple (eq-eqb d.t other.t t_is)) ((booleans_Decides d.added other.added).1 added_is))

pub other-triple : (d other : Datom) → is_of other.e other.a other.v d ≡ false → d ≡ other → ⊥
other-triple d other triple same =
    let parts = and_parts _ _ ((datom_eq-Decides d other).1 same) in
    true≢false (sym (and_parts _ _ parts.0).0 ∙ triple)
