-- Two entries are the same or not: a test tells.
use Rattle.std.proofs.Common.{inl, inr, ◌⊎◌, ◌≡◌, ◌≢◌, Bool, true, false, ◌&&◌, List, refl, ap, sym, ◌∙◌, subst, eqb}
use Rattle.std.specs.Bool.{Decides}
use Rattle.std.specs.Cmp.{booleans_Decides}
use Rattle.std.specs.Cmp.Lexicographic.{pointwise}
use Rattle.std.specs.Ordering.{int_eq}
use Rattle.std.proofs.Math.Bool.{beq}
use Rattle.std.proofs.lemmas.Bool.{true≢false, and_parts, and_from, eqb-true, eq-eqb}
use Rattle.std.proofs.lemmas.Bool.Decides.{Decides-int_eq}
use Rattle.std.proofs.lemmas.Slice.Eq.{slice_eq-Decides}
use Rattle.fb_values.specs.declared.facts.Datom.{Datom}
use Rattle.fb_values.specs.declared.facts.Entry.{Entry}
use Rattle.fb_model.specs.Facts.{is_of}
use Rattle.fb_model.proofs.Triples.{is_of-true, value_eq-refl}

abbrev pub datom_eq : Datom → Datom → Bool
datom_eq d other = is_of other.e other.a other.v d && eqb d.t other.t && beq d.added other.added

datom_eq-true : (d other : Datom) → datom_eq d other ≡ true → d ≡ other
datom_eq-true d other same =
    let parts = and_parts (is_of other.e other.a other.v d && eqb d.t other.t) (beq d.added other.added) same in
    let triple_and_t = and_parts (is_of other.e other.a other.v d) (eqb d.t other.t) parts.0 in
    let of = is_of-true other.e other.a other.v d triple_and_t.0 in
    let t_is = eqb-true d.t other.t triple_and_t.1 in
    let added_is = (booleans_Decides d.added other.added).0 parts.1 in
    λ i. record { e = of.e_is i; a = of.a_is i; v = of.v_is i; t = t_is i; added = added_is i }

datom_eq-refl : (d : Datom) → datom_eq d d ≡ true
datom_eq-refl d =
    and_from _ _
    (and_from _ _ (and_from _ _ (and_from _ _ (eq-eqb d.e d.e refl) (eq-eqb d.a d.a refl)) (value_eq-refl d.v)) (eq-eqb d.t d.t refl))
    ((booleans_Decides d.added d.added).1 refl)

pub datom_eq-Decides : (d other : Datom) → Decides (datom_eq d other) (d ≡ other)
datom_eq-Decides d other = (datom_eq-true d other, λ same. subst (λ x. datom_eq d x ≡ true) same (datom_eq-refl d))

pub datoms_eq-Decides : (ds others : List Datom) → Decides (pointwise datom_eq ds others) (ds ≡ others)
datoms_eq-Decides ds others = slice_eq-Decides datom_eq-Decides ds others (pointwise datom_eq ds others) refl

abbrev pub entry_eq : Entry → Entry → Bool
entry_eq first second = eqb first.t second.t && int_eq first.instant second.instant && pointwise datom_eq first.datoms second.datoms

entry_eq-true : (first second : Entry) → entry_eq first second ≡ true → first ≡ second
entry_eq-true first second same =
    let parts =
    and_parts (eqb first.t second.t && int_eq first.instant second.instant) (pointwise datom_eq first.datoms second.datoms) same in
    let numbers = and_parts (eqb first.t second.t) (int_eq first.instant second.instant) parts.0 in
    let t_is = eqb-true first.t second.t numbers.0 in
    let instant_is = (Decides-int_eq first.instant second.instant).0 numbers.1 in
    let datoms_are = (datoms_eq-Decides first.datoms second.datoms).0 parts.1 in
    λ i. record { t = t_is i; instant = instant_is i; datoms = datoms_are i }

entry_eq-refl : (entry : Entry) → entry_eq entry entry ≡ true
entry_eq-refl entry =
    and_from _ _ (and_from _ _ (eq-eqb entry.t entry.t refl) ((Decides-int_eq entry.instant entry.instant).1 refl))
    ((datoms_eq-Decides entry.datoms entry.datoms).1 refl)

pub same_or_not : (first second : Entry) → (first ≡ second) ⊎ (first ≢ second)
same_or_not first second = go (entry_eq first second) refl
  where
    go : (same : Bool) → entry_eq first second ≡ same → (first ≡ second) ⊎ (first ≢ second)
    go true is = inl (entry_eq-true first second is)
    go false is = inr (λ same. true≢false (sym (entry_eq-refl first) ∙ ap (entry_eq first) same ∙ is))
