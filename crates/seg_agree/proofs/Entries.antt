-- A datom of a lawful history is one of the entry of its transaction.
use Rattle.std.proofs.Common.{◌≡◌, ℕ, zero, suc, ◌+◌, ◌<◌, ◌≤◌, true, List, [], ◌∷◌, ◌++◌, length, take, refl, sym, ap, ◌∙◌, subst, arith}
use Rattle.std.proofs.Common.{inl, inr, ◌⊎◌, Some, eqb, leb}
use Rattle.std.specs.Prelude.{Contains}
use Rattle.std.specs.List.{slice_get}
use Rattle.std.proofs.lemmas.Bool.{and_parts, eqb-true, leb-true, le-leb}
use Rattle.std.proofs.lemmas.List.Elements.{Contains-append_cases, Contains-append_left, Contains-append_right}
use Rattle.fb_values.specs.declared.facts.Datom.{Datom}
use Rattle.fb_values.specs.declared.facts.Entry.{Entry}
use Rattle.fb_values.specs.declared.indexes.Order.TheVariants.{Eavt}
use Rattle.fb_values.specs.Rising.{rises, IsRising}
use Rattle.fb_values.proofs.Rising.{rising_from}
use Rattle.fb_model.specs.FirstEntry.{first_entry}
use Rattle.fb_model.specs.History.{basis, said, upto}
use Rattle.fb_model.specs.Lawful.{IsLawful, IsLawfulAfter}
use Rattle.fb_model.proofs.OneMoreEntry.{said-push}
use Rattle.fb_model.proofs.LawfulHistories.{IsLawful-length}
use Rattle.fb_model.proofs.Invariants.{of_lawful}
use Rattle.fb_model.proofs.Members.{none_of, member_passes, kept, keep}
use Rattle.fb_model.proofs.Times.{own_t, said_t, said-upto}
use Rattle.fb_schema.specs.Described.{SchemaStands}

-- ---- the entry at a place

place_cases : (h : List Entry) (last : Entry) (place : ℕ) (entry : Entry) → slice_get (h ++ last ∷ []) place ≡ Some entry
    → ((place < length h) × (slice_get h place ≡ Some entry)) ⊎ ((place ≡ length h) × (last ≡ entry))
place_cases [] last zero entry is = inr (refl, cc)
place_cases [] last (suc place) entry is = absurd (cc)
place_cases (x ∷ h) last zero entry is = inl (omega arith, is)
place_cases (x ∷ h) last (suc place) entry is =
    elim (place_cases h last place entry is) [
      | inl early ↦ inl (omega (arith, early.0), early.1)
      | inr late ↦ inr (ap suc late.0, late.1)
    ]

only_one : (first : Entry) (place : ℕ) (entry : Entry) → slice_get (first ∷ []) place ≡ Some entry → first ≡ entry
only_one first zero entry is = cc
only_one first (suc place) entry is = absurd (cc)

no_more : (d : Datom) (ds : List Datom) → Contains (ds ++ []) d → Contains ds d
no_more d ds member = elim (Contains-append_cases ds [] d member) [ inl here ↦ here | inr later ↦ absurd (none_of d later) ]

-- ---- what the entries say

Said : List Entry → Type 0
Said h = (d : Datom) → Contains (said h) d → (entry : Entry) → slice_get h d.t ≡ Some entry → Contains entry.datoms d

said_next : (h : List Entry) (last : Entry) → IsLawful h → Said h → IsLawfulAfter h last → Said (h ++ last ∷ [])
unfolding Said
said_next h last lawful before next d member entry is =
    go (place_cases h last d.t entry is)
    (Contains-append_cases (said h) last.datoms d (subst (λ ds. Contains ds d) (said-push h last) member))
  where
    counted : length h ≡ basis h + 1
    counted = IsLawful-length h lawful

    early_t : Contains (said h) d → d.t ≤ basis h
    early_t early = leb-true d.t (basis h) (member_passes (λ x. leb x.t (basis h)) (said h) d (said_t h lawful) early)

    late_t : Contains last.datoms d → d.t ≡ basis h + 1
    late_t late = eqb-true d.t (basis h + 1) (member_passes (λ x. eqb x.t (basis h + 1)) last.datoms d (own_t h last next) late)

    go : ((d.t < length h) × (slice_get h d.t ≡ Some entry)) ⊎ ((d.t ≡ length h) × (last ≡ entry))
        → Contains (said h) d ⊎ Contains last.datoms d → Contains entry.datoms d
    go (inl at) (inl early) = before d early entry at.1
    go (inl at) (inr late) = absurd (omega (arith, counted, late_t late, at.0))
    go (inr at) (inl early) = absurd (omega (arith, counted, early_t early, at.0))
    go (inr at) (inr late) = subst (λ (e : Entry). Contains e.datoms d) at.1 late

said_first : Said (first_entry ∷ [])
unfolding Said
said_first d member entry is =
    subst (λ (e : Entry). Contains e.datoms d) (only_one first_entry d.t entry is) (no_more d first_entry.datoms member)

said_in_its_entry : (h : List Entry) → IsLawful h → Said h
said_in_its_entry = of_lawful Said said_first said_next

entry_is_said : (h : List Entry) (t : ℕ) (entry : Entry) (d : Datom) → slice_get h t ≡ Some entry → Contains entry.datoms d
    → Contains (said h) d
entry_is_said [] t entry d is member = absurd (cc)
entry_is_said (x ∷ h) zero entry d is member =
    let same : x ≡ entry = cc in
    Contains-append_left x.datoms (said h) d (subst (λ (e : Entry). Contains e.datoms d) (sym same) member)
entry_is_said (x ∷ h) (suc t) entry d is member = Contains-append_right x.datoms (said h) d (entry_is_said h t entry d is member)

-- ---- up to one of them

pub said_upto_has : (h : List Entry) (c : ℕ) (entry : Entry) (d : Datom) → IsLawful h → slice_get h d.t ≡ Some entry
    → Contains (said (upto h c)) d → Contains entry.datoms d
unfolding Said
said_upto_has h c entry d lawful is member =
    said_in_its_entry h lawful d (kept (λ x. leb x.t c) (said h) d (subst (λ ds. Contains ds d) (said-upto h lawful c) member)).member
    entry is

pub said_upto_early : (h : List Entry) (c : ℕ) (d : Datom) → IsLawful h → Contains (said (upto h c)) d → d.t ≤ c
said_upto_early h c d lawful member =
    leb-true d.t c (kept (λ x. leb x.t c) (said h) d (subst (λ ds. Contains ds d) (said-upto h lawful c) member)).passes

pub has_said_upto : (h : List Entry) (c : ℕ) (entry : Entry) (d : Datom) → IsLawful h → d.t ≤ c → slice_get h d.t ≡ Some entry
    → Contains entry.datoms d → Contains (said (upto h c)) d
has_said_upto h c entry d lawful early is member =
    subst (λ ds. Contains ds d) (sym (said-upto h lawful c))
    (keep (λ x. leb x.t c) (said h) d (entry_is_said h d.t entry d is member) (le-leb d.t c early))

-- ---- the datoms of an entry rise

Rises : List Entry → Type 0
Rises h = (t : ℕ) (entry : Entry) → slice_get h t ≡ Some entry → rises Eavt entry.datoms ≡ true

rises_next : (h : List Entry) (last : Entry) → IsLawful h → Rises h → IsLawfulAfter h last → Rises (h ++ last ∷ [])
unfolding Rises
rises_next h last lawful before next t entry is =
    elim (place_cases h last t entry is) [
      | inl early ↦ before t entry early.1
      | inr late ↦
          subst (λ (e : Entry). rises Eavt e.datoms ≡ true) late.1 (and_parts _ _ (and_parts _ _ next.datoms_in_order).0).1
    ]

rises_first : Rises (first_entry ∷ [])
unfolding Rises
rises_first t entry is = subst (λ (e : Entry). rises Eavt e.datoms ≡ true) (only_one first_entry t entry is) refl

pub entry_rises : (h : List Entry) (t : ℕ) (entry : Entry) → IsLawful h → slice_get h t ≡ Some entry → IsRising Eavt entry.datoms
unfolding Rises
entry_rises h t entry lawful is = rising_from Eavt entry.datoms (of_lawful Rises rises_first rises_next h lawful t entry is)

-- ---- one entry after another

take-next : (h : List Entry) (t : ℕ) (entry : Entry) → slice_get h t ≡ Some entry → take (t + 1) h ≡ take t h ++ entry ∷ []
take-next [] t entry is = absurd (cc)
take-next (x ∷ h) zero entry is = let same : x ≡ entry = cc in ap (λ e. e ∷ []) same
take-next (x ∷ h) (suc t) entry is =
    let one : suc t + 1 ≡ suc (t + 1) = omega arith in
    rw one (ap (λ rest. x ∷ rest) (take-next h t entry is))

-- what is said up to an entry, and what it says
pub said_with : (h : List Entry) (t : ℕ) (entry : Entry) → slice_get h t ≡ Some entry
    → said (take (t + 1) h) ≡ said (take t h) ++ entry.datoms
said_with h t entry is = ap said (take-next h t entry is) ∙ said-push (take t h) entry

pub schema_with : (h : List Entry) (t : ℕ) (entry : Entry) (schema next : List Datom) → slice_get h t ≡ Some entry
    → ((before : List Entry) → SchemaStands schema before → SchemaStands next (before ++ entry ∷ []))
    → SchemaStands schema (take t h) → SchemaStands next (take (t + 1) h)
schema_with h t entry schema next is grows stands =
    subst (SchemaStands next) (sym (take-next h t entry is)) (grows (take t h) stands)
