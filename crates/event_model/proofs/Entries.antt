-- Entries and their places as a history grows.
use Rattle.std.proofs.Common.{◌≡◌, ◌⊎◌, ℕ, zero, suc, ◌≤◌, List, [], ◌∷◌, ◌++◌, length, get_or, Option, Some, None, refl, sym, ap, subst}
use Rattle.std.proofs.Common.{inl, inr, arith}
use Rattle.std.specs.List.{slice_get}
use Rattle.std.proofs.lemmas.Option.{slice_get-get_or}
use Rattle.fb_values.specs.declared.facts.Entry.{Entry}
use Rattle.fb_model.specs.FirstEntry.{first_entry}
use Rattle.fb_model.specs.History.{basis}
use Rattle.fb_model.specs.Lawful.{IsLawful, IsLawfulAfter}
use Rattle.fb_model.proofs.LawfulHistories.{IsLawful-length}
use Rattle.fb_model.proofs.Times.{next_t}
use Rattle.fb_model.proofs.Invariants.{of_lawful}

abbrev IsSomeEntry : Option Entry → Type 0
IsSomeEntry None = ⊥
IsSomeEntry (Some entry) = Unit {0}

abbrev entry_or : Entry → Option Entry → Entry
entry_or other None = other
entry_or other (Some entry) = entry

pub slice_get-append : (h more : List Entry) (place : ℕ) (entry : Entry) → slice_get h place ≡ Some entry
    → slice_get (h ++ more) place ≡ Some entry
slice_get-append [] more place entry is = absurd (subst IsSomeEntry (sym is) tt)
slice_get-append (e ∷ h) more zero entry is = is
slice_get-append (e ∷ h) more (suc place) entry is = slice_get-append h more place entry is

-- the place is that of an earlier entry, or of the last one
slice_get-cases : (h : List Entry) (last : Entry) (place : ℕ) (entry : Entry) → slice_get (h ++ last ∷ []) place ≡ Some entry
    → (slice_get h place ≡ Some entry) ⊎ ((place ≡ length h) × (last ≡ entry))
slice_get-cases [] last zero entry is = inr (refl, ap (entry_or last) is)
slice_get-cases [] last (suc place) entry is = absurd (subst IsSomeEntry (sym is) tt)
slice_get-cases (e ∷ h) last zero entry is = inl is
slice_get-cases (e ∷ h) last (suc place) entry is = go (slice_get-cases h last place entry is)
  where
    go : (slice_get h place ≡ Some entry) ⊎ ((place ≡ length h) × (last ≡ entry))
        → (slice_get h place ≡ Some entry) ⊎ ((suc place ≡ suc (length h)) × (last ≡ entry))
    go (inl earlier) = inl earlier
    go (inr there) = inr (ap suc there.0, there.1)

-- entry t stands at place t
pub t_is_place : (h : List Entry) → IsLawful h → (place : ℕ) (entry : Entry) → slice_get h place ≡ Some entry → entry.t ≡ place
t_is_place = of_lawful (λ h. (place : ℕ) (entry : Entry) → slice_get h place ≡ Some entry → entry.t ≡ place) first next
  where
    first : (place : ℕ) (entry : Entry) → slice_get (first_entry ∷ []) place ≡ Some entry → entry.t ≡ place
    first zero entry is = ap (λ (e : Entry). e.t) (sym (ap (entry_or first_entry) is))
    first (suc place) entry is = absurd (subst IsSomeEntry (sym is) tt)

    next : (h : List Entry) (last : Entry) → IsLawful h
        → ((place : ℕ) (entry : Entry) → slice_get h place ≡ Some entry → entry.t ≡ place) → IsLawfulAfter h last
        → (place : ℕ) (entry : Entry) → slice_get (h ++ last ∷ []) place ≡ Some entry → entry.t ≡ place
    next h last lawful before after place entry is = go (slice_get-cases h last place entry is)
      where
        go : (slice_get h place ≡ Some entry) ⊎ ((place ≡ length h) × (last ≡ entry)) → entry.t ≡ place
        go (inl earlier) = before place entry earlier
        go (inr there) =
            let same : last.t ≡ entry.t = ap (λ (e : Entry). e.t) there.1 in
            omega (arith, there.0, same, next_t h last after, IsLawful-length h lawful)

pub entry_at : (h : List Entry) → IsLawful h → (t : ℕ) → t ≤ basis h → (entry : Entry) × (entry.t ≡ t) × (slice_get h t ≡ Some entry)
entry_at h lawful t low =
    let is : slice_get h t ≡ Some (get_or h t first_entry) =
    slice_get-get_or h t first_entry (omega (arith, IsLawful-length h lawful, low)) in
    (get_or h t first_entry, t_is_place h lawful t (get_or h t first_entry) is, is)
