-- Histories with one entry more.
use Rattle.std.proofs.Common.{◌≡◌, ◌∙◌, ℕ, ◌+◌, ◌-◌, ◌<◌, suc, List, [], ◌∷◌, ◌++◌, length, min, refl, sym, ap, arith, Some}
use Rattle.std.specs.Prelude.{fold}
use Rattle.std.specs.List.{slice_get}
use Rattle.std.proofs.lemmas.List.{length-take}
use Rattle.std.proofs.lemmas.List.Sums.{fold-append}
use Rattle.fb_values.specs.declared.facts.Entry.{Entry}
use Rattle.fb_model.specs.FirstEntry.{first_entry}
use Rattle.fb_model.specs.History.{basis, upto}
use Rattle.fb_model.specs.Lawful.{IsLawful, IsLawfulAfter}
use Rattle.fb_model.proofs.OneMoreEntry.{basis-push, upto-append}
use Rattle.fb_model.proofs.LawfulHistories.{IsLawful-length}
use Rattle.fb_model.proofs.Times.{next_t, upto-basis}
use Rattle.fb_view.proofs.Beginnings.{begins_within}
use Rattle.fb_core.specs.Cores.{last_of}

pub last_of-push : (h : List Entry) (entry : Entry) → last_of (h ++ entry ∷ []) ≡ entry
last_of-push h entry = fold-append (λ _ (e : Entry). e) first_entry h (entry ∷ [])

-- ---- the last one, by its place

behind_first : (x y : Entry) (xs : List Entry) (n : ℕ) → slice_get (x ∷ y ∷ xs) (suc (suc n) - 1) ≡ slice_get (y ∷ xs) (suc n - 1)
behind_first x y xs n = let one : suc (suc n) - 1 ≡ suc n = omega arith in let less : suc n - 1 ≡ n = omega arith in rw (one, less) refl

fold_last : (start : Entry) (h : List Entry) (entry : Entry) → slice_get h (length h - 1) ≡ Some entry
    → fold (λ _ (e : Entry). e) start h ≡ entry
fold_last start [] entry read = absurd (cc)
fold_last start (x ∷ []) entry read = cc
fold_last start (x ∷ y ∷ h) entry read = fold_last x (y ∷ h) entry (sym (behind_first x y h (length h)) ∙ read)

pub last_of-is : (h : List Entry) (entry : Entry) → slice_get h (length h - 1) ≡ Some entry → last_of h ≡ entry
last_of-is h entry read = fold_last first_entry h entry read

-- ---- beginnings

pub next_basis : (h : List Entry) (entry : Entry) → IsLawfulAfter h entry → basis (h ++ entry ∷ []) ≡ basis h + 1
next_basis h entry next = basis-push h entry ∙ next_t h entry next

pub beginning_stays : (h older : List Entry) (entry : Entry) → IsLawful older → upto h (basis older) ≡ older
    → upto (h ++ entry ∷ []) (basis older) ≡ older
beginning_stays h older entry lawful begins =
    upto-append h (entry ∷ []) (basis older) (begins_within h older lawful begins) ∙ begins

pub latest_stays : (h : List Entry) (entry : Entry) → IsLawful h → upto (h ++ entry ∷ []) (basis h) ≡ h
latest_stays h entry lawful = beginning_stays h h entry lawful (upto-basis h lawful)
