-- A lawful history with a lawful entry is lawful, and what every lawful history keeps.
use Rattle.std.proofs.Common.{◌≡◌, ◌+◌, Bool, true, false, ◌&&◌, List, [], ◌∷◌, ◌++◌, length, refl, ap, sym, subst, arith, length-append}
use Rattle.std.proofs.Common.{append_assoc, eqb}
use Rattle.std.proofs.lemmas.Bool.{true≢false, eqb-true}
use Rattle.fb_values.specs.declared.facts.Entry.{Entry}
use Rattle.fb_numbers.specs.Numbers.{is_instant}
use Rattle.fb_model.specs.FirstEntry.{first_entry}
use Rattle.fb_model.specs.History.{basis, last_instant}
use Rattle.fb_model.specs.Lawful.{IsLawful, IsLawfulFrom, IsLawfulAfter}
use Rattle.fb_model.proofs.OneMoreEntry.{basis-push, last_instant-push}

append-nil : (h : List Entry) → h ++ [] ≡ h
append-nil [] = refl
append-nil (e ∷ h) = ap (λ rest. e ∷ rest) (append-nil h)

both_true : (a b : Bool) → (a && b) ≡ true → (a ≡ true) × (b ≡ true)
both_true true b e = (refl, e)
both_true false true e = absurd (true≢false (sym e))
both_true false false e = absurd (true≢false (sym e))

next_count : (h : List Entry) (entry : Entry) → length h ≡ basis h + 1 → IsLawfulAfter h entry
    → length (h ++ entry ∷ []) ≡ basis (h ++ entry ∷ []) + 1
next_count h entry counted next =
    let t_is : eqb entry.t (basis h + 1) ≡ true = (both_true _ _ next.next_t).0 in
    let t_next : entry.t ≡ basis h + 1 = eqb-true entry.t (basis h + 1) t_is in
    omega (arith, length-append h (entry ∷ []), basis-push h entry)

pub IsLawful-first : IsLawful (first_entry ∷ [])
IsLawful-first = (refl, tt)

IsLawfulFrom-push : (h rest : List Entry) (entry : Entry) → IsLawfulFrom h rest → IsLawfulAfter (h ++ rest) entry
    → IsLawfulFrom h (rest ++ entry ∷ [])
IsLawfulFrom-push h [] entry lawful next = (subst (λ k. IsLawfulAfter k entry) (append-nil h) next, tt)
IsLawfulFrom-push h (e ∷ rest) entry lawful next = (
  lawful.0,
  IsLawfulFrom-push (h ++ e ∷ []) rest entry lawful.1 (subst (λ k. IsLawfulAfter k entry) (sym (append_assoc h (e ∷ []) rest)) next),
)

pub IsLawful-push : (h : List Entry) (entry : Entry) → IsLawful h → IsLawfulAfter h entry → IsLawful (h ++ entry ∷ [])
IsLawful-push [] entry lawful next = absurd lawful
IsLawful-push (e ∷ rest) entry lawful next = (lawful.0, IsLawfulFrom-push (e ∷ []) rest entry lawful.1 next)

IsLawfulFrom-pop : (h rest : List Entry) (entry : Entry) → IsLawfulFrom h (rest ++ entry ∷ [])
    → IsLawfulFrom h rest × IsLawfulAfter (h ++ rest) entry
IsLawfulFrom-pop h [] entry lawful = (tt, subst (λ k. IsLawfulAfter k entry) (sym (append-nil h)) lawful.0)
IsLawfulFrom-pop h (e ∷ rest) entry lawful =
    let rest_lawful = IsLawfulFrom-pop (h ++ e ∷ []) rest entry lawful.1 in
    ((lawful.0, rest_lawful.0), subst (λ k. IsLawfulAfter k entry) (append_assoc h (e ∷ []) rest) rest_lawful.1)

-- what is in front of an entry is lawful, and the entry may follow it
pub IsLawful-pop : (first : Entry) (rest : List Entry) (entry : Entry) → IsLawful ((first ∷ rest) ++ entry ∷ [])
    → IsLawful (first ∷ rest) × IsLawfulAfter (first ∷ rest) entry
IsLawful-pop first rest entry lawful =
    let parts = IsLawfulFrom-pop (first ∷ []) rest entry lawful.1 in
    ((lawful.0, parts.0), parts.1)

-- ---- t counts the entries

length_after : (h rest : List Entry) → length h ≡ basis h + 1 → IsLawfulFrom h rest → length (h ++ rest) ≡ basis (h ++ rest) + 1
length_after h [] counted lawful = subst (λ k. length k ≡ basis k + 1) (sym (append-nil h)) counted
length_after h (e ∷ rest) counted lawful =
    subst (λ k. length k ≡ basis k + 1) (append_assoc h (e ∷ []) rest)
    (length_after (h ++ e ∷ []) rest (next_count h e counted lawful.0) lawful.1)

pub IsLawful-length : (h : List Entry) → IsLawful h → length h ≡ basis h + 1
IsLawful-length [] lawful = absurd lawful
IsLawful-length (e ∷ rest) lawful = length_after (e ∷ []) rest (subst (λ f. 1 ≡ f.t + 1) (sym lawful.0) refl) lawful.1

-- ---- the last instant is in its range

instant_after : (h rest : List Entry) → is_instant (last_instant h) ≡ true → IsLawfulFrom h rest
    → is_instant (last_instant (h ++ rest)) ≡ true
instant_after h [] within lawful = subst (λ k. is_instant (last_instant k) ≡ true) (sym (append-nil h)) within
instant_after h (e ∷ rest) within lawful =
    subst (λ k. is_instant (last_instant k) ≡ true) (append_assoc h (e ∷ []) rest)
    (instant_after (h ++ e ∷ []) rest (rw last_instant-push (both_true _ _ lawful.0.later_instant).1) lawful.1)

pub IsLawful-instant : (h : List Entry) → IsLawful h → is_instant (last_instant h) ≡ true
IsLawful-instant [] lawful = absurd lawful
IsLawful-instant (e ∷ rest) lawful = instant_after (e ∷ []) rest (subst (λ f. is_instant f.instant ≡ true) (sym lawful.0) refl) lawful.1
