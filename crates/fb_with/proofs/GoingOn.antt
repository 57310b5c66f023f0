-- What one transaction would record is lawful, and a chain over a part of a list goes on by the next one, or stops at it.
use Rattle.std.proofs.Common.{◌≡◌, ℕ, ℤ, ◌+◌, ◌<◌, List, [], ◌∷◌, ◌++◌, length, map, take, drop, get_or, ap, sym, ◌∙◌, subst, Result, Ok, Err}
use Rattle.std.specs.Prelude.{IfOk}
use Rattle.std.proofs.lemmas.List.{take_more, take-append-drop, map-append, append_assoc}
use Rattle.edn_model.specs.Form.{Form}
use Rattle.edn_form.specs.declared.form.Edn.{Edn}
use Rattle.edn_form.specs.View.{form_of, forms_of}
use Rattle.fb_values.specs.declared.facts.Entry.{Entry}
use Rattle.fb_model.specs.Lawful.{IsLawful, IsLawfulAfter}
use Rattle.tx_model.specs.Step.{Guard, step, accepted}
use Rattle.tx_step.specs.declared.deciding.Accepted.{Accepted}
use Rattle.with_model.specs.Chain.{TxReport, Chain, reaches, with_reports, chain, continued}
use Rattle.with_model.proofs.Chains.{chain-append}
use Rattle.fb_with.specs.declared.chains.ChainStop.{ChainStop}
use Rattle.fb_with.specs.declared.chains.ChainStop.TheVariants as stop
use Rattle.fb_with.specs.Outcomes.{IsChainStop}

-- ---- one transaction

pub lawful_entry : {E : Type 0} (r : Result Accepted E) (h : List Entry) (asked : Form) (guard : Guard) (reading : ℤ)
    → ((h : List Entry) (asked : Form) (guard : Guard) (reading : ℤ) (entry : Entry) (tempids : List (List ℕ × ℕ)) → IsLawful h
    → step h asked reading guard ≡ accepted entry tempids → IsLawfulAfter h entry)
    → IsLawful h → IfOk r (λ done. step h asked reading guard ≡ accepted done.entry done.tempids.items)
    → IfOk r (λ done. IsLawfulAfter h done.entry)
lawful_entry (Ok done) h asked guard reading law lawful is = law h asked guard reading done.entry done.tempids.items lawful is
lawful_entry (Err e) h asked guard reading law lawful is = tt

-- ---- the next of them

next_taken : (xs : List Edn) (i : ℕ) (x : Edn) → i < length xs → get_or xs i x ≡ x
    → forms_of (take (i + 1) xs) ≡ forms_of (take i xs) ++ form_of x ∷ []
next_taken xs i x within is =
    ap (λ (l : List Edn). map form_of l) (take_more xs i x within ∙ ap (λ (y : Edn). take i xs ++ y ∷ []) is)
    ∙ map-append form_of (take i xs) (x ∷ [])

with_rest : (xs : List Edn) (i : ℕ) (x : Edn) → i < length xs → get_or xs i x ≡ x
    → forms_of xs ≡ forms_of (take i xs) ++ form_of x ∷ forms_of (drop (i + 1) xs)
with_rest xs i x within is =
    ap (λ (l : List Edn). map form_of l) (sym (take-append-drop (i + 1) xs)) ∙ map-append form_of (take (i + 1) xs) (drop (i + 1) xs)
    ∙ ap (λ (fs : List Form). fs ++ forms_of (drop (i + 1) xs)) (next_taken xs i x within is)
    ∙ append_assoc (forms_of (take i xs)) (form_of x ∷ []) (forms_of (drop (i + 1) xs))

-- ---- the chain over it

module _ (guard : Guard) (h reached : List Entry) (told : List TxReport) (xs : List Edn) (i : ℕ) (x : Edn) (within : i < length xs)
    (is : get_or xs i x ≡ x)
    (so_far : chain guard h (forms_of (take i xs)) ≡ reaches reached told) where
  pub goes_on : (next : List Entry) (more : List TxReport) → continued guard (reaches reached told) (form_of x ∷ []) ≡ reaches next more
      → chain guard h (forms_of (take (i + 1) xs)) ≡ reaches next more
  goes_on next more on =
      ap (chain guard h) (next_taken xs i x within is) ∙ chain-append guard h (forms_of (take i xs)) (form_of x ∷ [])
      ∙ ap (λ (c : Chain). continued guard c (form_of x ∷ [])) so_far ∙ on

  -- reports of earlier ones are no part of a stop
  stops_behind : (c : Chain) (why : ChainStop) → IsChainStop c why → IsChainStop (with_reports told c) why
  stops_behind c (stop.Refused refusal at) same = ap (with_reports told) same
  stops_behind c stop.Memory same = same

  pub stops : (why : ChainStop) → ((more : List Form) → IsChainStop (chain guard reached (form_of x ∷ more)) why)
      → IsChainStop (chain guard h (forms_of xs)) why
  stops why each =
      let more = forms_of (drop (i + 1) xs) in
      subst (λ (c : Chain). IsChainStop c why)
      (sym (ap (chain guard h) (with_rest xs i x within is) ∙ chain-append guard h (forms_of (take i xs)) (form_of x ∷ more)
      ∙ ap (λ (c : Chain). continued guard c (form_of x ∷ more)) so_far))
      (stops_behind (chain guard reached (form_of x ∷ more)) why (each more))
