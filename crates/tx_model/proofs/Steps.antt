-- What of a step depends on the clock.
use Rattle.std.proofs.Common.{◌≡◌, ℕ, ℤ, List, Option, Some, None, refl}
use Rattle.std.specs.Option.{option_map_or}
use Rattle.edn_model.specs.Form.{Form}
use Rattle.fb_values.specs.declared.facts.Entry.{Entry}
use Rattle.fb_model.specs.History.{next_instant}
use Rattle.tx_model.specs.Shapes.{forms_of}
use Rattle.tx_model.specs.Tempids.{named_tempids}
use Rattle.tx_model.specs.Transaction.{Transaction, transaction}
use Rattle.tx_refusals.specs.declared.reasons.Bar.{Bar}
use Rattle.tx_refusals.specs.declared.reasons.Refusal.{Refusal}
use Rattle.tx_model.specs.Step.{no_list, Guard, refused, accepted, step, refusal_of, under_guard, unless_refused, entry_of, IsAcceptedAt}

guarded_refusal : (h : List Entry) (tx : Transaction) (bars : Option Bar) (refusal : Refusal) (one other : ℤ)
    → under_guard h tx one bars ≡ refused refusal → under_guard h tx other bars ≡ refused refusal
guarded_refusal h tx (Some bar) refusal one other is = is
guarded_refusal h tx None refusal one other is = absurd (cc)

refused_forms : (h : List Entry) (fs : List Form) (guard : Guard) (first : Option Refusal) (refusal : Refusal) (one other : ℤ)
    → unless_refused h fs one guard first ≡ refused refusal → unless_refused h fs other guard first ≡ refused refusal
refused_forms h fs guard (Some r) refusal one other is = is
refused_forms h fs guard None refusal one other is =
    guarded_refusal h (transaction h fs) (guard h (transaction h fs).changes) refusal one other is

refused_by : (h : List Entry) (forms : Option (List Form)) (guard : Guard) (refusal : Refusal) (one other : ℤ)
    → option_map_or (λ fs. unless_refused h fs one guard (refusal_of h fs)) forms (refused no_list) ≡ refused refusal
    → option_map_or (λ fs. unless_refused h fs other guard (refusal_of h fs)) forms (refused no_list) ≡ refused refusal
refused_by h None guard refusal one other is = is
refused_by h (Some fs) guard refusal one other is = refused_forms h fs guard (refusal_of h fs) refusal one other is

pub refused_always : (h : List Entry) (asked : Form) (guard : Guard) (refusal : Refusal) (one other : ℤ)
    → step h asked one guard ≡ refused refusal → step h asked other guard ≡ refused refusal
refused_always h asked guard refusal one other is = refused_by h (forms_of asked) guard refusal one other is

-- ---- what is accepted

record Comes (h : List Entry) (tx : Transaction) (instant : ℤ) (entry : Entry) (tempids : List (List ℕ × ℕ)) : Type 0 where
  entry_is : entry ≡ entry_of h tx instant
  tempids_are : tempids ≡ named_tempids tx.names

guarded_entry : (h : List Entry) (tx : Transaction) (bars : Option Bar) (reading : ℤ) (entry : Entry) (tempids : List (List ℕ × ℕ))
    → under_guard h tx reading bars ≡ accepted entry tempids → Comes h tx (next_instant h reading) entry tempids
guarded_entry h tx (Some bar) reading entry tempids is = absurd (cc)
guarded_entry h tx None reading entry tempids is = record { entry_is = cc; tempids_are = cc }

accepted_forms : (h : List Entry) (asked : Form) (fs : List Form) (guard : Guard) (first : Option Refusal) (reading : ℤ) (entry : Entry)
    (tempids : List (List ℕ × ℕ))
    → forms_of asked ≡ Some fs → refusal_of h fs ≡ first → unless_refused h fs reading guard first ≡ accepted entry tempids
    → IsAcceptedAt h asked (next_instant h reading) entry tempids
accepted_forms h asked fs guard (Some r) reading entry tempids forms_are first_is is = absurd (cc)
accepted_forms h asked fs guard None reading entry tempids forms_are first_is is =
    let comes = guarded_entry h (transaction h fs) (guard h (transaction h fs).changes) reading entry tempids is in
    record { forms = fs; forms_are = forms_are; is_not_refused = first_is; entry_is = comes.entry_is; tempids_are = comes.tempids_are }

accepted_by : (h : List Entry) (asked : Form) (forms : Option (List Form)) (guard : Guard) (reading : ℤ) (entry : Entry)
    (tempids : List (List ℕ × ℕ))
    → forms_of asked ≡ forms
    → option_map_or (λ fs. unless_refused h fs reading guard (refusal_of h fs)) forms (refused no_list) ≡ accepted entry tempids
    → IsAcceptedAt h asked (next_instant h reading) entry tempids
accepted_by h asked None guard reading entry tempids forms_are is = absurd (cc)
accepted_by h asked (Some fs) guard reading entry tempids forms_are is =
    accepted_forms h asked fs guard (refusal_of h fs) reading entry tempids forms_are refl is

pub accepted_at : (h : List Entry) (asked : Form) (guard : Guard) (reading : ℤ) (entry : Entry) (tempids : List (List ℕ × ℕ))
    → step h asked reading guard ≡ accepted entry tempids → IsAcceptedAt h asked (next_instant h reading) entry tempids
accepted_at h asked guard reading entry tempids is = accepted_by h asked (forms_of asked) guard reading entry tempids refl is
