-- Chains, one transaction after another.
use Rattle.std.proofs.Common.{◌≡◌, ◌≤◌, ℕ, zero, suc, ℤ, ◌+ℤ◌, ◌-◌, cond, pos, negsuc, true, List, [], ◌∷◌, ◌++◌, length, refl, sym, ◌∙◌}
use Rattle.std.proofs.Common.{ap, subst, arith, append_assoc, Option, Some, None}
use Rattle.std.proofs.lemmas.List.{append-nil}
use Rattle.edn_model.specs.Form.{Form}
use Rattle.fb_values.specs.declared.facts.Entry.{Entry}
use Rattle.std.specs.Int.{int_max}
use Rattle.std.proofs.lemmas.Bool.{and_parts, leb-true, lt-ltb, le-ltb}
use Rattle.fb_numbers.specs.Numbers.{least_instant, is_instant}
use Rattle.fb_model.specs.History.{next_instant, last_instant, into_range}
use Rattle.fb_model.specs.Lawful.{IsLawful, IsLawfulAfter}
use Rattle.fb_model.proofs.LawfulHistories.{IsLawful-push, IsLawful-instant}
use Rattle.tx_model.specs.Tempids.{named_tempids}
use Rattle.tx_model.specs.Transaction.{transaction}
use Rattle.tx_model.specs.Step.{Decision, refused, accepted, Guard, step, entry_of}
use Rattle.tx_model.proofs.Steps.{accepted_at, refused_always}
use Rattle.tx_model.proofs.StepLaws.{step-lawful}
use Rattle.with_model.specs.Chain.{TxReport, Chain, reaches, refused_at, with_reports, chained, chain, continued}

abbrev reached_in : List Entry → Chain → List Entry
reached_in other (reaches h told) = h
reached_in other (refused_at refusal at) = other

abbrev told_of : Chain → List TxReport
told_of (reaches h told) = told
told_of (refused_at refusal at) = []

abbrev Reaches : Chain → Type 0
Reaches (reaches h told) = Unit {0}
Reaches (refused_at refusal at) = ⊥

-- the first transaction is accepted, and the others reach the same
record ReachesBy (h reached : List Entry) (told : List TxReport) (decision : Decision) (behind : List Entry → Chain) : Type 0 where
  entry : Entry
  tempids : List (List ℕ × ℕ)
  others : List TxReport
  decision_is : decision ≡ accepted entry tempids
  behind_is : behind (h ++ entry ∷ []) ≡ reaches reached others
  told_is : told ≡ record { t = entry.t; tempids = tempids } ∷ others

reaches_by : (h reached : List Entry) (told : List TxReport) (decision : Decision) (behind : List Entry → Chain)
    → chained h decision behind ≡ reaches reached told → ReachesBy h reached told decision behind
reaches_by h reached told (refused refusal) behind is = absurd (subst Reaches (sym is) tt)
reaches_by h reached told (accepted entry tempids) behind is = go (behind (h ++ entry ∷ [])) refl is
  where
    go : (chain : Chain)
        → behind (h ++ entry ∷ []) ≡ chain → with_reports (record { t = entry.t; tempids = tempids } ∷ []) chain ≡ reaches reached told
        → ReachesBy h reached told (accepted entry tempids) behind
    go (reaches other others) behind_is same =
        record {
          entry = entry;
          tempids = tempids;
          others = others;
          decision_is = refl;
          behind_is = behind_is ∙ ap (λ l. reaches l others) (ap (reached_in reached) same);
          told_is = sym (ap told_of same);
        }
    go (refused_at refusal at) behind_is same = absurd (subst Reaches (sym same) tt)

step-IsLawful : (h : List Entry) (asked : Form) (guard : Guard) (reading : ℤ) (entry : Entry) (tempids : List (List ℕ × ℕ)) → IsLawful h
    → step h asked reading guard ≡ accepted entry tempids → IsLawful (h ++ entry ∷ [])
step-IsLawful h asked guard reading entry tempids lawful is =
    let at = accepted_at h asked guard reading entry tempids is in
    IsLawful-push h entry lawful (subst (IsLawfulAfter h) (sym at.entry_is) (step-lawful h at.forms reading lawful at.is_not_refused))

pub chain-IsLawful : (guard : Guard) (h reached : List Entry) (asked : List Form) (told : List TxReport) → IsLawful h
    → chain guard h asked ≡ reaches reached told → IsLawful reached
chain-IsLawful guard h reached [] told lawful is = subst IsLawful (ap (reached_in reached) is) lawful
chain-IsLawful guard h reached (first ∷ rest) told lawful is =
    let by = reaches_by h reached told (step h first least_instant guard) (λ next. chain guard next rest) is in
    chain-IsLawful guard (h ++ by.entry ∷ []) reached rest by.others
    (step-IsLawful h first guard least_instant by.entry by.tempids lawful by.decision_is) by.behind_is

pub chain-begins : (guard : Guard) (h reached : List Entry) (asked : List Form) (told : List TxReport)
    → chain guard h asked ≡ reaches reached told
    → (entries : List Entry) × (reached ≡ h ++ entries) × (length entries ≡ length asked) × (length told ≡ length asked)
chain-begins guard h reached [] told is = ([], sym (ap (reached_in reached) is) ∙ sym (append-nil h), refl, ap length (sym (ap told_of is)))
chain-begins guard h reached (first ∷ rest) told is =
    let by = reaches_by h reached told (step h first least_instant guard) (λ next. chain guard next rest) is in
    let more = chain-begins guard (h ++ by.entry ∷ []) reached rest by.others by.behind_is in
    (by.entry ∷ more.0, more.1 ∙ append_assoc h (by.entry ∷ []) more.0, ap suc more.2, ap length by.told_is ∙ ap suc more.3)

-- ---- more transactions behind a chain

with_reports-with_reports : (first second : List TxReport) (chain : Chain)
    → with_reports first (with_reports second chain) ≡ with_reports (first ++ second) chain
with_reports-with_reports first second (reaches h told) = ap (reaches h) (sym (append_assoc first second told))
with_reports-with_reports first second (refused_at refusal at) = refl

continued-with_reports : (guard : Guard) (told : List TxReport) (first : Chain) (more : List Form)
    → continued guard (with_reports told first) more ≡ with_reports told (continued guard first more)
continued-with_reports guard told (reaches h others) more = sym (with_reports-with_reports told others (chain guard h more))
continued-with_reports guard told (refused_at refusal at) more = refl

with_none : (c : Chain) → with_reports [] c ≡ c
with_none (reaches h told) = refl
with_none (refused_at refusal at) = refl

pub chain-append : (guard : Guard) (h : List Entry) (first more : List Form)
    → chain guard h (first ++ more) ≡ continued guard (chain guard h first) more
chain-append guard h [] more = sym (with_none (chain guard h more))
chain-append guard h (asked ∷ first) more = go (step h asked least_instant guard) (λ next. chain-append guard next first more)
  where
    go : (decision : Decision) → ((next : List Entry) → chain guard next (first ++ more) ≡ continued guard (chain guard next first) more)
        → chained h decision (λ next. chain guard next (first ++ more))
        ≡ continued guard (chained h decision (λ next. chain guard next first)) more
    go (refused refusal) each = refl
    go (accepted entry tempids) each =
        ap (with_reports (record { t = entry.t; tempids = tempids } ∷ [])) (each (h ++ entry ∷ []))
        ∙ sym (continued-with_reports guard (record { t = entry.t; tempids = tempids } ∷ []) (chain guard (h ++ entry ∷ []) first) more)

-- ---- at a clock that reads the least instant

one_more : (n : ℕ) → negsuc (suc n) +ℤ pos 1 ≡ negsuc n
one_more n =
    ap (λ b. cond b (negsuc (suc (suc n) - 2)) (pos (1 - suc (suc n)))) (lt-ltb 1 (suc (suc n)) (omega arith)) ∙ ap negsuc (omega arith)

above_least : (n : ℕ) → n ≤ 62135596799999 → int_max least_instant (negsuc n) ≡ negsuc n
above_least n low = ap (λ b. cond b least_instant (negsuc n)) (le-ltb 62135596799999 n low)

below_one_more : (z : ℤ) → is_instant z ≡ true → int_max (into_range least_instant) (z +ℤ pos 1) ≡ z +ℤ pos 1
below_one_more (pos n) fits = refl
below_one_more (negsuc zero) fits = refl
below_one_more (negsuc (suc n)) fits =
    let low : suc n ≤ 62135596799999 = leb-true (suc n) 62135596799999 (and_parts _ _ fits).0 in
    ap (λ y. int_max least_instant y) (one_more n) ∙ above_least n (omega (arith, low)) ∙ sym (one_more n)

pub next_instant-least : (h : List Entry) → IsLawful h → next_instant h least_instant ≡ last_instant h +ℤ pos 1
next_instant-least h lawful = below_one_more (last_instant h) (IsLawful-instant h lawful)

-- ---- at another clock

abbrev forms_from : List Form → Option (List Form) → List Form
forms_from other (Some forms) = forms
forms_from other None = other

abbrev IsAccepted : Decision → Type 0
IsAccepted (refused refusal) = ⊥
IsAccepted (accepted entry tempids) = Unit {0}

pub at_any_clock : (h : List Entry) (asked : Form) (guard : Guard) (tried : Entry) (tempids : List (List ℕ × ℕ)) (reading : ℤ)
    → step h asked least_instant guard ≡ accepted tried tempids
    → (forms : List Form) × (tried ≡ entry_of h (transaction h forms) (next_instant h least_instant))
    × (step h asked reading guard ≡ accepted (entry_of h (transaction h forms) (next_instant h reading)) tempids)
at_any_clock h asked guard tried tempids reading is =
    let at = accepted_at h asked guard least_instant tried tempids is in
    (at.forms, at.entry_is, go (step h asked reading guard) refl)
  where
    go : (decision : Decision) → step h asked reading guard ≡ decision
        → step h asked reading guard ≡ accepted
        (entry_of h (transaction h (accepted_at h asked guard least_instant tried tempids is).forms) (next_instant h reading)) tempids
    go (refused refusal) same = absurd (subst IsAccepted (sym is ∙ refused_always h asked guard refusal reading least_instant same) tt)
    go (accepted entry others) same =
        let at = accepted_at h asked guard least_instant tried tempids is in
        let too = accepted_at h asked guard reading entry others same in
        let forms : too.forms ≡ at.forms = ap (forms_from at.forms) (sym too.forms_are ∙ at.forms_are) in
        same
        ∙ (λ i. accepted (too.entry_is i) (too.tempids_are i))
        ∙ ap (λ fs. accepted (entry_of h (transaction h fs) (next_instant h reading)) (named_tempids (transaction h fs).names)) forms
        ∙ ap (λ ids. accepted (entry_of h (transaction h at.forms) (next_instant h reading)) ids) (sym at.tempids_are)
