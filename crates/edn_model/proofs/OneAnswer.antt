-- Next in a text stands one form, or the end, or one fault.
use Rattle.std.proofs.Common.{◌≡◌, ℕ, ◌+◌, List, [], length, drop, refl, ap, sym, subst, arith}
use Rattle.edn_model.specs.Form as form
use Rattle.edn_model.specs.Grammar.{FormAt, OnlyGap}
use Rattle.edn_model.specs.Faults.{Fault, FaultAt}
use Rattle.edn_model.specs.Steps.{outermost, Reading, read, nothing, fault, State, going, ended, Step, end, Reaches, stay, next}
use Rattle.edn_model.proofs.OneStep.{one_step}
use Rattle.edn_model.proofs.Reached.{joined, one, run_gap, run_text, framed, fails}

no_more : {t : State} {a : Reading} → Step (ended a) t → ⊥
no_more x = elim x [ ]

pub one_outcome : {s : State} {a b : Reading} → Reaches s (ended a) → Reaches s (ended b) → ended a ≡ ended b
one_outcome stay stay = refl
one_outcome stay (next y q) = absurd (no_more y)
one_outcome (next x r) stay = absurd (no_more x)
one_outcome {b = b} (next x r) (next y q) = one_outcome r (subst (λ z. Reaches z (ended b)) (sym (one_step x y)) q)

-- ---- what stands next is reached

pub form_reached : {bytes : List ℕ} {at to : ℕ} {f : form.Form} → FormAt bytes at f to
    → Reaches (going outermost (drop at bytes)) (ended (read f (drop to bytes)))
form_reached h = joined (run_gap h.before outermost refl) (run_text h.text outermost refl refl)

pub end_reached : (bytes : List ℕ) (at : ℕ) → OnlyGap bytes at → Reaches (going outermost (drop at bytes)) (ended nothing)
end_reached bytes at h = joined (run_gap h outermost refl) (one end)

pub fault_reached : {bytes : List ℕ} {at byte : ℕ} {why : Fault} (h : FaultAt bytes at why byte)
    → Reaches (going outermost (drop at bytes)) (ended (fault why h.place))
fault_reached h = let reached = framed h.stands in joined reached.runs (fails h.is reached.frames reached.same)

-- ---- the laws

pub no_fault_at_form : {bytes : List ℕ} {at to byte : ℕ} {f : form.Form} {why : Fault} → FormAt bytes at f to → FaultAt bytes at why byte
    → ⊥
no_fault_at_form h k = let wrong = one_outcome (form_reached h) (fault_reached k) in cc

pub no_fault_in_gap : (bytes : List ℕ) (at byte : ℕ) (why : Fault) → OnlyGap bytes at → FaultAt bytes at why byte → ⊥
no_fault_in_gap bytes at byte why h k = let wrong = one_outcome (end_reached bytes at h) (fault_reached k) in cc

same_faults : {a b : Fault} {x y : List ℕ} → ended (fault a x) ≡ ended (fault b y) → (a ≡ b) × (x ≡ y)
same_faults e = (cc, cc)

pub one_fault : (bytes : List ℕ) (at m n : ℕ) (a b : Fault) → FaultAt bytes at a m → FaultAt bytes at b n → (a ≡ b) × (m ≡ n)
one_fault bytes at m n a b h k =
    let same = same_faults (one_outcome (fault_reached h) (fault_reached k)) in
    let size : length h.place ≡ length k.place = ap length same.1 in
    let one : m + length h.place ≡ length bytes = h.byte_is in
    let two : n + length k.place ≡ length bytes = k.byte_is in
    (same.0, omega arith)
