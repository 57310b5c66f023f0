-- From the steps' outcome to what stands in the text.
use Rattle.std.proofs.Common.{◌≡◌, ℕ, ◌+◌, ◌<◌, ◌≤◌, List, [], length, drop, Option, Some, None, Result, Ok, Err, ap, sym, subst, arith}
use Rattle.std.specs.Prelude.{⊤}
use Rattle.std.proofs.lemmas.List.{length-drop, drop_all}
use Rattle.edn_model.specs.Form.{Form}
use Rattle.edn_model.specs.Faults.{Fault, FaultAt}
use Rattle.edn_model.specs.Grammar.{FormAt, OnlyGap}
use Rattle.edn_model.specs.Steps.{outermost, going, ended, read, nothing, Reaches, stay, end}
use Rattle.edn_model.proofs.Standing.{reads_form, reads_end, reads_fault}
use Rattle.edn_model.proofs.OneAnswer.{one_outcome, form_reached, end_reached, one_fault, no_fault_at_form, no_fault_in_gap}
use Rattle.edn_model.proofs.Reached.{joined, one}
use Rattle.edn_form.specs.declared.form.Edn.{Edn}
use Rattle.edn_form.specs.View.{form_of}
use Rattle.edn_core.specs.Answers.{MatchFault, fault_of, MatchAnswer, ReadsTo, FailsAt, Answers}
use Rattle.edn_core.specs.declared.fault.EdnFault.{EdnFault}
use Rattle.edn_core.specs.Frames.{frames_of, AreSound, LeadsOn, LeadsTo, LeadsAstray}
use Rattle.edn_core.specs.declared.construct.Frame.{Frame}
use Rattle.edn_core.proofs.Leading.{fault_weaker}

-- of each kind of answer one fact follows from another
pub answer_weaker : (r : Result (Option (Edn × ℕ)) EdnFault) (F G : Form → ℕ → Type 0) (N M : Type 0) (P Q : Fault → ℕ → Type 0)
    → ((f : Form) (n : ℕ) → F f n → G f n) → (N → M) → ((why : Fault) (byte : ℕ) → P why byte → Q why byte) → MatchAnswer r F N P
    → MatchAnswer r G M Q
answer_weaker (Ok (Some p)) F G N M P Q form none fails h = form (form_of p.0) p.1 h
answer_weaker (Ok None) F G N M P Q form none fails h = none h
answer_weaker (Err e) F G N M P Q form none fails h = fault_weaker (fault_of e) P Q fails h

-- the bytes from a place within
place_is : (bytes : List ℕ) (byte : ℕ) → byte ≤ length bytes → byte + length (drop byte bytes) ≡ length bytes
place_is bytes byte h = let size = length-drop byte bytes in omega arith

fault_stands : (bytes : List ℕ) (at : ℕ) (why : Fault) (byte : ℕ) → FailsAt bytes at why byte → FaultAt bytes at why byte
fault_stands bytes at why byte h = reads_fault bytes at byte why (drop byte bytes) (place_is bytes byte h.within) h.runs

form_stands : (bytes : List ℕ) (at : ℕ) (f : Form) (n : ℕ) → ReadsTo bytes at f n → FormAt bytes at f n
form_stands bytes at f n h = reads_form bytes at n f h.ahead h.within h.runs

pub next_stands : (bytes : List ℕ) (at : ℕ) (r : Result (Option (Edn × ℕ)) EdnFault) → Answers bytes at r
    → MatchAnswer r (FormAt bytes at) (OnlyGap bytes at) (FaultAt bytes at)
next_stands bytes at r h =
    answer_weaker r (ReadsTo bytes at) (FormAt bytes at) (Reaches (going outermost (drop at bytes)) (ended nothing)) (OnlyGap bytes at)
    (FailsAt bytes at) (FaultAt bytes at) (form_stands bytes at) (reads_end bytes at) (fault_stands bytes at) h

pub ahead_is : (bytes : List ℕ) (at : ℕ) (r : Result (Option (Edn × ℕ)) EdnFault) → Answers bytes at r
    → MatchAnswer r (λ f n. (at < n) × (n ≤ length bytes)) ⊤ (λ why byte. (at ≤ byte) × (byte ≤ length bytes))
ahead_is bytes at r h =
    answer_weaker r (ReadsTo bytes at) (λ f n. (at < n) × (n ≤ length bytes)) (Reaches (going outermost (drop at bytes)) (ended nothing)) ⊤
    (FailsAt bytes at) (λ why byte. (at ≤ byte) × (byte ≤ length bytes)) (λ f n k. (k.ahead, k.within)) (λ k. tt)
    (λ why byte k. (k.ahead, k.within)) h

-- ---- no other answer

same_reads : {f g : Form} {x y : List ℕ} → ended (read f x) ≡ ended (read g y) → (f ≡ g) × (x ≡ y)
same_reads e = (cc, cc)

same_place : (bytes : List ℕ) (m n : ℕ) → m ≤ length bytes → n ≤ length bytes → drop m bytes ≡ drop n bytes → m ≡ n
same_place bytes m n h k e =
    let one = place_is bytes m h in
    let two = place_is bytes n k in
    let size = ap length e in
    omega arith

one_form : (bytes : List ℕ) (at : ℕ) (f g : Form) (m n : ℕ) → FormAt bytes at f n → ReadsTo bytes at g m → (g ≡ f) × (m ≡ n)
one_form bytes at f g m n h k =
    let same = same_reads (one_outcome k.runs (form_reached h)) in
    (same.0, same_place bytes m n k.within h.order.1 same.1)

pub form_is : (bytes : List ℕ) (at : ℕ) (r : Result (Option (Edn × ℕ)) EdnFault) → Answers bytes at r → (f : Form) (n : ℕ)
    → FormAt bytes at f n
    → MatchAnswer r (λ g m. (g ≡ f) × (m ≡ n)) ⊥ (λ why byte. ⊥)
form_is bytes at r h f n stands =
    answer_weaker r (ReadsTo bytes at) (λ g m. (g ≡ f) × (m ≡ n)) (Reaches (going outermost (drop at bytes)) (ended nothing)) ⊥
    (FailsAt bytes at) (λ why byte. ⊥) (λ g m k. one_form bytes at f g m n stands k)
    (λ k. let wrong = one_outcome k (form_reached stands) in cc)
    (λ why byte k. no_fault_at_form stands (fault_stands bytes at why byte k)) h

pub end_is : (bytes : List ℕ) (at : ℕ) (r : Result (Option (Edn × ℕ)) EdnFault) → Answers bytes at r → OnlyGap bytes at
    → MatchAnswer r (λ g m. ⊥) ⊤ (λ why byte. ⊥)
end_is bytes at r h gap =
    answer_weaker r (ReadsTo bytes at) (λ g m. ⊥) (Reaches (going outermost (drop at bytes)) (ended nothing)) ⊤ (FailsAt bytes at)
    (λ why byte. ⊥) (λ g m k. let wrong = one_outcome k.runs (end_reached bytes at gap) in cc) (λ k. tt)
    (λ why byte k. no_fault_in_gap bytes at byte why gap (fault_stands bytes at why byte k)) h

pub fault_is : (bytes : List ℕ) (at : ℕ) (r : Result (Option (Edn × ℕ)) EdnFault) → Answers bytes at r → (why : Fault) (byte : ℕ)
    → FaultAt bytes at why byte
    → MatchAnswer r (λ g m. ⊥) ⊥ (λ a b. (a ≡ why) × (b ≡ byte))
fault_is bytes at r h why byte k =
    answer_weaker r (ReadsTo bytes at) (λ g m. ⊥) (Reaches (going outermost (drop at bytes)) (ended nothing)) ⊥
    (FailsAt bytes at) (λ a b. (a ≡ why) × (b ≡ byte)) (λ g m j. no_fault_at_form (form_stands bytes at g m j) k)
    (λ j. no_fault_in_gap bytes at byte why (reads_end bytes at j) k)
    (λ a b j. one_fault bytes at b byte a why (fault_stands bytes at a b j) k) h

pub nothing_behind : (bytes : List ℕ) (at : ℕ) → length bytes < at → Reaches (going outermost (drop at bytes)) (ended nothing)
nothing_behind bytes at h =
    subst (λ z. Reaches (going outermost z) (ended nothing)) (sym (drop_all at bytes (let more : length bytes ≤ at = omega arith in more)))
    (one end)

-- ---- on the way

-- from a place on the steps lead to another, with what is open there
pub record Reading (bytes : List ℕ) (at : ℕ) (frames : List Frame) (here : ℕ) : Type 0 where
  pub after : at ≤ here
  pub within : here ≤ length bytes
  pub kept : AreSound at (length bytes) frames
  pub runs : Reaches (going outermost (drop at bytes)) (going (frames_of bytes frames) (drop here bytes))

pub reading_begins : (bytes : List ℕ) (at : ℕ) (frames : List Frame) → frames ≡ [] → at ≤ length bytes → Reading bytes at frames at
reading_begins bytes at frames none h =
    subst (λ (fs : List Frame). Reading bytes at fs at) (sym none)
    (let begun : Reading bytes at [] at = record { after = omega arith; within = h; kept = tt; runs = stay } in begun)

pub reading_goes : {bytes : List ℕ} {at here n : ℕ} {old new : List Frame} → Reading bytes at old here
    → LeadsOn bytes at here (going (frames_of bytes old) (drop here bytes)) n new
    → Reading bytes at new n
reading_goes h k =
    let a = h.after in
    let b = k.ahead in
    record { after = omega arith; within = k.within; kept = k.kept; runs = joined h.runs k.runs }

pub reading_reads : {bytes : List ℕ} {at here n : ℕ} {old : List Frame} {f : Form} → Reading bytes at old here
    → LeadsTo bytes here (going (frames_of bytes old) (drop here bytes)) f n
    → ReadsTo bytes at f n
reading_reads h k =
    let a = h.after in
    let b = k.ahead in
    record { ahead = omega arith; within = k.within; runs = joined h.runs k.runs }

pub reading_fails : {bytes : List ℕ} {at here : ℕ} {old : List Frame} (e : EdnFault) → Reading bytes at old here
    → MatchFault (fault_of e) (LeadsAstray bytes at (going (frames_of bytes old) (drop here bytes)))
    → MatchFault (fault_of e) (FailsAt bytes at)
reading_fails {bytes = bytes} {at = at} {here = here} {old = old} e h k =
    fault_weaker (fault_of e) (LeadsAstray bytes at (going (frames_of bytes old) (drop here bytes))) (FailsAt bytes at)
    (λ why byte j. record { ahead = j.ahead; within = j.within; runs = joined h.runs j.runs }) k

pub reading_ends : (bytes : List ℕ) (at here : ℕ) (old : List Frame) → Reading bytes at old here
    → Reaches (going (frames_of bytes old) (drop here bytes)) (ended nothing)
    → Reaches (going outermost (drop at bytes)) (ended nothing)
reading_ends bytes at here old h k = joined h.runs k
