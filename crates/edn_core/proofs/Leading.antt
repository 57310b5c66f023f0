-- What steps come to, from an earlier state on.
use Rattle.std.proofs.Common.{◌≡◌, ℕ, ◌≤◌, List, [], ◌∷◌, length, drop, fold, Option, Some, None, Result, Ok, Err, refl, sym, subst, arith}
use Rattle.edn_model.specs.Form as model
use Rattle.edn_model.specs.Faults as faults
use Rattle.edn_model.specs.Steps.{Frames, outermost, opens_of, State, going, ended, nothing, fault, Reaches, stuck, end, land}
use Rattle.edn_model.proofs.Reached.{joined, one}
use Rattle.edn_form.specs.View.{form_of}
use Rattle.edn_form.specs.declared.form.Edn.{Edn}
use Rattle.edn_core.specs.Answers.{MatchFault, fault_of}
use Rattle.edn_core.specs.Frames.{inside, frames_of, LeadsAstray, Leads, Whole}
use Rattle.edn_core.specs.declared.construct.Frame.{Frame}
use Rattle.edn_core.specs.declared.fault.EdnFault.{EdnFault}
use Rattle.edn_core.specs.declared.progress.Progress.{Progress}
use Rattle.edn_core.specs.declared.progress.Progress.TheVariants.{Further, Read, End}

pub fault_weaker : (e : Option (faults.Fault × ℕ)) (P Q : faults.Fault → ℕ → Type 0)
    → ((why : faults.Fault) (byte : ℕ) → P why byte → Q why byte) → MatchFault e P → MatchFault e Q
fault_weaker (Some p) P Q more h = more p.0 p.1 h
fault_weaker None P Q more h = tt

-- some steps before, from a place before
pub leads_from : (bytes : List ℕ) (start here there : ℕ) (s t : State) (r : Result Progress EdnFault) (frames : List Frame)
    (slot : Option Edn)
    → here ≤ there → Reaches s t → Leads bytes start there t r frames slot → Leads bytes start here s r frames slot
leads_from bytes start here there s t (Ok (Further n)) frames slot le q h =
    let more = h.ahead in record { ahead = omega arith; within = h.within; kept = h.kept; runs = joined q h.runs }
leads_from bytes start here there s t (Ok (Read n)) frames (Some form) le q h =
    let more = h.ahead in record { ahead = omega arith; within = h.within; runs = joined q h.runs }
leads_from bytes start here there s t (Ok (Read n)) frames None le q h = h
leads_from bytes start here there s t (Ok End) frames slot le q h = joined q h
leads_from bytes start here there s t (Err e) frames slot le q h =
    fault_weaker (fault_of e) (LeadsAstray bytes start t) (LeadsAstray bytes start s)
    (λ why byte k. record { ahead = k.ahead; within = k.within; runs = joined q k.runs }) h

-- where nothing can go on
pub stuck_at : {bytes here : List ℕ} {start : ℕ} {why : faults.Fault} {frames : Frames} (byte : ℕ) → start ≤ byte → byte ≤ length bytes
    → faults.Stuck (opens_of frames) here why (drop byte bytes) → LeadsAstray bytes start (going frames here) why byte
stuck_at byte after within h = record { ahead = after; within = within; runs = one (stuck h) }

-- ---- the end

cut_there : (bytes : List ℕ) (z : Frames) (f : Frame) (fs : List Frame)
    → faults.Stuck (opens_of (fold (inside bytes) z (f ∷ fs))) [] faults.cut []
cut_there bytes z f [] = faults.ends
cut_there bytes z f (g ∷ gs) = cut_there bytes (inside bytes z f) g gs

pub ends_open : (bytes : List ℕ) (at start : ℕ) (fs : List Frame) → drop at bytes ≡ [] → start ≤ at → at ≤ length bytes
    → (length fs ≡ 0 → ⊥)
    → LeadsAstray bytes start (going (frames_of bytes fs) (drop at bytes)) faults.cut at
ends_open bytes at start [] is after within some = absurd (some refl)
ends_open bytes at start (f ∷ fs) is after within some =
    record {
      ahead = after;
      within = within;
      runs =
          subst (λ z. Reaches (going (frames_of bytes (f ∷ fs)) z) (ended (fault faults.cut z))) (sym is)
          (one (stuck (cut_there bytes outermost f fs)));
    }

pub ends_whole : (bytes : List ℕ) (at : ℕ) (fs : List Frame) → drop at bytes ≡ [] → length fs ≡ 0
    → Reaches (going (frames_of bytes fs) (drop at bytes)) (ended nothing)
ends_whole bytes at [] is none = subst (λ z. Reaches (going outermost z) (ended nothing)) (sym is) (one end)
ends_whole bytes at (f ∷ fs) is none = absurd (omega arith)

-- where a form is put, at the end of some steps
pub leads_put : (bytes : List ℕ) (start here at n : ℕ) (old new : List Frame) (slot : Option Edn) (e : Edn) (f : model.Form) (s : State)
    (r : Result Progress EdnFault)
    → form_of e ≡ f
    → Reaches s (land (frames_of bytes old) f (drop at bytes) (drop n bytes)) → Whole bytes start here at n old f
    → (Whole bytes start here at n old (form_of e)
    → Leads bytes start here (land (frames_of bytes old) (form_of e) (drop at bytes) (drop n bytes)) r new slot)
    → Leads bytes start here s r new slot
leads_put bytes start here at n old new slot e f s r is runs whole put =
    let mid = land (frames_of bytes old) (form_of e) (drop at bytes) (drop n bytes) in
    leads_from bytes start here here s mid r new slot (let same : here ≤ here = omega arith in same)
    (subst (λ z. Reaches s (land (frames_of bytes old) z (drop at bytes) (drop n bytes))) (sym is) runs)
    (put (subst (Whole bytes start here at n old) (sym is) whole))
