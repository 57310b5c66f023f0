-- What the events of the examples come to.
use Rattle.std.proofs.Common.{◌≡◌, ℕ, ◌++◌, Bool, true, false, List, [], ◌∷◌, Some, None, refl, sym, inl}
use Rattle.std.specs.Prelude.{codes}
use Rattle.std.proofs.lemmas.Bool.{false≢true}
use Rattle.std.proofs.lemmas.List.{append-nil}
use Rattle.edn_model.specs.Form.{Form}
use Rattle.fb_values.specs.declared.facts.Entry.{Entry}
use Rattle.fb_model.specs.FirstEntry.{first_entry}
use Rattle.fb_model.specs.History.{basis}
use Rattle.tx_refusals.specs.declared.reasons.Refusal.{Refusal}
use Rattle.tx_model.specs.Step.{Decision, refused, accepted, step, no_guard, no_list}
use Rattle.tx_model.specs.Samples.{clock}
use Rattle.event_model.specs.World.{World, opened, with_session}
use Rattle.event_model.specs.Event.{accept, refuse, fail, crash, with_mail, committed, stopped_at, synced, IsLeftOf, IsFoundIn, Happens}
use Rattle.event_model.specs.Runs.{Runs}
use Rattle.event_model.specs.Samples.{start, text}

abbrev pub entry_in : Decision → Entry
entry_in (accepted entry tempids) = entry
entry_in (refused refusal) = first_entry

abbrev pub tempids_in : Decision → List (List ℕ × ℕ)
tempids_in (accepted entry tempids) = tempids
tempids_in (refused refusal) = []

abbrev pub is_accepted : Decision → Bool
is_accepted (accepted entry tempids) = true
is_accepted (refused refusal) = false

accepted_is : (outcome : Decision) → is_accepted outcome ≡ true → outcome ≡ accepted (entry_in outcome) (tempids_in outcome)
accepted_is (accepted entry tempids) is = refl
accepted_is (refused refusal) is = absurd (false≢true is)

-- what is refused, or the refusal of what is no list
abbrev pub refusal_in : Decision → Refusal
refusal_in (accepted entry tempids) = no_list
refusal_in (refused refusal) = refusal

refused_is : (outcome : Decision) → is_accepted outcome ≡ false → outcome ≡ refused (refusal_in outcome)
refused_is (accepted entry tempids) is = absurd (false≢true (sym is))
refused_is (refused refusal) is = refl

-- the entry that gives a new entity the text
abbrev pub entry_of_text : List ℕ → World → Entry
entry_of_text bytes world = entry_in (step world.history (text bytes) clock no_guard)

abbrev pub recorded : ℕ → List ℕ → World → World
recorded s bytes world = committed s (entry_of_text bytes world) world

abbrev pub failed : ℕ → List ℕ → World → World
failed s bytes world = stopped_at (entry_of_text bytes world) (synced s world)

abbrev pub mailed : ℕ → World → World
mailed s world = with_session s (with_mail (basis world.history)) world

abbrev pub begun : World → World
begun world = record world { merging = Some (basis world.history) }

abbrev pub kept : ℕ → World → World
kept c world = record world { kept = world.kept ++ c ∷ [] }

abbrev pub adopted : ℕ → World → World
adopted c world = record world { adopted = c; merging = None }

abbrev pub abandoned : World → World
abandoned world = record world { merging = None }

pub records : (s : ℕ) (bytes : List ℕ) (world : World) → world.stop ≡ None
    → is_accepted (step world.history (text bytes) clock no_guard) ≡ true
    → Happens no_guard world (accept s (text bytes) clock) (recorded s bytes world)
records s bytes world none is =
    let outcome = step world.history (text bytes) clock no_guard in
    (entry_in outcome, tempids_in outcome, none, accepted_is outcome is, refl)

pub fails : (s : ℕ) (bytes : List ℕ) (world : World) → world.stop ≡ None
    → is_accepted (step world.history (text bytes) clock no_guard) ≡ true
    → Happens no_guard world (fail s (text bytes) clock) (failed s bytes world)
fails s bytes world none is =
    let outcome = step world.history (text bytes) clock no_guard in
    (entry_in outcome, tempids_in outcome, none, accepted_is outcome is, refl)

pub refuses : (s : ℕ) (asked : Form) (world : World) → world.stop ≡ None → is_accepted (step world.history asked clock no_guard) ≡ false
    → Happens no_guard world (refuse s asked) (synced s world)
refuses s asked world none is =
    let outcome = step world.history asked clock no_guard in
    (clock, refusal_in outcome, none, refused_is outcome is, refl)

-- ---- crashes

pub crashes_to : (before : World) (h : List Entry) (adopted : ℕ) → IsLeftOf before h → IsFoundIn before.kept h adopted
    → Happens no_guard before crash (opened h adopted before.kept)
crashes_to before h adopted log found =
    record { log = log; kept = inl ([], sym (append-nil before.kept)); adopted = found; is_opened = refl }

-- ---- the worlds

abbrev pub a_by : ℕ → World
a_by s = recorded s (codes "a") start

abbrev pub a_and_b_by : ℕ → ℕ → World
a_and_b_by s other = recorded other (codes "b") (a_by s)

pub a_happens : (s : ℕ) → Happens no_guard start (accept s (text (codes "a")) clock) (a_by s)
a_happens s = records s (codes "a") start refl refl

pub a_and_b_happen : (s other : ℕ)
    → Runs no_guard start (accept s (text (codes "a")) clock ∷ accept other (text (codes "b")) clock ∷ []) (a_and_b_by s other)
a_and_b_happen s other = (a_by s, a_happens s, (a_and_b_by s other, records other (codes "b") (a_by s) refl refl, refl))
