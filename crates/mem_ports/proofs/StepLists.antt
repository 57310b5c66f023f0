-- What a record's entries and its bytes say together.
use Rattle.std.proofs.Common.{◌≡◌, ◌+◌, ◌*◌, ◌≤◌, ℕ, List, [], ◌∷◌, ◌++◌, length, take, drop, max, refl, ◌∙◌, ap, arith, length-drop}
use Rattle.std.proofs.lemmas.List.{length-take, take-append-le, drop-append-le, take_all}
use Rattle.disk_model.specs.Record.{Change, wrote, cut_to, synced}
use Rattle.mem_ports.specs.Room.{room_taken}
use Rattle.mem_ports.specs.Steps.{changes_of, bytes_written, furthest_end}
use Rattle.mem_ports.specs.declared.disks.record.Step.{Step}
use Rattle.mem_ports.specs.declared.disks.record.Step.TheVariants.{Wrote, Cut, Synced}

pub room_taken-changes_of : (steps : List Step) (bytes : List ℕ) → bytes_written steps ≤ length bytes
    → room_taken (changes_of steps bytes) ≡ bytes_written steps + 24 * length steps
room_taken-changes_of [] bytes le = refl
room_taken-changes_of (Wrote at len ∷ steps) bytes le =
    omega (arith, length-take len bytes, room_taken-changes_of steps (drop len bytes) (omega (arith, length-drop len bytes)))
room_taken-changes_of (Cut len ∷ steps) bytes le = omega (arith, room_taken-changes_of steps bytes le)
room_taken-changes_of (Synced ∷ steps) bytes le = omega (arith, room_taken-changes_of steps bytes le)

pub bytes_written-push : (steps : List Step) (step : Step)
    → bytes_written (steps ++ step ∷ []) ≡ bytes_written steps + bytes_written (step ∷ [])
bytes_written-push [] step = omega arith
bytes_written-push (Wrote at len ∷ steps) step = omega (arith, bytes_written-push steps step)
bytes_written-push (Cut len ∷ steps) step = bytes_written-push steps step
bytes_written-push (Synced ∷ steps) step = bytes_written-push steps step

pub changes_of-wrote : (steps : List Step) (bytes : List ℕ) (at : ℕ) (piece : List ℕ) → bytes_written steps ≡ length bytes
    → changes_of (steps ++ Wrote at (length piece) ∷ []) (bytes ++ piece) ≡ changes_of steps bytes ++ wrote at piece ∷ []
changes_of-wrote [] [] at piece is = ap (λ (l : List ℕ). wrote at l ∷ []) (take_all (length piece) piece (omega arith))
changes_of-wrote [] (b ∷ bytes) at piece is = absurd (omega arith)
changes_of-wrote (Wrote to len ∷ steps) bytes at piece is =
    let in_it : len ≤ length bytes = omega arith in
    ap (λ (l : List ℕ). wrote to l ∷ changes_of (steps ++ Wrote at (length piece) ∷ []) (drop len (bytes ++ piece)))
    (take-append-le len bytes piece in_it)
    ∙ ap (λ (l : List ℕ). wrote to (take len bytes) ∷ changes_of (steps ++ Wrote at (length piece) ∷ []) l)
    (drop-append-le len bytes piece in_it)
    ∙ ap (λ (l : List Change). wrote to (take len bytes) ∷ l)
    (changes_of-wrote steps (drop len bytes) at piece (omega (arith, length-drop len bytes)))
changes_of-wrote (Cut n ∷ steps) bytes at piece is = ap (λ (l : List Change). cut_to n ∷ l) (changes_of-wrote steps bytes at piece is)
changes_of-wrote (Synced ∷ steps) bytes at piece is = ap (λ (l : List Change). synced ∷ l) (changes_of-wrote steps bytes at piece is)

pub changes_of-cut : (steps : List Step) (bytes : List ℕ) (n : ℕ)
    → changes_of (steps ++ Cut n ∷ []) bytes ≡ changes_of steps bytes ++ cut_to n ∷ []
changes_of-cut [] bytes n = refl
changes_of-cut (Wrote to len ∷ steps) bytes n =
    ap (λ (l : List Change). wrote to (take len bytes) ∷ l) (changes_of-cut steps (drop len bytes) n)
changes_of-cut (Cut m ∷ steps) bytes n = ap (λ (l : List Change). cut_to m ∷ l) (changes_of-cut steps bytes n)
changes_of-cut (Synced ∷ steps) bytes n = ap (λ (l : List Change). synced ∷ l) (changes_of-cut steps bytes n)

pub changes_of-synced : (steps : List Step) (bytes : List ℕ)
    → changes_of (steps ++ Synced ∷ []) bytes ≡ changes_of steps bytes ++ synced ∷ []
changes_of-synced [] bytes = refl
changes_of-synced (Wrote to len ∷ steps) bytes =
    ap (λ (l : List Change). wrote to (take len bytes) ∷ l) (changes_of-synced steps (drop len bytes))
changes_of-synced (Cut m ∷ steps) bytes = ap (λ (l : List Change). cut_to m ∷ l) (changes_of-synced steps bytes)
changes_of-synced (Synced ∷ steps) bytes = ap (λ (l : List Change). synced ∷ l) (changes_of-synced steps bytes)

pub furthest_end-push : (steps : List Step) (step : Step)
    → furthest_end (steps ++ step ∷ []) ≡ max (furthest_end steps) (furthest_end (step ∷ []))
furthest_end-push [] step = omega arith
furthest_end-push (Wrote at len ∷ steps) step = omega (arith, furthest_end-push steps step)
furthest_end-push (Cut len ∷ steps) step = furthest_end-push steps step
furthest_end-push (Synced ∷ steps) step = furthest_end-push steps step

pub ruleset room_laws = (room_taken-changes_of)

pub ruleset record_laws =
    (room_taken-changes_of, bytes_written-push, furthest_end-push, changes_of-wrote, changes_of-cut, changes_of-synced)
