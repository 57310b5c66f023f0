-- What a start makes of a file, and what is at a gate of it.
use Rattle.std.proofs.Common.{inl, inr, ◌≡◌, ◌≤◌, ◌+◌, ◌<◌, ℕ, List, [], ◌∷◌, ◌++◌, length, take, drop, get_or, Option, None, Some, option_map}
use Rattle.std.proofs.Common.{sym, ◌∙◌, ap, arith, length-append, take-append-drop}
use Rattle.std.proofs.lemmas.List.{drop_more}
use Rattle.disk_model.specs.Disk.{Torn}
use Rattle.disk_model.specs.Journal.{new_journal, opened, JournalStands}
use Rattle.fb_journal.specs.Marks.{mark_bytes}
use Rattle.fb_journal.specs.declared.marks.Mark.{Mark}
use Rattle.fb_journal.proofs.Appends.{length-mark_bytes}

pub length-new_journal : (mark : Mark) → length (new_journal (mark_bytes mark)) ≡ 16
length-new_journal mark = omega (arith, length-mark_bytes mark, length-append (mark_bytes mark) (0 ∷ []))

-- a disk that was begun anew
pub told-anew : (told told' : Option (List ℕ)) (piece file : List ℕ) → told' ≡ option_map (λ _. piece) told → told' ≡ Some file → piece ≡ file
told-anew None told' piece file same is = absurd (cc)
told-anew (Some before) told' piece file same is = cc

-- a new journal that is torn stays short
pub torn-new : (piece file image : List ℕ) → length piece ≡ 16 → length file ≤ 16 → Torn 0 (length piece) file image → length image ≤ 16
torn-new piece file image sixteen short torn = omega (arith, torn.no_longer, sixteen, short)

-- the file around a gate
pub at-gate : (file mark : List ℕ) (records : List (List ℕ)) (gate : ℕ) → take gate file ≡ mark ++ opened records → gate < length file
    → file ≡ mark ++ opened records ++ get_or file gate 0 ∷ drop (gate + 1) file
at-gate file mark records gate front within =
    sym (take-append-drop gate file)
    ∙ ap (λ (l : List ℕ). l ++ drop gate file) front
    ∙ ap (λ (l : List ℕ). mark ++ opened records ++ l) (drop_more file gate 0 within)

-- at most sixteen bytes stand for what at most sixteen stood for
pub still_new : (mark : List ℕ) (records : List (List ℕ)) (file image : List ℕ) → length file ≤ 16 → length image ≤ 16
    → JournalStands mark records file → JournalStands mark records image
still_new mark records file image short shorter (inl new_one) = inl (shorter, new_one.1)
still_new mark records file image short shorter (inr longer) = absurd (omega (arith, longer.0, short))
