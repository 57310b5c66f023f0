-- What a record that is added does to the file of a journal, and to what a crash leaves of it.
use Rattle.std.proofs.Common.{◌≡◌, ◌⊎◌, inl, inr, ⊎_elim, ◌+◌, ◌<◌, ◌^◌, ℕ, List, [], ◌∷◌, ◌++◌, length, Option, None, Some, option_map}
use Rattle.std.proofs.Common.{refl, sym, ◌∙◌, ap, subst, arith, length-append}
use Rattle.disk_model.specs.Disk.{written, Torn, IfKnown, LeavesOnly}
use Rattle.disk_model.specs.Journal.{opened, framed, record_of, Holds}
use Rattle.disk_model.proofs.Journals.{staged, appended, torn_behind, torn_gate, written_behind, written_gate, holds-appended, stands-holds}
use Rattle.disk_model.proofs.Journals.{opened-push, length-file}
use Rattle.disk_model.proofs.Calls.{torn-written}
use Rattle.disk_model.proofs.Moments.{weakened}
use Rattle.fb_journal.specs.Journals.{IsBeforeOrAfter}
use Rattle.fb_journal.specs.Laying.{with_zeros, opened_beside, TornOpening, TornAdding}
use Rattle.fb_journal.specs.Marks.{mark_bytes}
use Rattle.fb_journal.specs.declared.marks.Mark.{Mark}
use Rattle.fb_journal.specs.declared.marks.Mark.TheVariants.{Log, Segments}
use Rattle.fb_journal.proofs.Laying.{holds-past, written-lies}
use Rattle.fb_journal.proofs.Zeroing.{lies-with_zeros}

pub length-mark_bytes : (mark : Mark) → length (mark_bytes mark) ≡ 15
length-mark_bytes Log = refl
length-mark_bytes Segments = refl

-- the next gate
pub gate-added : (mark : List ℕ) (records : List (List ℕ)) (payload : List ℕ) (gate : ℕ) (piece : List ℕ) → piece ≡ record_of payload
    → gate ≡ length mark + length (opened records)
    → gate + length piece ≡ length mark + length (opened (records ++ payload ∷ []))
gate-added mark records payload gate piece is place =
    omega (
      arith,
      place,
      ap length is,
      ap length (opened-push records payload),
      length-append (opened records) (1 ∷ framed payload),
      length-append (framed payload) (0 ∷ []),
    )

module _ (mark : List ℕ) (records : List (List ℕ)) (payload : List ℕ) (gate : ℕ) (piece file : List ℕ) (fifteen : length mark ≡ 15)
    (is : piece ≡ record_of payload) (fits : length payload < 2 ^ 64) (place : gate ≡ length mark + length (opened records))
    (holds : Holds mark records file) where
  behind : written (gate + 1) piece file ≡ staged (mark ++ opened records) holds.gate payload holds.rest
  behind =
      let end : gate + 1 ≡ length mark + length (opened records) + 1 = omega arith in
      ap (λ (n : ℕ). written n piece file) end
      ∙ ap (λ (l : List ℕ). written (length mark + length (opened records) + 1) l file) is
      ∙ written_behind mark records file holds payload

  -- the record behind the gate
  pub stands-behind : (image : List ℕ) → Torn (gate + 1) (length piece) file image → IsBeforeOrAfter mark records payload image
  stands-behind image torn =
      let end : gate + 1 ≡ length mark + length (opened records) + 1 = omega arith in
      inl (stands-holds mark records image fifteen
      (torn_behind mark records file holds (length piece) image (subst (λ (n : ℕ). Torn n (length piece) file image) end torn)))

  -- the gate
  opens : (image : List ℕ) → Torn gate 1 (written (gate + 1) piece file) image
      → Holds mark records image ⊎ Holds mark (records ++ payload ∷ []) image
  opens image torn =
      torn_gate mark records holds.gate payload holds.rest image
      (subst (λ (n : ℕ). Torn n 1 (staged (mark ++ opened records) holds.gate payload holds.rest) image) place
      (subst (λ (l : List ℕ). Torn gate 1 l image) behind torn)) holds.lengths fits

  -- the record that follows the next gate
  next_place : gate + 1 + length piece ≡ length mark + length (opened (records ++ payload ∷ [])) + 1
  next_place = omega (arith, gate-added mark records payload gate piece is place)

  -- the gate, and what is laid behind the next one under the same sync
  pub stands-opening : (n : ℕ) (image : List ℕ) → TornOpening gate (gate + 1 + length piece) n (written (gate + 1) piece file) image
      → IsBeforeOrAfter mark records payload image
  stands-opening n image torn =
      let mid : List ℕ = torn.0 in
      ⊎_elim
      (λ before. inl (stands-holds mark records image fifteen
      (holds-past mark records mid before (gate + 1 + length piece) n (omega (arith, place)) image torn.2)))
      (λ after. inr (stands-holds mark (records ++ payload ∷ []) image fifteen
      (torn_behind mark (records ++ payload ∷ []) mid after n image (subst (λ (k : ℕ). Torn k n mid image) next_place torn.2))))
      (opens mid torn.1)

  pub holds-added : (next : List ℕ)
      → Holds mark (records ++ payload ∷ []) (written (gate + 1 + length piece) next (written gate (1 ∷ []) (written (gate + 1) piece file)))
  holds-added next =
      let after : List ℕ = written gate (1 ∷ []) (written (gate + 1) piece file) in
      let whole : after ≡ appended (mark ++ opened records) payload holds.rest =
      ap (λ (l : List ℕ). written gate (1 ∷ []) l) behind
      ∙ ap (λ (n : ℕ). written n (1 ∷ []) (staged (mark ++ opened records) holds.gate payload holds.rest)) place
      ∙ written_gate mark records holds.gate payload holds.rest in
      let held : Holds mark (records ++ payload ∷ []) after =
      subst (Holds mark (records ++ payload ∷ [])) (sym whole) (holds-appended mark records payload holds.rest holds.lengths fits) in
      let last : List ℕ = written (gate + 1 + length piece) next after in
      torn_behind mark (records ++ payload ∷ []) after held (length next) last
      (subst (λ (k : ℕ). Torn k (length next) after last) next_place (torn-written (gate + 1 + length piece) next after))

-- the same with zeros behind the record: they are behind a gate that is closed, and the record lies there with them as without
module _ (mark : List ℕ) (records : List (List ℕ)) (payload : List ℕ) (gate : ℕ) (piece zeros file : List ℕ) (fifteen : length mark ≡ 15)
    (is : piece ≡ record_of payload) (fits : length payload < 2 ^ 64) (place : gate ≡ length mark + length (opened records))
    (holds : Holds mark records file) where
  abbrev staged_file : List ℕ
  staged_file = written (gate + 1) piece file

  abbrev zeroed : List ℕ
  zeroed = with_zeros gate piece zeros file

  holds-staged : Holds mark records staged_file
  holds-staged =
      holds-past mark records file holds (gate + 1) (length piece) (omega (arith, place)) staged_file (torn-written (gate + 1) piece file)

  -- the zeros
  holds-torn : (image : List ℕ) → Torn (gate + 1 + length piece) (length zeros) staged_file image → Holds mark records image
  holds-torn image torn =
      holds-past mark records staged_file holds-staged (gate + 1 + length piece) (length zeros) (omega (arith, place)) image torn

  holds-zeroed : Holds mark records zeroed
  holds-zeroed = holds-torn zeroed (torn-written (gate + 1 + length piece) zeros staged_file)

  again : written (gate + 1) piece zeroed ≡ zeroed
  again =
      written-lies (gate + 1) piece zeroed
      (lies-with_zeros gate piece zeros file (omega (arith, place, length-file mark records file holds)))

  stands-adding : (n : ℕ) (image : List ℕ) → TornAdding gate piece zeros n file image → IsBeforeOrAfter mark records payload image
  stands-adding n image torn =
      ⊎_elim
      (stands-behind mark records payload gate piece file fifteen is fits place holds image)
      (λ behind. ⊎_elim
      (λ laid. inl (stands-holds mark records image fifteen (holds-torn image laid)))
      (λ opening. stands-opening mark records payload gate piece zeroed fifteen is fits place holds-zeroed n image
      (subst (λ (l : List ℕ). TornOpening gate (gate + 1 + length piece) n l image) (sym again) opening))
      behind)
      torn

  -- all writes
  pub run-added : {D : Type 0} (moment : D → ℕ) (since : D → ℕ → List ℕ → Type 0) (old new : D) (n : ℕ)
      → LeavesOnly moment since old new (TornAdding gate piece zeros n file)
      → LeavesOnly moment since old new (IsBeforeOrAfter mark records payload)
  run-added moment since old new n run = weakened moment since old new _ _ run (λ image torn. stands-adding n image torn)

  pub holds-opened : (next : List ℕ) → Holds mark (records ++ payload ∷ []) (opened_beside gate piece zeros next file)
  holds-opened next =
      subst (λ (l : List ℕ). Holds mark (records ++ payload ∷ []) (written (gate + 1 + length piece) next (written gate (1 ∷ []) l))) again
      (holds-added mark records payload gate piece zeroed fifteen is fits place holds-zeroed next)

-- where the disk tells its bytes afterwards, it did before
pub told-added : (told told' : Option (List ℕ)) (mark : List ℕ) (records : List (List ℕ)) (payload : List ℕ) (gate : ℕ)
    (piece zeros next : List ℕ)
    → told' ≡ option_map (opened_beside gate piece zeros next) told
    → length mark ≡ 15 → piece ≡ record_of payload → length payload < 2 ^ 64 → gate ≡ length mark + length (opened records)
    → IfKnown told (λ file. Holds mark records file) → IfKnown told' (λ file. Holds mark (records ++ payload ∷ []) file)
told-added None told' mark records payload gate piece zeros next same fifteen is fits place holds = λ file told. absurd (cc)
told-added (Some before) told' mark records payload gate piece zeros next same fifteen is fits place holds = λ file told.
    let whole : opened_beside gate piece zeros next before ≡ file = cc in
    subst (Holds mark (records ++ payload ∷ [])) whole
    (holds-opened mark records payload gate piece zeros before fifteen is fits place (holds before refl) next)
