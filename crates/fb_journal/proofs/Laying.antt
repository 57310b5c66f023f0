-- What a record that is laid behind a closed gate does to the file, and to what a crash leaves of it.
use Rattle.std.proofs.Common.{inl, inr, ◌⊎◌, ◌≡◌, ◌≤◌, ◌<◌, ◌+◌, ◌^◌, ℕ, List, [], ◌∷◌, ◌++◌, length, take, drop, min, Option, None, Some, option_map}
use Rattle.std.proofs.Common.{◌==◌, true, refl, sym, ◌∙◌, ap, subst, arith, append_assoc, length-take, take-append-drop}
use Rattle.std.specs.Prelude.{IfSome}
use Rattle.std.proofs.lemmas.Bool.Decides.{Decides-eqb}
use Rattle.std.proofs.lemmas.List.{take_at, drop_at, take-take}
use Rattle.std.proofs.Math.Seq.{take-add}
use Rattle.disk_model.specs.Disk.{written, Torn, Only, Follows, Within, IfKnown, Elapses, LeavesOnly}
use Rattle.disk_model.specs.Journal.{opened, record_of, Holds}
use Rattle.disk_model.proofs.Calls.{length-written, written-within, torn-same}
use Rattle.disk_model.proofs.Journals.{length-file, holds-same}
use Rattle.disk_model.proofs.Moments.{started, goes_on, joined}
use Rattle.fb_journal.specs.Laying.{LiesAt, IsLaid, record_if, with_zeros, opened_beside, TornOpening}

-- ---- bytes that lie in a file

module _ (at : ℕ) (piece file : List ℕ) where
  -- to write them where they lie changes nothing
  pub written-lies : LiesAt at piece file → written at piece file ≡ file
  written-lies lies =
      let n : ℕ = length piece in
      written-within at piece file (omega (arith, lies.0))
      ∙ ap (λ (l : List ℕ). take at file ++ l ++ drop (at + n) file) (sym lies.1)
      ∙ ap (λ (l : List ℕ). l ++ drop (at + n) file) (sym (take-add at n file))
      ∙ take-append-drop (at + n) file

  -- bytes that were written lie there
  pub lies-written : at ≤ length file → LiesAt at piece (written at piece file)
  lies-written within =
      let front : length (take at file) ≡ at = omega (arith, length-take at file, within) in
      let rest : List ℕ = drop (at + length piece) file in (
        omega (arith, length-written at piece file),
        ap (λ (l : List ℕ). take (length piece) (drop at l)) (written-within at piece file within ∙ append_assoc (take at file) piece rest)
            ∙ ap (λ (l : List ℕ). take (length piece) l) (drop_at (take at file) (piece ++ rest) at front)
            ∙ take_at piece rest (length piece) refl,
      )

-- none lie anywhere
pub none-lie : (at : ℕ) (file : List ℕ) → at ≤ length file → LiesAt at [] file
none-lie at file within = (omega (arith, within), refl)

-- a disk whose bytes stay the same under a change that leaves such files as they are
pub told-same : (known : Option (List ℕ)) (change : List ℕ → List ℕ) → IfKnown known (λ file. change file ≡ file)
    → known ≡ option_map change known
told-same None change same = refl
told-same (Some file) change same = ap Some (sym (same file refl))

pub no_items : (items : List ℕ) → (length items == 0) ≡ true → items ≡ []
no_items items none = empty items ((Decides-eqb (length items) 0).0 none)
  where
    empty : (items : List ℕ) → length items ≡ 0 → items ≡ []
    empty [] none = refl
    empty (b ∷ items) none = absurd (omega (arith, none))

-- a disk on which nothing was written behind the gate that was opened
pub told-gate : (known known' : Option (List ℕ)) (gate at : ℕ) (next : List ℕ) → next ≡ []
    → known' ≡ option_map (written gate (1 ∷ [])) known → IfKnown known (λ file. at ≤ length file)
    → known' ≡ option_map (λ file. written at next (written gate (1 ∷ []) file)) known
told-gate None known' gate at next none same within = same
told-gate (Some file) known' gate at next none same within =
    let opens : List ℕ = written gate (1 ∷ []) file in
    let long : at ≤ length opens = omega (arith, length-written gate (1 ∷ []) file, within file refl) in
    same
    ∙ ap Some (sym (written-lies at [] opens (none-lie at opens long)) ∙ ap (λ (l : List ℕ). written at l opens) (sym none))

-- a disk that has a record behind a gate has it still with what follows
pub told-staged : (known known' : Option (List ℕ)) (at : ℕ) (piece : List ℕ) → known' ≡ option_map (written at piece) known
    → IfKnown known' (λ file. at + length piece ≤ length file)
told-staged None known' at piece same = λ file told. absurd (cc)
told-staged (Some before) known' at piece same = λ file told.
    let whole : written at piece before ≡ file = cc in
    omega (arith, length-written at piece before, ap length whole)

-- where a gate was opened, what was laid lies behind the next
pub told-laid : (known known' : Option (List ℕ)) (gate : ℕ) (piece zeros next : List ℕ)
    → known' ≡ option_map (opened_beside gate piece zeros next) known → IfKnown known' (LiesAt (gate + 1 + length piece) next)
told-laid None known' gate piece zeros next same = λ file told. absurd (cc)
told-laid (Some before) known' gate piece zeros next same = λ file told.
    let whole : opened_beside gate piece zeros next before ≡ file = cc in
    let behind : List ℕ = with_zeros gate piece zeros before in
    let long : gate + 1 + length piece ≤ length (written gate (1 ∷ []) behind) =
    omega (
      arith,
      length-written gate (1 ∷ []) behind,
      length-written (gate + 1 + length piece) zeros (written (gate + 1) piece before),
    ) in
    subst (LiesAt (gate + 1 + length piece) next) whole
    (lies-written (gate + 1 + length piece) next (written gate (1 ∷ []) behind) long)

-- the record that was laid, if there is one
pub laid-next : (next known : Option (List ℕ)) (at : ℕ) → at + length (record_if next) < 2 ^ 64 → IfKnown known (LiesAt at (record_if next))
    → IfSome next (λ payload. IsLaid known at (record_of payload))
laid-next None known at room lies = tt
laid-next (Some payload) known at room lies = (room, lies)

-- the record that was laid, where it is the one that comes
pub laid-here : (laid known : Option (List ℕ)) (at : ℕ) (payload piece : List ℕ) → piece ≡ record_of payload → laid ≡ Some payload
    → IfSome laid (λ p. IsLaid known at (record_of p)) → IsLaid known at piece
laid-here laid known at payload piece is same lies =
    subst (IsLaid known at) (sym is) (subst (λ (o : Option (List ℕ)). IfSome o (λ p. IsLaid known at (record_of p))) same lies)

-- ---- what a crash leaves

-- a write behind the gate leaves the records as they are
pub holds-past : (mark : List ℕ) (records : List (List ℕ)) (file : List ℕ) → Holds mark records file → (at n : ℕ)
    → length mark + length (opened records) + 1 ≤ at → (image : List ℕ) → Torn at n file image → Holds mark records image
holds-past mark records file holds at n past image torn =
    let end : ℕ = length mark + length (opened records) + 1 in
    let long : end ≤ length file = omega (arith, length-file mark records file holds) in
    holds-same mark records file holds image
    (sym (take-take end (min at (length file)) image (omega (arith, past, long)))
    ∙ ap (λ (l : List ℕ). take end l) torn.before
    ∙ take-take end at file past)

-- a write, one behind it, and what opens the gate
pub run-three : {D : Type 0} (moment : D → ℕ) (since : D → ℕ → List ℕ → Type 0) (old one two new : D) (P Q R : List ℕ → Type 0)
    → LeavesOnly moment since old one P → LeavesOnly moment since one two Q → LeavesOnly moment since two new R
    → LeavesOnly moment since old new (λ image. P image ⊎ (Q image ⊎ R image))
run-three moment since old one two new P Q R first second third =
    joined moment since old one new P (λ image. Q image ⊎ R image) (λ image. P image ⊎ (Q image ⊎ R image)) first
    (joined moment since one two new Q R (λ image. Q image ⊎ R image) second third (λ image left. inl left) (λ image left. inr left))
    (λ image left. inl left)
    (λ image left. inr left)

-- a write, and one behind it
pub run-both : {D : Type 0} (moment : D → ℕ) (since : D → ℕ → List ℕ → Type 0) (old one two : D) (P Q R : List ℕ → Type 0)
    → LeavesOnly moment since old one P → LeavesOnly moment since one two Q
    → LeavesOnly moment since old two (λ image. P image ⊎ (Q image ⊎ R image))
run-both moment since old one two P Q R first second =
    joined moment since old one two P Q (λ image. P image ⊎ (Q image ⊎ R image)) first second (λ image left. inl left)
    (λ image left. inr (inl left))

-- a gate, and what is written behind it under the same sync
module _ {D : Type 0} (images : D → List ℕ → Type 0) (moment : D → ℕ) (since : D → ℕ → List ℕ → Type 0)
    (only_now : (disk : D) (image : List ℕ) → since disk (moment disk) image → images disk image) (gate at n : ℕ) (file : List ℕ)
    (old one : D) (only : Only file (images old)) (gate_torn : Follows (Torn gate 1) (images old) (images one))
    (gate_time : Elapses (moment old) (moment one) (since old) (since one) (images one)) where
  torn-one : (image : List ℕ) → images one image → Torn gate 1 file image
  torn-one image left = let was = gate_torn image left in subst (λ (f : List ℕ). Torn gate 1 f image) (only was.0 was.1) was.2

  torn-none : (image : List ℕ) → since old (moment old) image → TornOpening gate at n file image
  torn-none image now =
      subst (TornOpening gate at n file) (sym (only image (only_now old image now))) (file, torn-same gate 1 file, torn-same at n file)

  half : (image : List ℕ) → images one image → TornOpening gate at n file image
  half image left = (image, torn-one image left, torn-same at n image)

  pub run-gate : LeavesOnly moment since old one (TornOpening gate at n file)
  run-gate =
      goes_on moment since old old one (TornOpening gate at n file) (images one) (started moment since old (TornOpening gate at n file) torn-none)
      gate_time half

  pub run-gate-synced : (new : D) → Within (images one) (images new)
      → Elapses (moment one) (moment new) (since one) (since new) (images new)
      → LeavesOnly moment since old new (TornOpening gate at n file)
  run-gate-synced new within time =
      goes_on moment since old one new (TornOpening gate at n file) (images new) run-gate time (λ image left. half image (within image left))

  module _ (two : D) (next_torn : Follows (Torn at n) (images one) (images two))
      (next_time : Elapses (moment one) (moment two) (since one) (since two) (images two)) where
    both : (image : List ℕ) → images two image → TornOpening gate at n file image
    both image left = let was = next_torn image left in (was.0, torn-one was.0 was.1, was.2)

    pub run-next : LeavesOnly moment since old two (TornOpening gate at n file)
    run-next = goes_on moment since old one two (TornOpening gate at n file) (images two) run-gate next_time both

    pub run-next-synced : (new : D) → Within (images two) (images new)
        → Elapses (moment two) (moment new) (since two) (since new) (images new)
        → LeavesOnly moment since old new (TornOpening gate at n file)
    run-next-synced new within time =
        goes_on moment since old two new (TornOpening gate at n file) (images new) run-next time (λ image left. both image (within image left))
