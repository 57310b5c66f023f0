-- Zeros that are written behind a record, a piece after another.
use Rattle.std.proofs.Common.{◌≡◌, ◌≤◌, ◌+◌, ◌-◌, ℕ, List, [], ◌++◌, length, take, drop, min, replicate, Option, None, Some, option_map}
use Rattle.std.proofs.Common.{refl, sym, ◌∙◌, ap, subst, arith, append_assoc, length-append, length-take}
use Rattle.std.proofs.lemmas.List.{take_at, take-take, drop-drop, drop-take, length-replicate, replicate-append-replicate}
use Rattle.std.proofs.Math.Seq.{drop-append-add}
use Rattle.disk_model.specs.Disk.{written, Torn, IfKnown}
use Rattle.disk_model.proofs.Calls.{length-written, written-within, torn-written}
use Rattle.fb_journal.specs.Laying.{LiesAt, with_zeros}
use Rattle.fb_journal.proofs.Laying.{lies-written, written-lies, none-lie, told-same}

-- one write behind another is one write of both
pub written-more : (from : ℕ) (p q file : List ℕ) → from ≤ length file
    → written (from + length p) q (written from p file) ≡ written from (p ++ q) file
written-more from p q file within =
    let k : ℕ = length p in
    let n : ℕ = length q in
    let front : List ℕ = take from file ++ p in
    let rest : List ℕ = drop (from + k) file in
    let once : written from p file ≡ front ++ rest = written-within from p file within in
    let size : length front ≡ from + k = omega (arith, length-append (take from file) p, length-take from file, within) in
    let long : from + k ≤ length (front ++ rest) = omega (arith, size, length-append front rest) in
    let past : drop (from + k + n) (front ++ rest) ≡ drop (from + length (p ++ q)) file =
    ap (λ (m : ℕ). drop (m + n) (front ++ rest)) (sym size)
    ∙ drop-append-add front rest n
    ∙ drop-drop n (from + k) file
    ∙ ap (λ (m : ℕ). drop m file) (omega (arith, length-append p q)) in
    ap (λ (l : List ℕ). written (from + k) q l) once
    ∙ written-within (from + k) q (front ++ rest) long
    ∙ ap (λ (l : List ℕ). l ++ q ++ drop (from + k + n) (front ++ rest)) (take_at front rest (from + k) size)
    ∙ ap (λ (l : List ℕ). front ++ q ++ l) past
    ∙ ap (λ (l : List ℕ). l ++ drop (from + length (p ++ q)) file) (append_assoc (take from file) p q)
    ∙ sym (written-within from (p ++ q) file within)

-- and so is what a crash may make of them
pub torn-more : (from k n : ℕ) (file mid image : List ℕ) → Torn from k file mid → Torn (from + k) n mid image
    → Torn from (k + n) file image
torn-more from k n file mid image first second =
    let least : ℕ = min from (length file) in record {
      before =
          sym (take-take least (min (from + k) (length mid)) image (omega (arith, first.no_shorter)))
          ∙ ap (λ (l : List ℕ). take least l) second.before
          ∙ take-take least (from + k) mid (omega arith)
          ∙ first.before;
      behind =
          ap (λ (m : ℕ). drop m image) (omega arith)
          ∙ second.behind
          ∙ sym (drop-drop n (from + k) mid)
          ∙ ap (λ (l : List ℕ). drop n l) first.behind
          ∙ drop-drop n (from + k) file
          ∙ ap (λ (m : ℕ). drop m file) (omega arith);
      no_shorter = omega (arith, first.no_shorter, second.no_shorter);
      no_longer = omega (arith, first.no_longer, second.no_longer);
    }

pub torn-wider : (from k n : ℕ) (file image : List ℕ) → k ≤ n → Torn from k file image → Torn from n file image
torn-wider from k n file image le torn = record {
  before = torn.before;
  behind =
      ap (λ (m : ℕ). drop m image) (omega (arith, le))
      ∙ sym (drop-drop (n - k) (from + k) image)
      ∙ ap (λ (l : List ℕ). drop (n - k) l) torn.behind
      ∙ drop-drop (n - k) (from + k) file
      ∙ ap (λ (m : ℕ). drop m file) (omega (arith, le));
  no_shorter = torn.no_shorter;
  no_longer = omega (arith, le, torn.no_longer);
}

-- a disk before the first zeros
pub told-none : (known : Option (List ℕ)) (from : ℕ) → IfKnown known (λ file. from ≤ length file)
    → known ≡ option_map (written from []) known
told-none known from within =
    told-same known (written from []) (λ file told. written-lies from [] file (none-lie from file (within file told)))

-- a disk with some zeros, and with the next ones
pub told-more : (known known' known'' : Option (List ℕ)) (from k n : ℕ) → IfKnown known (λ file. from ≤ length file)
    → known' ≡ option_map (written from (replicate k 0)) known → known'' ≡ option_map (written (from + k) (replicate n 0)) known'
    → known'' ≡ option_map (written from (replicate (k + n) 0)) known
told-more None known' known'' from k n within first second =
    second ∙ ap (λ (o : Option (List ℕ)). option_map (written (from + k) (replicate n 0)) o) first
told-more (Some file) known' known'' from k n within first second =
    let zeros : List ℕ = replicate k 0 in
    second
    ∙ ap (λ (o : Option (List ℕ)). option_map (written (from + k) (replicate n 0)) o) first
    ∙ ap Some
    (ap (λ (m : ℕ). written (from + m) (replicate n 0) (written from zeros file)) (sym (length-replicate k 0))
    ∙ written-more from zeros (replicate n 0) file (within file refl)
    ∙ ap (λ (l : List ℕ). written from l file) (replicate-append-replicate k n 0))

-- a disk that has a record and zeros behind a gate
pub told-zeros : (known known' known'' : Option (List ℕ)) (at from : ℕ) (piece zeros : List ℕ)
    → known' ≡ option_map (written at piece) known → known'' ≡ option_map (written from zeros) known' → from ≡ at + length piece
    → IfKnown known'' (λ file. from ≤ length file)
told-zeros None known' known'' at from piece zeros first second place = λ file told. absurd (cc)
told-zeros (Some before) known' known'' at from piece zeros first second place = λ file told.
    let whole : written from zeros (written at piece before) ≡ file = cc in
    omega (arith, place, length-written at piece before, length-written from zeros (written at piece before), ap length whole)

-- bytes in front of a write stay where they lie
pub lies-torn : (at : ℕ) (piece : List ℕ) (n : ℕ) (file image : List ℕ) → LiesAt at piece file → Torn (at + length piece) n file image
    → LiesAt at piece image
lies-torn at piece n file image lies torn =
    let k : ℕ = length piece in
    let least : min (at + k) (length file) ≡ at + k = omega (arith, lies.0) in (
      omega (arith, lies.0, torn.no_shorter),
      sym (drop-take at k image)
          ∙ ap (λ (l : List ℕ). drop at l) (subst (λ (m : ℕ). take m image ≡ take (at + k) file) least torn.before)
          ∙ drop-take at k file
          ∙ lies.1,
    )

-- a record with zeros behind it lies there
pub lies-with_zeros : (gate : ℕ) (piece zeros file : List ℕ) → gate + 1 ≤ length file
    → LiesAt (gate + 1) piece (with_zeros gate piece zeros file)
lies-with_zeros gate piece zeros file within =
    let behind : List ℕ = written (gate + 1) piece file in
    lies-torn (gate + 1) piece (length zeros) behind (with_zeros gate piece zeros file) (lies-written (gate + 1) piece file within)
    (torn-written (gate + 1 + length piece) zeros behind)
