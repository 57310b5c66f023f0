-- How a reading goes over a record of which it read the front.
use Rattle.std.proofs.Common.{◌≡◌, ◌+◌, ◌-◌, ◌≤◌, ◌<◌, ◌∙◌, ℕ, List, [], ◌∷◌, ◌++◌, length, take, drop, Option, None, Some, refl, sym, ap}
use Rattle.std.proofs.Common.{◌^◌, ⊎_elim, arith, length-append, length-take, length-drop}
use Rattle.std.specs.Prelude.{replicate}
use Rattle.std.specs.Int.{w64, from_be_bytes}
use Rattle.std.proofs.lemmas.Nat.{from_be_bytes-to_be_bytes_8}
use Rattle.std.proofs.lemmas.List.{drop-drop, length-replicate}
use Rattle.std.proofs.Math.Seq.{take-add}
use Rattle.disk_model.proofs.Moments.{started}
use Rattle.fb_journal.specs.Windows.{OnlyReads}
use Rattle.fb_journal.specs.Gates.{IsAheadAt}
use Rattle.fb_journal.specs.Readings.{HasRead, HasPlace, IsFront}
use Rattle.fb_journal.specs.declared.gates.Ahead.{Ahead}
use Rattle.fb_journal.specs.declared.gates.Ahead.TheVariants.{Closed, CutShort, Record}
use Rattle.fb_journal.specs.declared.readings.Next.{Next}
use Rattle.fb_journal.specs.declared.readings.Reading.{Reading}
use Rattle.fb_journal.specs.declared.windows.Window.{Window}
use Rattle.fb_journal.proofs.GoingOn.{read-more}

-- a record that is ahead is the one that is read there
pub one-ahead : (file : List ℕ) (gate : ℕ) (ahead : Ahead) → length file < 2 ^ 64 → IsAheadAt file gate ahead → (len : ℕ)
    → IsAheadAt file gate (Record len) → ahead ≡ Record len
one-ahead file gate Closed small is len next = absurd (is next.0)
one-ahead file gate CutShort small is len next =
    let fits : len < 2 ^ 64 = omega (arith, small, next.1.1, length-drop (gate + 1) file) in
    let same : from_be_bytes w64 (take 8 (drop (gate + 1) file)) ≡ len =
    sym (ap (from_be_bytes w64) next.1.0) ∙ from_be_bytes-to_be_bytes_8 len fits in
    ⊎_elim (λ short. absurd (omega (arith, short, next.1.1))) (λ short. absurd (omega (arith, short, next.1.1, same))) is.1
one-ahead file gate (Record other) small is len next =
    let size = length-drop (gate + 1) file in
    let fits : len < 2 ^ 64 = omega (arith, small, next.1.1, size) in
    let other-fits : other < 2 ^ 64 = omega (arith, small, is.1.1, size) in
    ap Record (sym (from_be_bytes-to_be_bytes_8 other other-fits)
    ∙ ap (from_be_bytes w64) (is.1.0 ∙ sym next.1.0)
    ∙ from_be_bytes-to_be_bytes_8 len fits)

-- what follows the front in a payload of n bytes: bytes of the file, where they are told
abbrev pub behind_front : Option (List ℕ) → ℕ → ℕ → List ℕ → List ℕ
behind_front None at n front = replicate (n - length front) 0
behind_front (Some file) at n front = take (n - length front) (drop (at + length front) file)

whole : (file front : List ℕ) (at n : ℕ) → length front ≤ n → front ≡ take (length front) (drop at file)
    → front ++ take (n - length front) (drop (at + length front) file) ≡ take n (drop at file)
whole file front at n within is =
    let k : ℕ = n - length front in
    let sum : length front + k ≡ n = omega (arith, within) in
    ap (λ (l : List ℕ). l ++ take k (drop (at + length front) file)) is
    ∙ ap (λ (l : List ℕ). take (length front) (drop at file) ++ take k l) (sym (drop-drop (length front) at file))
    ∙ sym (take-add (length front) k (drop at file))
    ∙ ap (λ (m : ℕ). take m (drop at file)) sum

module _ {D : Type 0} (bytes : D → Option (List ℕ)) (images : D → List ℕ → Type 0) (moment : D → ℕ) (since : D → ℕ → List ℕ → Type 0) where
  pub reads-none : (disk : D) (w : Window) → ((image : List ℕ) → since disk (moment disk) image → images disk image)
      → OnlyReads bytes images moment since disk disk w w
  reads-none disk w only_now = record {
    same = refl;
    crash = λ image left. left;
    any_moment = started moment since disk (images disk) only_now;
    len = refl;
    shows = λ file told shows. shows;
  }

  module _ {g : _} (mark : List ℕ) (disk : D) (records : List (List ℕ)) (old : Reading D g) (next : Next) (front : List ℕ)
      (is : HasPlace old next front) (begins : IsFront bytes old next front) (has : HasRead bytes images moment since mark disk records old) where
    size : (known : Option (List ℕ)) → bytes old.disk ≡ known
        → length (front ++ behind_front known next.place.at next.len front) ≡ next.len
    size None told =
        omega (
          arith,
          is.within,
          length-append front (replicate (next.len - length front) 0),
          length-replicate {A = ℕ} (next.len - length front) 0,
        )
    size (Some file) told =
        let rest : List ℕ = drop (next.place.at + length front) file in
        omega (
          arith,
          is.within,
          is.room,
          (has.file file told).1.len,
          length-append front (take (next.len - length front) rest),
          length-take (next.len - length front) rest,
          length-drop (next.place.at + length front) file,
        )

    pub passed : (new : Reading D g) → OnlyReads bytes images moment since old.disk new.disk old.window new.window → new.mark ≡ old.mark
        → ((disk : D) (t : ℕ) (image : List ℕ) → t ≤ moment disk → images disk image → since disk t image)
        → new.records ≡ old.records + 1 → new.gate ≡ next.place.at + next.len
        → HasRead bytes images moment since mark disk
        (records ++ (front ++ behind_front (bytes old.disk) next.place.at next.len front) ∷ []) new
    passed new leaves same counts_now count gate =
        read-more bytes images moment since counts_now mark disk records old new leaves same has
        (front ++ behind_front (bytes old.disk) next.place.at next.len front) next.len (size (bytes old.disk) refl) count
        (omega (arith, gate, is.place))
        (λ file told shows.
        let at = begins file told in (
          at.0,
          ap (λ (known : Option (List ℕ)). front ++ behind_front known next.place.at next.len front) told
              ∙ whole file front next.place.at next.len is.within at.1
              ∙ ap (λ (p : ℕ). take next.len (drop p file)) is.place,
        ))
