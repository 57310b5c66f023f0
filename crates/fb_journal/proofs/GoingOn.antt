-- How a reading goes on: over calls that only read, over a record, to the end and to a fault.
use Rattle.std.proofs.Common.{inl, inr, ⊎_elim, ◌≡◌, ◌≢◌, ◌+◌, ◌≤◌, ◌<◌, ◌∙◌, ℕ, List, [], ◌∷◌, ◌++◌, length, get_or, take, drop, Option}
use Rattle.std.proofs.Common.{Some, sym, ap, subst, arith, length-append}
use Rattle.std.proofs.lemmas.List.{drop_at, get_or-drop}
use Rattle.disk_model.specs.Disk.{IfKnown}
use Rattle.disk_model.specs.Journal.{new_journal, opened, framed, Holds, JournalStands, IsCutShort, BreaksBehind, JournalBreaks}
use Rattle.disk_model.proofs.Journals.{opened-push, lengths-push, stands-holds}
use Rattle.disk_model.proofs.Moments.{joined, weakened}
use Rattle.fb_journal.specs.Marks.{mark_bytes}
use Rattle.fb_journal.specs.Starts.{IsNotBad}
use Rattle.fb_journal.specs.Windows.{Shows, OnlyReads}
use Rattle.fb_journal.specs.Gates.{IsAheadAt}
use Rattle.fb_journal.specs.Readings.{IsBegun, LeavesBegun, HasRead, HasReadAll, IsFirstFault}
use Rattle.fb_journal.specs.declared.gates.Ahead.TheVariants.{CutShort, Record}
use Rattle.fb_journal.specs.declared.readings.Reading.{Reading}
use Rattle.fb_journal.specs.declared.starts.StartFault.{StartFault}
use Rattle.fb_journal.specs.declared.starts.StartFault.TheVariants.{Disk, BadLog, Memory}
use Rattle.fb_journal.specs.declared.windows.Window.{Window}
use Rattle.fb_journal.proofs.Appends.{length-mark_bytes}
use Rattle.fb_journal.proofs.Starting.{at-gate, still_new}
use Rattle.fb_journal.proofs.Walking.{front-more}

-- ---- calls that only read

module _ {D : Type 0} (bytes : D → Option (List ℕ)) (images : D → List ℕ → Type 0) (moment : D → ℕ) (since : D → ℕ → List ℕ → Type 0) where
  pub reads-then : (old mid new : D) (v w z : Window) → OnlyReads bytes images moment since old mid v w
      → OnlyReads bytes images moment since mid new w z
      → OnlyReads bytes images moment since old new v z
  reads-then old mid new v w z first second = record {
    same = second.same ∙ first.same;
    crash = λ image left. first.crash image (second.crash image left);
    any_moment = joined moment since old mid new (images old) (images mid) (images old) first.any_moment second.any_moment
        (λ image was. was)
        (λ image was. first.crash image was);
    len = second.len ∙ first.len;
    shows = λ file told shows. second.shows file (first.same ∙ told) (first.shows file told shows);
  }

  module _ {g : _} (counts_now : (disk : D) (t : ℕ) (image : List ℕ) → t ≤ moment disk → images disk image → since disk t image)
      (mark : List ℕ) (disk : D) (records : List (List ℕ)) (old new : Reading D g)
      (leaves : OnlyReads bytes images moment since old.disk new.disk old.window new.window) (same : new.mark ≡ old.mark)
      (has : HasRead bytes images moment since mark disk records old) where
    moments : LeavesBegun bytes images moment since disk new.disk
    moments = λ file told.
        let run = has.any_moment file told in
        joined moment since disk old.disk new.disk _ (images old.disk) _ run leaves.any_moment
        (λ image was. was)
        (λ image left. run.each image (counts_now old.disk (moment disk) image run.later left))

    begun : IfKnown (bytes disk) (λ was. (now : List ℕ) × (bytes new.disk ≡ Some now) × IsBegun mark was now)
    begun = λ was told. let now = has.begun was told in (now.0, leaves.same ∙ now.1, now.2)

    -- the same records
    pub still-read : new.records ≡ old.records → new.gate ≡ old.gate → HasRead bytes images moment since mark disk records new
    still-read count gate = record {
      marked = ap mark_bytes same ∙ has.marked;
      count = count ∙ has.count;
      gate = gate ∙ has.gate;
      lengths = has.lengths;
      begun = begun;
      file = λ file told.
          let before : bytes old.disk ≡ Some file = sym leaves.same ∙ told in
          let here = has.file file before in (
            ap (λ (n : ℕ). take n file) gate ∙ here.0,
            leaves.shows file before here.1,
            λ image left. here.2 image (leaves.crash image left),
          );
      any_moment = moments;
    }

    -- and the one behind the gate
    pub read-more : (payload : List ℕ) (n : ℕ) → length payload ≡ n → new.records ≡ old.records + 1 → new.gate ≡ old.gate + 9 + n
        → IfKnown (bytes old.disk) (λ file. Shows file old.window
        → IsAheadAt file old.gate (Record n) × (payload ≡ take n (drop (old.gate + 9) file)))
        → HasRead bytes images moment since mark disk (records ++ payload ∷ []) new
    read-more payload n size count gate stands = record {
      marked = ap mark_bytes same ∙ has.marked;
      count = omega (arith, count, has.count, length-append records (payload ∷ []));
      gate = omega
          (arith, gate, size, has.gate, ap length (opened-push records payload), length-append (opened records) (1 ∷ framed payload));
      lengths = lengths-push records payload has.lengths (omega (arith, size, gate, new.room, new.fits));
      begun = begun;
      file = λ file told.
          let before : bytes old.disk ≡ Some file = sym leaves.same ∙ told in
          let here = has.file file before in
          let at = stands file before here.1 in
          let within : old.gate < length file = omega (arith, here.1.len, old.room) in
          let sum : old.gate + 1 + 8 ≡ old.gate + 9 = omega arith in
          let place : new.gate ≡ old.gate + 1 + 8 + n = omega (arith, gate) in
          let is : take n (drop (old.gate + 1 + 8) file) ≡ payload = ap (λ (k : ℕ). take n (drop k file)) sum ∙ sym at.1 in (
            ap (λ (k : ℕ). take k file) place
                ∙ front-more file old.gate n within at.0.0 at.0.1.0 at.0.1.1 mark records here.0
                ∙ ap (λ (p : List ℕ). mark ++ opened (records ++ p ∷ [])) is,
            leaves.shows file before here.1,
            λ image left. here.2 image (leaves.crash image left),
          );
      any_moment = moments;
    }

-- ---- the end, and a fault

-- the byte behind a new journal's mark
zero-gate : (mark : List ℕ) → length mark ≡ 15 → get_or (new_journal mark) 15 0 ≡ 0
zero-gate mark fifteen =
    sym (get_or-drop 15 (new_journal mark) 0 0) ∙ ap (λ (l : List ℕ). get_or l 0 0) (drop_at mark (0 ∷ []) 15 fifteen)

module _ {D : Type 0} {g : _} (bytes : D → Option (List ℕ)) (images : D → List ℕ → Type 0) (moment : D → ℕ)
    (since : D → ℕ → List ℕ → Type 0) (mark : List ℕ) (disk : D) (records : List (List ℕ)) (r : Reading D g)
    (has : HasRead bytes images moment since mark disk records r) where
  fifteen : length mark ≡ 15
  fifteen = sym (ap length has.marked) ∙ length-mark_bytes r.mark

  pub holds-closed : (file : List ℕ) → bytes r.disk ≡ Some file → get_or file r.gate 0 ≢ 1 → Holds mark records file
  holds-closed file told closed =
      let here = has.file file told in record {
        gate = get_or file r.gate 0;
        rest = drop (r.gate + 1) file;
        bytes = at-gate file mark records r.gate here.0 (omega (arith, here.1.len, r.room));
        closed = closed;
        lengths = has.lengths;
      }

  stands-begun : (was now : List ℕ) → IsBegun mark was now → Holds mark records now → JournalStands mark records was
  stands-begun was now (inl new_one) holds =
      let short : length now ≤ 16 = omega (arith, ap length new_one.1, fifteen, length-append mark (0 ∷ [])) in
      still_new mark records now was short new_one.0 (stands-holds mark records now fifteen holds)
  stands-begun was now (inr longer) holds = inr (longer.0, subst (Holds mark records) longer.1 holds)

  pub read-all : IfKnown (bytes r.disk) (λ file. Shows file r.window → get_or file r.gate 0 ≢ 1)
      → HasReadAll bytes images moment since mark disk records r
  read-all closed = record {
    read = has;
    stands = stands;
    closed = λ file told. holds-closed file told (closed file told (has.file file told).1);
    any_moment = λ was told.
        weakened moment since disk r.disk _ _ (has.any_moment was told)
        (λ image left. ⊎_elim (λ old. inl old) (λ short. inr (still_new mark records was image short.0 short.1 (stands was told))) left);
  }
    where
      stands : IfKnown (bytes disk) (λ file. JournalStands mark records file)
      stands = λ was told.
          let now = has.begun was told in
          stands-begun was now.0 now.2 (holds-closed now.0 now.1 (closed now.0 now.1 (has.file now.0 now.1).1))

  breaks-here : (file : List ℕ) → bytes r.disk ≡ Some file → get_or file r.gate 0 ≡ 1 → IsCutShort (drop (r.gate + 1) file)
      → BreaksBehind mark records file r.records (r.gate + 1)
  breaks-here file told is_open short =
      let here = has.file file told in record {
        rest = drop (r.gate + 1) file;
        bytes = at-gate file mark records r.gate here.0 (omega (arith, here.1.len, r.room))
            ∙ ap (λ (b : ℕ). mark ++ opened records ++ b ∷ drop (r.gate + 1) file) is_open;
        short = short;
        lengths = has.lengths;
        number = has.count;
        place = omega (arith, has.gate);
      }

  breaks-begun : (was now : List ℕ) → IsBegun mark was now → bytes r.disk ≡ Some now → IsAheadAt now r.gate CutShort
      → JournalBreaks mark records was r.records (r.gate + 1)
  breaks-begun was now (inl new_one) told at =
      let size : r.window.len ≡ 16 = omega (arith, (has.file now told).1.len, ap length new_one.1, fifteen, length-append mark (0 ∷ [])) in
      let first : r.gate ≡ 15 = omega (arith, size, r.room, has.gate, fifteen) in
      let one : get_or (new_journal mark) 15 0 ≡ 1 =
      ap (λ (l : List ℕ). get_or l 15 0) (sym new_one.1) ∙ ap (λ (k : ℕ). get_or now k 0) (sym first) ∙ at.0 in
      absurd (omega (arith, one, zero-gate mark fifteen))
  breaks-begun was now (inr longer) told at =
      (longer.0, inr (subst (λ (f : List ℕ). BreaksBehind mark records f r.records (r.gate + 1)) longer.1 (breaks-here now told at.0 at.1)))

  pub first-fault : (fault : StartFault) → fault ≡ BadLog r.records (r.gate + 1)
      → IfKnown (bytes r.disk) (λ file. Shows file r.window → IsAheadAt file r.gate CutShort)
      → IsFirstFault mark (bytes disk) records fault
  first-fault fault is stands =
      subst (IsFirstFault mark (bytes disk) records) (sym is)
      (λ was told. let now = has.begun was told in breaks-begun was now.0 now.2 now.1 (stands now.0 now.1 (has.file now.0 now.1).1))

  no-fault : (fault : StartFault) → IfKnown (bytes disk) (λ was. IsNotBad fault) → IsFirstFault mark (bytes disk) records fault
  no-fault (BadLog nth at) not_bad = λ was told. absurd (not_bad was told)
  no-fault Disk not_bad = tt
  no-fault Memory not_bad = tt

  -- a fault that is none of a file that is told
  pub other-fault : (fault : StartFault) → IfKnown (bytes r.disk) (λ file. Shows file r.window → IsNotBad fault)
      → IsFirstFault mark (bytes disk) records fault
  other-fault fault not_bad =
      no-fault fault (λ was told. let now = has.begun was told in not_bad now.0 now.1 (has.file now.0 now.1).1)
