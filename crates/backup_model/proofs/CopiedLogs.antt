-- What a copy stands for.
use Rattle.std.proofs.Common.{inl, ◌≡◌, ◌<◌, ℕ, zero, suc, ◌+◌, List, [], ◌∷◌, ◌++◌, take, drop, map, refl, sym, ◌∙◌, ap, subst, arith}
use Rattle.std.proofs.Common.{append_assoc}
use Rattle.std.specs.Prelude.{All}
use Rattle.std.proofs.lemmas.List.Elements.{All-nil, All-cons, All-head, All-tail, All-same, All-drop}
use Rattle.fb_values.specs.declared.facts.Entry.{Entry}
use Rattle.fb_model.specs.FirstEntry.{first_entry}
use Rattle.fb_model.specs.History.{upto}
use Rattle.fb_model.specs.Lawful.{IsLawful, IsLawfulFrom}
use Rattle.log_model.specs.Payload.{entry_bytes, written_format}
use Rattle.log_model.specs.Storable.{IsStorable}
use Rattle.log_model.specs.Log.{ArePayloadsOf, LogStands, IsLogOf, hold, with_entry, with_record, entries_behind}
use Rattle.log_model.specs.Nodes.{Roots}
use Rattle.log_model.specs.Kept.{KeptRoot, FileKeeps, Agrees, IsCoverage}
use Rattle.log_model.proofs.Entries.{says-entry_bytes}
use Rattle.log_model.proofs.KeptRoots.{one_keeping, one_coverage}
use Rattle.log_model.proofs.Logs.{payloads-entries_behind, AreRecords-All}
use Rattle.log_model.proofs.StorableHistories.{all_storable}
use Rattle.backup_model.specs.Backup.{appends, BackupSays, with_entries, IsCopyFile}

payloads-append : (entries : List Entry) (records : List (List ℕ)) (more : List Entry) (payloads : List (List ℕ))
    → ArePayloadsOf entries records → ArePayloadsOf more payloads → ArePayloadsOf (entries ++ more) (records ++ payloads)
payloads-append [] [] more payloads are behind = behind
payloads-append [] (payload ∷ records) more payloads are behind = absurd are
payloads-append (entry ∷ entries) [] more payloads are behind = absurd are
payloads-append (entry ∷ entries) (payload ∷ records) more payloads are behind =
    (are.0, payloads-append entries records more payloads are.1 behind)

payloads-written : (entries : List Entry) → All IsStorable entries → ArePayloadsOf entries (map entry_bytes entries)
payloads-written [] all = tt
payloads-written (entry ∷ entries) all = (
  record { format = written_format; format_is = refl; storable = all 0 entry (omega arith); bytes = refl },
  payloads-written entries (λ k d below. all (suc k) d (omega (arith, below))),
)

All-front : (entries more : List Entry) → All IsStorable (entries ++ more) → All IsStorable entries
All-front [] more all = All-nil IsStorable
All-front (entry ∷ entries) more all =
    All-cons IsStorable entry entries (All-head IsStorable entry (entries ++ more) all)
    (All-front entries more (All-tail IsStorable entry (entries ++ more) all))

All-behind : (entries more : List Entry) → All IsStorable (entries ++ more) → All IsStorable more
All-behind [] more all = all
All-behind (entry ∷ entries) more all = All-behind entries more (All-tail IsStorable entry (entries ++ more) all)

lacking-storable : (h entries lacking : List Entry) → IsLawful h → drop 1 h ≡ entries ++ lacking → All IsStorable lacking
lacking-storable h entries lacking lawful is =
    All-behind entries lacking
    (All-same IsStorable (entries ++ lacking) (drop 1 h) (sym is) (All-drop IsStorable 1 h (all_storable h lawful)))

front-IsLawfulFrom : (h entries more : List Entry) → IsLawfulFrom h (entries ++ more) → IsLawfulFrom h entries
front-IsLawfulFrom h [] more lawful = tt
front-IsLawfulFrom h (entry ∷ entries) more lawful = (lawful.0, front-IsLawfulFrom (h ++ entry ∷ []) entries more lawful.1)

module _ (records : List (List ℕ)) (entries : List Entry) (are : All (λ (payload : List ℕ). All (λ byte. byte < 256) payload) records)
    (held : entries_behind [] records ≡ hold entries) where
  with_payloads : (more : List Entry) → All IsStorable more → ArePayloadsOf (entries ++ more) (with_entries records more)
  with_payloads more all =
      payloads-append entries records more (map entry_bytes more)
      (payloads-entries_behind [] records entries (AreRecords-All records are) held) (payloads-written more all)

  pub copy-LogStands : (h lacking : List Entry) → IsLawful h → drop 1 h ≡ entries ++ lacking → LogStands (with_entries records lacking) h
  copy-LogStands h lacking lawful is =
      record {
        lawful = lawful;
        payloads =
            subst (λ l. ArePayloadsOf l (with_entries records lacking)) (sym is)
            (with_payloads lacking (lacking-storable h entries lacking lawful is));
      }

  pub part-LogStands : (h done left : List Entry) → IsLawful h → drop 1 h ≡ entries ++ (done ++ left)
      → LogStands (with_entries records done) (first_entry ∷ (entries ++ done))
  part-LogStands [] done left lawful is = absurd lawful
  part-LogStands (first ∷ rest) done left lawful is =
      let behind : IsLawfulFrom (first_entry ∷ []) rest = subst (λ e. IsLawfulFrom (e ∷ []) rest) lawful.0 lawful.1 in
      let whole : rest ≡ (entries ++ done) ++ left = is ∙ sym (append_assoc entries done left) in
      record {
        lawful =
            (refl, front-IsLawfulFrom (first_entry ∷ []) (entries ++ done) left (subst (IsLawfulFrom (first_entry ∷ [])) whole behind));
        payloads = with_payloads done (All-front done left (lacking-storable (first ∷ rest) entries (done ++ left) lawful is));
      }

-- ---- what a log holds

pub hold-behind : (before : List (List ℕ)) (entries : List Entry) (records : List (List ℕ)) → ArePayloadsOf entries records
    → entries_behind before records ≡ hold entries
hold-behind before [] [] are = refl
hold-behind before [] (payload ∷ records) are = absurd are
hold-behind before (entry ∷ entries) [] are = absurd are
hold-behind before (entry ∷ entries) (payload ∷ records) are =
    ap (λ said. with_record before said (entries_behind (before ++ payload ∷ []) records)) (says-entry_bytes entry payload are.0)
    ∙ ap (with_entry entry) (hold-behind (before ++ payload ∷ []) entries records are.1)

pub take-drop : (entries : List Entry) (n : ℕ) → entries ≡ take n entries ++ drop n entries
take-drop entries zero = refl
take-drop [] (suc n) = refl
take-drop (entry ∷ entries) (suc n) = ap (λ l. entry ∷ l) (take-drop entries n)

-- the entries after the first of all, and those of them that come later than n
pub behind_first : (h : List Entry) (n : ℕ) → drop 1 h ≡ drop 1 (upto h n) ++ drop (n + 1) h
behind_first [] n = let one : n + 1 ≡ suc n = omega arith in rw one refl
behind_first (first ∷ rest) n = let one : n + 1 ≡ suc n = omega arith in rw one (take-drop rest n)

pub beginning_lacks : (file : List ℕ) (h : List Entry) (n : ℕ) → IsLogOf file (upto h n) → BackupSays file h (appends (drop (n + 1) h))
beginning_lacks file h n log = (
  drop 1 (upto h n),
  record { records = log.records; journal = log.journal; hold_them = hold-behind [] (drop 1 (upto h n)) log.records log.stands.payloads },
  behind_first h n,
)

-- ---- trees

pub copy_keeps : (file : List ℕ) (root : KeptRoot) (ids : Roots) → IsCopyFile file root ids → FileKeeps file (root ∷ [])
copy_keeps file root ids is = (is.records, inl is.journal, sym is.kept)

pub copy_alone : (file : List ℕ) (root : KeptRoot) (ids : Roots) (kept : List KeptRoot) → IsCopyFile file root ids → FileKeeps file kept
    → kept ≡ root ∷ []
copy_alone file root ids kept is keeps = one_keeping file kept (root ∷ []) keeps (copy_keeps file root ids is)

opened_with : (h : List Entry) (root : KeptRoot) → Agrees h root → IsCoverage h (root ∷ []) root.c
opened_with h root agrees =
    inl (
      root,
      record { older = []; newer = []; place = refl; agrees = agrees; newest = λ other has. absurd (omega (arith, has.1)) },
      refl,
    )

pub copy_opened : (file : List ℕ) (root : KeptRoot) (ids : Roots) (h : List Entry) (kept : List KeptRoot) → IsCopyFile file root ids
    → Agrees h root → FileKeeps file kept → IsCoverage h kept root.c
copy_opened file root ids h kept is agrees keeps =
    subst (λ l. IsCoverage h l root.c) (sym (copy_alone file root ids kept is keeps)) (opened_with h root agrees)

pub copy_no_further : (file : List ℕ) (root : KeptRoot) (ids : Roots) (h : List Entry) (kept : List KeptRoot) (c : ℕ)
    → IsCopyFile file root ids → Agrees h root → FileKeeps file kept → IsCoverage h kept c → c ≡ root.c
copy_no_further file root ids h kept c is agrees keeps covers =
    one_coverage h kept c root.c covers (copy_opened file root ids h kept is agrees keeps)
