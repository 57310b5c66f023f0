-- A target has a plan.
use Rattle.std.proofs.Common.{inl, inr, ⊎_elim, ◌⊎◌, ◌≡◌, ◌+◌, ◌<◌, ℕ, List, [], ◌∷◌, ◌++◌, drop, refl, sym, ap, arith}
use Rattle.std.specs.Prelude.{All}
use Rattle.fb_values.specs.declared.facts.Entry.{Entry}
use Rattle.disk_model.specs.Journal.{log_mark, JournalStands, JournalBreaks}
use Rattle.disk_model.proofs.Existence.{some-reading}
use Rattle.log_model.specs.Log.{RecordsSay, hold, bad_at, entries_behind}
use Rattle.backup_model.specs.Backup.{Plan, appends, bad_target, differs_at, IsLogWith, Differs, BackupSays}
use Rattle.backup_model.proofs.SameEntries.{same_or_not}

-- the entries are a beginning of ours, or differ
abbrev Compared : List Entry → List Entry → Type 0
Compared entries ours = ((lacking : List Entry) × (ours ≡ entries ++ lacking)) ⊎ ((t : ℕ) × Differs entries ours t)

behind_same : (first second : Entry) (entries ours : List Entry) → first ≡ second → Compared entries ours
    → Compared (first ∷ entries) (second ∷ ours)
behind_same first second entries ours same (inl rest) = inl (rest.0, λ i. sym same i ∷ rest.1 i)
behind_same first second entries ours same (inr found) =
    let differs = found.1 in
    inr (
      found.0 + 1,
      record {
        before = first ∷ differs.before;
        entry = differs.entry;
        behind = differs.behind;
        entries_are = ap (λ l. first ∷ l) differs.entries_are;
        t_is = omega (arith, differs.t_is);
        other = ⊎_elim
            (λ short. inl (λ i. sym same i ∷ short i))
            (λ other. inr (other.0, other.1, (λ i. sym same i ∷ other.2 i), other.3))
            differs.other;
      },
    )

compared : (entries ours : List Entry) → Compared entries ours
compared [] ours = inl (ours, refl)
compared (first ∷ entries) [] =
    inr (1, record { before = []; entry = first; behind = entries; entries_are = refl; t_is = refl; other = inl refl })
compared (first ∷ entries) (second ∷ ours) = ⊎_elim
    (λ same. behind_same first second entries ours same (compared entries ours))
    (λ differ. inr (
      1,
      record { before = []; entry = first; behind = entries; entries_are = refl; t_is = refl; other = inr (second, ours, refl, differ) },
    ))
    (same_or_not first second)

module _ (file : List ℕ) (h : List Entry) (bytes : All (λ byte. byte < 256) file) where
  plan_of : (entries : List Entry) → IsLogWith file entries → Compared entries (drop 1 h) → (plan : Plan) × BackupSays file h plan
  plan_of entries log (inl rest) = (appends rest.0, (entries, log, rest.1))
  plan_of entries log (inr found) = (differs_at found.0, (entries, log, found.1))

  judged : (records : List (List ℕ)) → JournalStands log_mark records file → (said : RecordsSay) → entries_behind [] records ≡ said
      → (plan : Plan) × BackupSays file h plan
  judged records stands (hold entries) is =
      plan_of entries (record { records = records; journal = stands; hold_them = is }) (compared entries (drop 1 h))
  judged records stands (bad_at nth at) is = (bad_target nth at, record { records = records; fault = inr (stands, is) })

  pub some_plan : (plan : Plan) × BackupSays file h plan
  some_plan = go (some-reading log_mark file refl bytes)
    where
      go : (records : List (List ℕ))
          × (JournalStands log_mark records file ⊎ ((nth : ℕ) × (at : ℕ) × JournalBreaks log_mark records file nth at))
          → (plan : Plan) × BackupSays file h plan
      go (records, inl stands) = judged records stands (entries_behind [] records) refl
      go (records, inr breaks) = (bad_target breaks.0 breaks.1, record { records = records; fault = inl breaks.2 })
