-- A backup has one plan.
use Rattle.std.proofs.Common.{inl, inr, ⊎_elim, ◌⊎◌, ◌≡◌, ◌≢◌, ◌+◌, ℕ, suc, List, [], ◌∷◌, ◌++◌, length, get_or, drop, refl, sym, ◌∙◌, ap}
use Rattle.std.proofs.Common.{subst, arith, append_assoc, length-append}
use Rattle.std.proofs.lemmas.List.{append_cancel_left}
use Rattle.fb_values.specs.declared.facts.Entry.{Entry}
use Rattle.disk_model.specs.Journal.{log_mark, JournalStands}
use Rattle.disk_model.proofs.Readings.{one-stands, one-fault, not-both}
use Rattle.log_model.specs.Log.{RecordsSay, hold, bad_at, entries_behind}
use Rattle.log_model.proofs.Logs.{entries_of, IsHeld}
use Rattle.backup_model.specs.Backup.{Plan, appends, bad_target, differs_at, IsLogWith, IsBadLog, Differs, BackupSays}

same_records : (file : List ℕ) (records more : List (List ℕ)) → JournalStands log_mark records file → JournalStands log_mark more file
    → records ≡ more
same_records file records more one other = one-stands log_mark records more file one other

same_entries : (file : List ℕ) (xs ys : List Entry) → IsLogWith file xs → IsLogWith file ys → xs ≡ ys
same_entries file xs ys one other =
    ap entries_of
    (sym one.hold_them ∙ ap (entries_behind []) (same_records file one.records other.records one.journal other.journal) ∙ other.hold_them)

no_bad_log : (file : List ℕ) (xs : List Entry) (nth at : ℕ) → IsLogWith file xs → IsBadLog file nth at → ⊥
no_bad_log file xs nth at good bad = ⊎_elim
    (λ breaks. not-both log_mark good.records bad.records file nth at good.journal breaks)
    (λ stands. subst IsHeld
    (sym good.hold_them ∙ ap (entries_behind []) (same_records file good.records bad.records good.journal stands.0) ∙ stands.1) tt)
    bad.fault

abbrev nth_of : RecordsSay → ℕ
nth_of (hold entries) = 0
nth_of (bad_at nth at) = nth

abbrev at_of : RecordsSay → ℕ
at_of (hold entries) = 0
at_of (bad_at nth at) = at

one_bad_place : (file : List ℕ) (nth at other there : ℕ) → IsBadLog file nth at → IsBadLog file other there
    → bad_target nth at ≡ bad_target other there
one_bad_place file nth at other there first second = ⊎_elim
    (λ breaks. ⊎_elim
    (λ breaks_too. let same = one-fault log_mark first.records second.records file nth other at there breaks breaks_too in
    λ i. bad_target (same.1 i) (same.2 i))
    (λ stands. absurd (not-both log_mark second.records first.records file nth at stands.0 breaks))
    second.fault)
    (λ stands. ⊎_elim
    (λ breaks. absurd (not-both log_mark first.records second.records file other there stands.0 breaks))
    (λ stands_too.
    let same =
    sym stands.1 ∙ ap (entries_behind []) (same_records file first.records second.records stands.0 stands_too.0) ∙ stands_too.1 in
    λ i. bad_target (nth_of (same i)) (at_of (same i)))
    second.fault)
    first.fault

-- ---- the first entry that is not ours

abbrev IsOther : List Entry → Entry → List Entry → Type 0
IsOther before entry ours =
    (ours ≡ before) ⊎ ((instead : Entry) × (more : List Entry) × (ours ≡ before ++ instead ∷ more) × (entry ≢ instead))

head_same : (x y : Entry) (xs ys : List Entry) → x ∷ xs ≡ y ∷ ys → x ≡ y
head_same x y xs ys same = ap (λ l. get_or l 0 x) same

-- ours goes on with x behind no entry, so the first entry that is not ours is not x
not_first : (entry x : Entry) (ours : List Entry) → entry ≡ x → IsOther [] entry ours → (rest : List Entry) → ours ≡ x ∷ rest → ⊥
not_first entry x ours same (inl none) rest is = omega (arith, ap length (sym none ∙ is))
not_first entry x ours same (inr other) rest is = other.3 (same ∙ sym (head_same other.0 x other.1 rest (sym other.2 ∙ is)))

begins : (x entry : Entry) (before ours : List Entry) → IsOther (x ∷ before) entry ours → (rest : List Entry) × (ours ≡ x ∷ rest)
begins x entry before ours (inl same) = (before, same)
begins x entry before ours (inr other) = (before ++ other.0 ∷ other.1, other.2)

tail_other : (x entry : Entry) (before ours : List Entry) → IsOther (x ∷ before) entry ours → IsOther before entry (drop 1 ours)
tail_other x entry before ours (inl same) = inl (ap (λ l. drop 1 l) same)
tail_other x entry before ours (inr other) = inr (other.0, other.1, ap (λ l. drop 1 l) other.2, other.3)

one_place : (before earlier : List Entry) (entry other : Entry) (behind later ours : List Entry)
    → before ++ entry ∷ behind ≡ earlier ++ other ∷ later
    → IsOther before entry ours → IsOther earlier other ours → length before ≡ length earlier
one_place [] [] entry other behind later ours same first second = refl
one_place [] (x ∷ earlier) entry other behind later ours same first second =
    let from = begins x other earlier ours second in
    absurd (not_first entry x ours (head_same entry x behind (earlier ++ other ∷ later) same) first from.0 from.1)
one_place (x ∷ before) [] entry other behind later ours same first second =
    let from = begins x entry before ours first in
    absurd (not_first other x ours (head_same other x later (before ++ entry ∷ behind) (sym same)) second from.0 from.1)
one_place (x ∷ before) (y ∷ earlier) entry other behind later ours same first second =
    ap suc (one_place before earlier entry other behind later (drop 1 ours) (ap (λ l. drop 1 l) same) (tail_other x entry before ours first)
    (tail_other y other earlier ours second))

one_difference : (entries ours : List Entry) (t other : ℕ) → Differs entries ours t → Differs entries ours other → t ≡ other
one_difference entries ours t other first second =
    let same =
    one_place first.before second.before first.entry second.entry first.behind second.behind ours
    (sym first.entries_are ∙ second.entries_are) first.other second.other in
    first.t_is ∙ ap (λ n. n + 1) same ∙ sym second.t_is

-- what is a beginning of ours does not differ
no_difference : (entries ours lacking : List Entry) (t : ℕ) → ours ≡ entries ++ lacking → Differs entries ours t → ⊥
no_difference entries ours lacking t is differs =
    let whole : ours ≡ differs.before ++ (differs.entry ∷ (differs.behind ++ lacking)) =
    is ∙ ap (λ l. l ++ lacking) differs.entries_are ∙ append_assoc differs.before (differs.entry ∷ differs.behind) lacking in
    ⊎_elim
    (λ short. omega (arith, ap length (sym short ∙ whole), length-append differs.before (differs.entry ∷ (differs.behind ++ lacking))))
    (λ other. other.3 (head_same differs.entry other.0 (differs.behind ++ lacking) other.1
    (append_cancel_left differs.before (differs.entry ∷ (differs.behind ++ lacking)) (other.0 ∷ other.1) (sym whole ∙ other.2))))
    differs.other

pub one_plan : (file : List ℕ) (h : List Entry) (plan other : Plan) → BackupSays file h plan → BackupSays file h other → plan ≡ other
one_plan file h (appends xs) (appends ys) first second =
    let same = same_entries file first.0 second.0 first.1 second.1 in
    ap appends (append_cancel_left second.0 xs ys (ap (λ l. l ++ xs) (sym same) ∙ sym first.2 ∙ second.2))
one_plan file h (appends xs) (bad_target nth at) first second = absurd (no_bad_log file first.0 nth at first.1 second)
one_plan file h (appends xs) (differs_at t) first second =
    let same = same_entries file second.0 first.0 second.1 first.1 in
    absurd (no_difference first.0 (drop 1 h) xs t first.2 (subst (λ l. Differs l (drop 1 h) t) same second.2))
one_plan file h (bad_target nth at) (appends ys) first second = absurd (no_bad_log file second.0 nth at second.1 first)
one_plan file h (bad_target nth at) (bad_target other there) first second = one_bad_place file nth at other there first second
one_plan file h (bad_target nth at) (differs_at t) first second = absurd (no_bad_log file second.0 nth at second.1 first)
one_plan file h (differs_at t) (appends ys) first second =
    let same = same_entries file first.0 second.0 first.1 second.1 in
    absurd (no_difference second.0 (drop 1 h) ys t second.2 (subst (λ l. Differs l (drop 1 h) t) same first.2))
one_plan file h (differs_at t) (bad_target nth at) first second = absurd (no_bad_log file first.0 nth at first.1 second)
one_plan file h (differs_at t) (differs_at other) first second =
    let same = same_entries file first.0 second.0 first.1 second.1 in
    ap differs_at (one_difference second.0 (drop 1 h) t other (subst (λ l. Differs l (drop 1 h) t) same first.2) second.2)
