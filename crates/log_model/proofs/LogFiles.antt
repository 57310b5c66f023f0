-- What a file of bytes says as a log.
use Rattle.std.proofs.Common.{inl, inr, ◌≡◌, ◌⊎◌, ◌<◌, ℕ, List, [], ◌∷◌, ◌++◌, length, refl, sym, ◌∙◌, ap, subst, append_assoc}
use Rattle.std.specs.Prelude.{All}
use Rattle.fb_values.specs.declared.facts.Entry.{Entry}
use Rattle.std.specs.Int.{w64, to_be_bytes}
use Rattle.disk_model.specs.Journal.{log_mark, opened, framed, Holds, JournalStands, JournalBreaks}
use Rattle.disk_model.proofs.Existence.{some-reading}
use Rattle.disk_model.proofs.Readings.{one-stands, one-fault, not-both}
use Rattle.log_model.specs.Log.{LogSays, stands_for, bad_record, log_says, IsLogOf, FileSays}
use Rattle.log_model.proofs.Numbers.{AreBytes}
use Rattle.log_model.proofs.Fields.{AreBytes-behind, AreBytes-front}
use Rattle.log_model.proofs.Logs.{AreBytes-All, AreRecords, Stands, log_says-stands, stands-log_says_of}

pub one_said : (file : List ℕ) (said other : LogSays) → FileSays file said → FileSays file other → said ≡ other
one_said file said other (records, inl first) (more, inl second) =
    first.1 ∙ ap log_says (one-stands log_mark records more file first.0 second.0) ∙ sym second.1
one_said file said other (records, inl first) (more, inr second) =
    absurd (not-both log_mark records more file second.0 second.1 first.0 second.2)
one_said file said other (records, inr first) (more, inl second) =
    absurd (not-both log_mark more records file first.0 first.1 second.0 first.2)
one_said file said other (records, inr first) (more, inr second) =
    let same = one-fault log_mark records more file first.0 second.0 first.1 second.1 first.2 second.2 in
    first.3 ∙ (λ i. bad_record (same.1 i) (same.2 i)) ∙ sym second.3

pub some_said : (file : List ℕ) → All (λ byte. byte < 256) file → (said : LogSays) × FileSays file said
some_said file all = go (some-reading log_mark file refl all)
  where
    go : (records : List (List ℕ))
        × (JournalStands log_mark records file ⊎ ((nth : ℕ) × (at : ℕ) × JournalBreaks log_mark records file nth at))
        → (said : LogSays) × FileSays file said
    go (records, inl stands) = (log_says records, (records, inl (stands, refl)))
    go (records, inr breaks) = (bad_record breaks.0 breaks.1, (records, inr (breaks.0, breaks.1, breaks.2, refl)))

-- the records of a file of bytes are bytes
opened-AreRecords : (records : List (List ℕ)) (rest : List ℕ) → AreBytes (opened records ++ rest) → AreRecords records
opened-AreRecords [] rest are = tt
opened-AreRecords (payload ∷ records) rest are =
    let behind : AreBytes (framed payload ++ (opened records ++ rest)) =
    subst AreBytes (append_assoc (framed payload) (opened records) rest) are.1 in (
      AreBytes-behind (to_be_bytes w64 (length payload)) payload (AreBytes-front (framed payload) (opened records ++ rest) behind),
      opened-AreRecords records rest (AreBytes-behind (framed payload) (opened records ++ rest) behind),
    )

pub stands-AreRecords : (records : List (List ℕ)) (file : List ℕ) → AreBytes file → JournalStands log_mark records file → AreRecords records
stands-AreRecords records file are (inl short) = subst AreRecords (sym short.1) tt
stands-AreRecords records file are (inr long) =
    let holds : Holds log_mark records file = long.1 in
    let whole : file ≡ log_mark ++ (opened records ++ holds.gate ∷ holds.rest) =
    holds.bytes ∙ append_assoc log_mark (opened records) (holds.gate ∷ holds.rest) in
    opened-AreRecords records (holds.gate ∷ holds.rest)
    (AreBytes-behind log_mark (opened records ++ holds.gate ∷ holds.rest) (subst AreBytes whole are))

pub IsLogOf-says : (file : List ℕ) (h : List Entry) → IsLogOf file h → FileSays file (stands_for h)
IsLogOf-says file h is = (is.records, inl (is.journal, sym (log_says-stands is.records h is.stands)))

pub says-IsLogOf : (file : List ℕ) (h : List Entry) → All (λ byte. byte < 256) file → FileSays file (stands_for h) → IsLogOf file h
says-IsLogOf file h all (records, inl said) =
    record {
      records = records;
      journal = said.0;
      stands = stands-log_says_of records h (stands-AreRecords records file (AreBytes-All file all) said.0) (sym said.1);
    }
says-IsLogOf file h all (records, inr broken) = absurd (subst Stands broken.3 tt)
