-- Worked examples of what a write leaves and of what a journal's bytes stand for,
-- each closed by computation.
-- This project's own choice.
use Rattle.std.specs.Prelude.{◌≡◌, ℕ, List, [], ◌∷◌, ◌++◌, length, refl}
use Rattle.disk_model.specs.Disk.{written}
use Rattle.disk_model.specs.Record.{wrote, cut_to, synced, replayed}
use Rattle.disk_model.specs.Journal.{log_mark, segments_mark, record_of, new_journal, opened}

-- a write over what is there and past the end
pub written-over : written 1 (7 ∷ 8 ∷ []) (1 ∷ 2 ∷ []) ≡ 1 ∷ 7 ∷ 8 ∷ []
written-over = refl

pub written-within : written 0 (7 ∷ []) (1 ∷ 2 ∷ 3 ∷ []) ≡ 7 ∷ 2 ∷ 3 ∷ []
written-within = refl

-- a gap after the old end reads as zeros
pub written-past : written 3 (9 ∷ []) (1 ∷ []) ≡ 1 ∷ 0 ∷ 0 ∷ 9 ∷ []
written-past = refl

-- what a read gives after a write, a cut, a sync and a write
pub replayed-four : replayed (wrote 0 (1 ∷ 2 ∷ 3 ∷ []) ∷ cut_to 1 ∷ synced ∷ wrote 2 (9 ∷ []) ∷ [])
    []
    ≡ 1 ∷ 0 ∷ 9 ∷ []
replayed-four = refl

pub length-log_mark : length log_mark ≡ 15
length-log_mark = refl

pub length-segments_mark : length segments_mark ≡ 15
length-segments_mark = refl

-- the payload of the two bytes `hi`
abbrev pub hi : List ℕ
hi = 104 ∷ 105 ∷ []

pub record_of-hi : record_of hi ≡ 0 ∷ 0 ∷ 0 ∷ 0 ∷ 0 ∷ 0 ∷ 0 ∷ 2 ∷ 104 ∷ 105 ∷ 0 ∷ []
record_of-hi = refl

-- a log with this record alone, as bytes
pub log-hi : log_mark ++ opened (hi ∷ []) ++ 0 ∷ []
    ≡ 0x46 ∷ 0x41 ∷ 0x43 ∷ 0x54 ∷ 0x42 ∷ 0x41 ∷ 0x53 ∷ 0x45 ∷ 0x20 ∷ 0x4c ∷ 0x4f ∷ 0x47 ∷ 0x20
    ∷ 0x31 ∷ 0x0a ∷ 1 ∷ 0 ∷ 0 ∷ 0 ∷ 0 ∷ 0 ∷ 0 ∷ 0 ∷ 2 ∷ 104 ∷ 105 ∷ 0 ∷ []
log-hi = refl

pub length-new_journal : length (new_journal log_mark) ≡ 16
length-new_journal = refl
