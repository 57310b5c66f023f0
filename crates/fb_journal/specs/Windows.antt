-- A window on a file, and what reading through it leaves as it was.
-- This project's own choice.
use Rattle.std.specs.Prelude.{◌≡◌, ◌≤◌, ◌+◌, ℕ, List, length, take, drop, Option}
use Rattle.disk_model.specs.Disk.{Within, IfKnown, LeavesOnly}
use Rattle.fb_journal.specs.declared.windows.Window.{Window}

-- what the window has is the file's
pub record Shows (file : List ℕ) (w : Window) : Type 0 where
  pub len : w.len ≡ length file
  pub bytes : take w.filled w.bytes.items ≡ take w.filled (drop w.start file)

-- the window has so many bytes from this place on
abbrev pub Has : Window → ℕ → ℕ → Type 0
Has w at n = (w.start ≤ at) × (at + n ≤ w.start + w.filled)

-- The disk's bytes stay, a crash leaves what it left before,
-- and a window that showed the file still does.
pub record OnlyReads {D : Type 0} (bytes : D → Option (List ℕ)) (images : D → List ℕ → Type 0)
    (moment : D → ℕ) (since : D → ℕ → List ℕ → Type 0) (old new : D) (before after : Window)
    : Type 0 where
  pub same : bytes new ≡ bytes old
  pub crash : Within (images old) (images new)
  pub any_moment : LeavesOnly moment since old new (images old)
  pub len : after.len ≡ before.len
  pub shows : IfKnown (bytes old) (λ file. Shows file before → Shows file after)
