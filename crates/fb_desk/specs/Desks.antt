-- What a session knows of the database through its desk, and what each answer of the desk says of that.
-- Restates Transactions of Datomic's documentation (transact, db, sync); the rest is this project's own choice.
use Rattle.std.specs.Prelude.{◌≡◌, ◌⊎◌, ℕ, ℤ, ◌+◌, ◌^◌, ◌≤◌, Bool, true, false, List, [], ◌∷◌, ◌++◌, Option, Some, None}
use Rattle.edn_model.specs.Form.{Form}
use Rattle.fb_values.specs.declared.facts.Entry.{Entry}
use Rattle.fb_model.specs.History.{basis}
use Rattle.fb_model.specs.Lawful.{IsLawful}
use Rattle.tx_refusals.specs.declared.reasons.Refusal.{Refusal}
use Rattle.tx_model.specs.Step.{Guard, step, accepted, refused}
use Rattle.fb_view.specs.SnapshotModel.{SnapshotModel}
use Rattle.fb_desk.specs.declared.answers.Receipt.{Receipt}
use Rattle.fb_desk.specs.declared.answers.TxFault.{TxFault}
use Rattle.fb_desk.specs.declared.answers.TxFault.TheVariants.{Refused, LogFault, Stopped, Memory}
use Rattle.fb_desk.specs.declared.answers.Glance.{Glance}
use Rattle.fb_desk.specs.declared.answers.Glance.TheVariants.{Fresh, Held}

-- how often a desk was asked what was mailed, and how often it read what there was in full: for each sync that it answered, and
-- for each transaction that it answered and did not accept
pub record Tally : Type 0 where
  pub glances : ℕ
  pub loads : ℕ

pub record State : Type 0 where
  -- the history of the last snapshot that the desk was answered
  pub entries : List Entry
  -- the t of its last entry when the database was opened
  pub opening : ℕ
  -- the t of each transaction that was accepted through it
  pub commits : List ℕ
  -- the t that the log did not take, once a turn of the desk's own found that the log had stopped, or stopped it, and whether that was
  -- at this desk's transaction
  pub stop : Option ℕ
  pub teller : Bool
  pub tally : Tally
  -- how many calls it takes yet
  pub left : ℕ
  -- which desk this is: no two desks of one database have the same
  pub seat : List ℕ

abbrev pub most_calls : ℕ
most_calls = 2 ^ 32

-- a database that has just been opened, of which nothing was asked
abbrev pub as_opened : List Entry → State
as_opened h = record {
  entries = h;
  opening = basis h;
  commits = [];
  stop = None;
  teller = false;
  tally = record { glances = 0; loads = 0 };
  left = most_calls;
  seat = [];
}

abbrev pub glanced : Tally → Tally
glanced tally = record tally { glances = tally.glances + 1 }

abbrev pub loaded : Tally → Tally
loaded tally = record tally { loads = tally.loads + 1 }

-- The desk has seen all that was seen before, since the same opening, and what it has seen stays lawful. Once it has found that the
-- log had stopped, that stays so.
pub record WentOn (old new : State) : Type 0 where
  pub more : List Entry
  pub entries : new.entries ≡ old.entries ++ more
  pub lawful : IsLawful old.entries → IsLawful new.entries
  pub opening : new.opening ≡ old.opening
  pub stop : (old.stop ≡ None) ⊎ ((new.stop ≡ old.stop) × (new.teller ≡ old.teller))
  pub seat : new.seat ≡ old.seat

-- by one call at most
pub record GoesOn (old new : State) : Type 0 where
  pub went_on : WentOn old new
  pub left : old.left ≤ new.left + 1

-- The log had not stopped. The transaction is the last of the history that is seen now: its entry is what the step gives after the
-- entries before it, which have all that was seen, at a number that the clock may read.
pub record IsReceipt (may : ℤ → Type 0) (guard : Guard) (asked : Form) (old new : State)
    (receipt : Receipt) : Type 0 where
  pub going : new.stop ≡ None
  pub others : List Entry
  pub reading : ℤ
  pub may_be : may reading
  pub entry : Entry
  pub step_is : step (old.entries ++ others) asked reading guard
      ≡ accepted entry receipt.tempids.items
  pub entries : new.entries ≡ (old.entries ++ others) ++ entry ∷ []
  pub t : receipt.t ≡ basis new.entries
  pub instant : receipt.instant ≡ entry.instant
  pub snapshot : receipt.snapshot.entries ≡ new.entries
  pub commits : new.commits ≡ old.commits ++ receipt.t ∷ []
  pub tally : new.tally ≡ old.tally

-- no transaction of the desk was accepted, and this is the database that it was answered
pub record IsNotAccepted (old new : State) (snapshot : SnapshotModel) : Type 0 where
  pub commits : new.commits ≡ old.commits
  pub tally : new.tally ≡ loaded old.tally
  pub snapshot_is : snapshot.entries ≡ new.entries

-- the log had not stopped, and the transaction is refused at the history that is seen now, whatever the clock reads
pub record IsRefusal (guard : Guard) (asked : Form) (old new : State) (refusal : Refusal)
    (snapshot : SnapshotModel) : Type 0 where
  pub going : new.stop ≡ None
  pub step_is : (reading : ℤ) → step new.entries asked reading guard ≡ refused refusal
  pub rest : IsNotAccepted old new snapshot

-- the log had not stopped; the transaction is accepted at the history that is seen now, and the log did not take its entry
pub record IsLogFault (may : ℤ → Type 0) (guard : Guard) (asked : Form) (old new : State) (at : ℕ)
    (snapshot : SnapshotModel) : Type 0 where
  pub reading : ℤ
  pub may_be : may reading
  pub entry : Entry
  pub tempids : List (List ℕ × ℕ)
  pub step_is : step new.entries asked reading guard ≡ accepted entry tempids
  pub at_is : at ≡ basis new.entries + 1
  pub untold : old.stop ≡ None
  pub stop : new.stop ≡ Some at
  pub teller : new.teller ≡ true
  pub rest : IsNotAccepted old new snapshot

-- the log had stopped, at another desk's transaction unless this desk knew of it before
pub record IsStopped (old new : State) (at : ℕ) (snapshot : SnapshotModel) : Type 0 where
  pub at_is : at ≡ basis new.entries + 1
  pub stop : new.stop ≡ Some at
  pub teller : (old.stop ≡ None) → new.teller ≡ false
  pub rest : IsNotAccepted old new snapshot

-- memory ran out: nothing was accepted, the log did not stop at this desk's transaction, and no more was seen
pub record IsOutOfMemory (old new : State) : Type 0 where
  pub entries : new.entries ≡ old.entries
  pub commits : new.commits ≡ old.commits
  pub teller : new.teller ≡ old.teller
  pub tally : new.tally ≡ old.tally

abbrev pub IsFault : (ℤ → Type 0) → Guard → Form → State → State → TxFault → Type 0
IsFault may guard asked old new (Refused refusal snapshot) =
    IsRefusal guard asked old new refusal snapshot
IsFault may guard asked old new (LogFault at snapshot) =
    IsLogFault may guard asked old new at snapshot
IsFault may guard asked old new (Stopped at snapshot) = IsStopped old new at snapshot
IsFault may guard asked old new Memory = IsOutOfMemory old new

abbrev pub snapshot_of : Glance → SnapshotModel
snapshot_of (Fresh snapshot) = snapshot
snapshot_of (Held snapshot) = snapshot
