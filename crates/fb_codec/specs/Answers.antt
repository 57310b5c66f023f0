-- What calls answer that read bytes. Running out of memory says nothing of the bytes.
-- This project's own choice.
use Rattle.std.specs.Prelude.{◌≡◌, ◌≤◌, ℕ, List, length, drop, Result, Ok, Err, ⊤}
use Rattle.fb_values.specs.declared.facts.Entry.{Entry}
use Rattle.log_model.specs.Fields.{Reading, found, misfit}
use Rattle.log_model.specs.Payload.{PayloadSays, holds, breaks_at}
use Rattle.fb_codec.specs.declared.faults.BytesFault.{BytesFault}
use Rattle.fb_codec.specs.declared.faults.BytesFault.TheVariants.{At, Memory}

-- what was found, and the place after it
abbrev pub Finds : {A : Type 0} → List ℕ → A → ℕ → Reading A → Type 0
Finds bytes a end reading = (end ≤ length bytes) × (reading ≡ found a (drop end bytes))

-- the first field that does not fit, where that is the fault
abbrev pub Misses : {A : Type 0} → List ℕ → BytesFault → Reading A → Type 0
Misses bytes (At byte) reading = (byte ≤ length bytes) × (reading ≡ misfit (drop byte bytes))
Misses bytes Memory reading = ⊤

-- a reader's answer, seen by view, is this reading of the bytes
abbrev pub GivesBy : {X A : Type 0}
    → (X → A) → List ℕ → Result (X × ℕ) BytesFault → Reading A → Type 0
GivesBy view bytes (Ok r) reading = Finds bytes (view r.0) r.1 reading
GivesBy view bytes (Err fault) reading = Misses bytes fault reading

abbrev pub Gives : {A : Type 0} → List ℕ → Result (A × ℕ) BytesFault → Reading A → Type 0
Gives bytes result reading = GivesBy (λ a. a) bytes result reading

-- the fault, where a payload holds no entry
abbrev pub MatchesFault : BytesFault → PayloadSays → Type 0
MatchesFault (At byte) says = says ≡ breaks_at byte
MatchesFault Memory says = ⊤

-- the entry that a payload holds, or where it breaks
abbrev pub Matches : Result Entry BytesFault → PayloadSays → Type 0
Matches (Ok entry) says = says ≡ holds entry
Matches (Err fault) says = MatchesFault fault says
