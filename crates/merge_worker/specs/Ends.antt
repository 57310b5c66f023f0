-- How the worker ends where one of its calls did not succeed, and what its end says.
-- This project's own choice.
use Rattle.fb_merge.specs.declared.stop.MergeStop.{MergeStop}
use Rattle.fb_merge.specs.declared.stop.MergeStop.TheVariants.{Memory as NoMemory, Spent as NoIds}
use Rattle.fb_roots.specs.declared.stores.KeepFault.{KeepFault}
use Rattle.fb_roots.specs.declared.stores.KeepFault.TheVariants.{Memory as NoRoom, Failed}
use Rattle.merge_worker.specs.declared.ends.WorkEnd.{WorkEnd}
use Rattle.merge_worker.specs.declared.ends.WorkEnd.TheVariants.{Shut, StoreFault, Spent, Memory}

abbrev pub end_at_merge : MergeStop → WorkEnd
end_at_merge NoMemory = Memory
end_at_merge NoIds = Spent

abbrev pub end_at_keep : KeepFault → WorkEnd
end_at_keep NoRoom = Memory
end_at_keep Failed = StoreFault

-- The end has its cause: of a failing store, or of what is used up.
-- Running out of memory needs none, and no single round ends as if no session were left.
abbrev pub HasCause : (failed spent : Type 0) → WorkEnd → Type 0
HasCause failed spent Shut = ⊥
HasCause failed spent StoreFault = failed
HasCause failed spent Spent = spent
HasCause failed spent Memory = Unit {0}

-- nothing failed
abbrev pub IsUnfailed : WorkEnd → Type 0
IsUnfailed Shut = Unit {0}
IsUnfailed StoreFault = ⊥
IsUnfailed Spent = Unit {0}
IsUnfailed Memory = ⊥
