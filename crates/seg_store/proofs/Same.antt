-- Stores that are the same.
use Rattle.std.proofs.Common.{◌≡◌, ℕ, List, Result, Err, ap, sym, subst, ◌∙◌}
use Rattle.std.proofs.Props.{props}
use Rattle.disk_model.specs.Journal.{segments_mark}
use Rattle.fb_journal.specs.Journals.{mark_of}
use Rattle.fb_journal.specs.declared.journals.Journal.{Journal}
use Rattle.fb_journal.specs.declared.journals.JournalFault.{JournalFault}
use Rattle.fb_journal.specs.declared.journals.JournalFault.TheVariants.{Disk as JournalDisk, Stopped as JournalStopped}
use Rattle.seg_store.specs.declared.stores.KeepFault.{KeepFault}
use Rattle.seg_store.specs.declared.stores.KeepFault.TheVariants.{Stopped}
use Rattle.seg_store.specs.declared.stores.SegStore.{SegStore}
use Rattle.seg_store.specs.Faults.{keep_fault_of}

module _ {D : Type 0} {g : _} where
  one_mark : (j : Journal D g) (m n : mark_of j ≡ segments_mark) → m ≡ n
  one_mark j m n = let p : IsProp (mark_of j ≡ segments_mark) = hlevel props in p m n

  pub same_store : (a b : SegStore D g) → a.journal ≡ b.journal → a.ids ≡ b.ids → a ≡ b
  same_store a b journal ids =
      subst (λ (j : Journal D g). (m : mark_of j ≡ segments_mark) → a ≡ record { journal = j; ids = a.ids; marked = m }) journal
      (λ m. ap (λ (n : mark_of a.journal ≡ segments_mark). record { journal = a.journal; ids = a.ids; marked = n })
      (one_mark a.journal a.marked m))
      b.marked
      ∙ ap (λ (l : List ℕ). record { journal = b.journal; ids = l; marked = b.marked }) ids

-- a store that says that it stopped has it from its journal
stopped_as : (fault : JournalFault) (at : ℕ) → keep_fault_of fault ≡ Stopped at → fault ≡ JournalStopped at
stopped_as JournalDisk at is = absurd (cc)
stopped_as (JournalStopped n) at is = cc

same_err : {T : Type 0} (r : Result T KeepFault) (x y : KeepFault) → r ≡ Err x → r ≡ Err y → x ≡ y
same_err r x y is also = cc

pub stopped_from : {T : Type 0} (r : Result T KeepFault) (fault : JournalFault) (x : KeepFault) (at : ℕ) → r ≡ Err x
    → x ≡ keep_fault_of fault → r ≡ Err (Stopped at) → fault ≡ JournalStopped at
stopped_from r fault x at was made is = stopped_as fault at (sym made ∙ same_err r x (Stopped at) was is)
