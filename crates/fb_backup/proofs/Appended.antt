-- What becomes of a log that the rest of a history is appended to.
use Rattle.std.proofs.Common.{◌≡◌, ◌+◌, ◌-◌, ◌<◌, ◌≤◌, ℕ, List, length, take, Option, Some, sym, subst, arith}
use Rattle.std.specs.List.{slice_get}
use Rattle.std.proofs.lemmas.Option.{slice_get_within}
use Rattle.fb_values.specs.declared.facts.Entry.{Entry}
use Rattle.fb_model.specs.Lawful.{IsLawful}
use Rattle.fb_model.proofs.LawfulHistories.{IsLawful-length}
use Rattle.disk_model.proofs.Moments.{weakened}
use Rattle.disk_log.specs.declared.logs.DiskLog.{DiskLog}
use Rattle.disk_log.specs.Disks.{IsLogFrom}
use Rattle.disk_log.specs.Logs.{disk_in, count_in}
use Rattle.fb_view.proofs.Beginnings.{upto_lawful}
use Rattle.fb_view.proofs.Lists.{take-next}
use Rattle.fb_backup.specs.declared.faults.BackupFault.{BackupFault}
use Rattle.fb_backup.specs.declared.faults.BackupFault.TheVariants.{Disk, BadLog, Other, Memory}
use Rattle.fb_backup.specs.Targets.{HasStopped, HasLeft}
use Rattle.fb_backup.proofs.Beginnings.{from-longer}

pub taken_lawful : (h : List Entry) (n : ℕ) → IsLawful h → 0 < n → IsLawful (take n h)
taken_lawful h n lawful some =
    let one : n - 1 + 1 ≡ n = omega (arith, some) in
    subst (λ (m : ℕ). IsLawful (take m h)) one (upto_lawful h (n - 1) lawful)

module _ (h : List Entry) (lawful : IsLawful h) where
  taken-from : (r n : ℕ) (image : List ℕ) → 0 < n → n ≤ length h → IsLogFrom r (take n h) image → IsLogFrom r h image
  taken-from r n image some within from =
      let one : n ≡ n - 1 + 1 = omega (arith, some) in
      from-longer h r r (n - 1) image lawful (omega (arith, within, some, IsLawful-length h lawful)) (omega arith)
      (subst (λ (m : ℕ). IsLogFrom r (take m h) image) one from)

  module _ {D : Type 0} {g : _} (bytes : D → Option (List ℕ)) (images : D → List ℕ → Type 0) (faults moment : D → ℕ)
      (since : D → ℕ → List ℕ → Type 0) (begun now : DiskLog D g) (n : ℕ) (entry : Entry) (some : 0 < n)
      (read : slice_get h n ≡ Some entry) where
    pub stopped-left : (fault : BackupFault) → HasStopped bytes images faults moment since begun (take n h) entry fault now
        → HasLeft bytes faults moment since begun h fault now
    stopped-left Disk broke = record {
      outside = tt;
      counted = broke.failed;
      any_moment = λ file told.
          weakened moment since (disk_in begun) (disk_in now) _ (IsLogFrom (count_in begun) h) (broke.any_moment file told)
          (λ image from. taken-from (count_in begun) (n + 1) image (omega arith)
          (omega (arith, slice_get_within h n entry read))
          (subst (λ (l : List Entry). IsLogFrom (count_in begun) l image) (sym (take-next h n entry read)) from));
    }
    stopped-left (BadLog nth at) stopped = absurd stopped
    stopped-left (Other t) stopped = absurd stopped
    stopped-left Memory keeps = record {
      outside = tt;
      counted = keeps.disk.unfailed;
      any_moment = λ file told.
          weakened moment since (disk_in begun) (disk_in now) _ (IsLogFrom (count_in begun) h) (keeps.disk.any_moment file told)
          (λ image from. taken-from (count_in begun) n image some (omega (arith, slice_get_within h n entry read)) from);
    }
