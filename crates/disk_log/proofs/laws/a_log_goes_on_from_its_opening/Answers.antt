use Rattle.std.proofs.Common.{inl, inr, ⊎_elim, arith}
use Rattle.disk_model.proofs.Moments.{joined}
use Rattle.disk_log.proofs.laws.a_log_goes_on_from_its_opening.Goals as goal

pub returns : goal.returns
returns g c = λ opened begun now r h first second within.
    joined g.D.Disk.moment g.D.Disk.images_since opened begun now _ _ _ first second
    (λ image left. ⊎_elim (λ was. inl was) (λ here. inr (r, omega arith, within, here)) left)
    (λ image from. inr from)
