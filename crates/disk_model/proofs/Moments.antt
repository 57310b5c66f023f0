-- How what a crash leaves goes on over several calls of a disk.
use Rattle.std.proofs.Common.{inl, inr, ⊎_elim, ℕ, List, arith}
use Rattle.disk_model.specs.Disk.{Elapses, LeavesOnly}

-- a call that changes nothing
pub elapses-same : (now : ℕ) (since : ℕ → List ℕ → Type 0) (images : List ℕ → Type 0) → Elapses now now since since images
elapses-same now since images = record { later = omega arith; nothing_else = λ t image le left. inl left; keeps = λ t image le left. left }

module _ {D : Type 0} (moment : D → ℕ) (since : D → ℕ → List ℕ → Type 0) where
  -- before the first call
  pub started : (old : D) (P : List ℕ → Type 0)
      → ((image : List ℕ) → since old (moment old) image → P image) → LeavesOnly moment since old old P
  started old P here = record { later = omega arith; each = here; before = λ t image le left. inl left }

  -- one call more, after which a crash leaves what has P
  pub goes_on : (old mid new : D) (P images : List ℕ → Type 0) → LeavesOnly moment since old mid P
      → Elapses (moment mid) (moment new) (since mid) (since new) images
      → ((image : List ℕ) → images image → P image) → LeavesOnly moment since old new P
  goes_on old mid new P images so_far time here = record {
    later = omega (arith, so_far.later, time.later);
    each = λ image left. ⊎_elim (so_far.each image) (here image) (time.nothing_else (moment old) image so_far.later left);
    before =
        λ t image le left.
        ⊎_elim (so_far.before t image le) (λ now. inr (here image now)) (time.nothing_else t image (omega (arith, le, so_far.later)) left);
  }

  -- one run behind another
  pub joined : (old mid new : D) (P Q R : List ℕ → Type 0) → LeavesOnly moment since old mid P → LeavesOnly moment since mid new Q
      → ((image : List ℕ) → P image → R image) → ((image : List ℕ) → Q image → R image) → LeavesOnly moment since old new R
  joined old mid new P Q R first second p q = record {
    later = omega (arith, first.later, second.later);
    each = λ image left. ⊎_elim (λ had. p image (first.each image had)) (q image) (second.before (moment old) image first.later left);
    before = λ t image le left. ⊎_elim
        (λ had. ⊎_elim (λ was. inl was) (λ has. inr (p image has)) (first.before t image le had))
        (λ has. inr (q image has))
        (second.before t image (omega (arith, le, first.later)) left);
  }

  -- what has P has Q
  pub weakened : (old new : D) (P Q : List ℕ → Type 0) → LeavesOnly moment since old new P
      → ((image : List ℕ) → P image → Q image) → LeavesOnly moment since old new Q
  weakened old new P Q run q = record {
    later = run.later;
    each = λ image left. q image (run.each image left);
    before = λ t image le left. ⊎_elim (λ was. inl was) (λ has. inr (q image has)) (run.before t image le left);
  }
