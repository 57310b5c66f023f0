-- One more change in a record.
use Rattle.std.proofs.Common.{◌≡◌, ◌⊎◌, inl, inr, Some, ℕ, ◌≤◌, List, [], ◌∷◌, ◌++◌, length, refl, sym, subst, arith, length-append}
use Rattle.std.proofs.lemmas.List.{take_all, take-append-le}
use Rattle.std.proofs.lemmas.Bool.{cases_lt}
use Rattle.disk_model.specs.Disk.{Elapses, Only, Follows, IfKnown}
use Rattle.disk_model.specs.Record.{Change, wrote, cut_to, synced, changed, replayed, MayMake, MayLeaveFrom, MayLeave, MayHaveLeft}
use Rattle.disk_model.proofs.Calls.{torn-written, torn_cut-take}

pub replayed-push : (changes : List Change) (change : Change) (file : List ℕ)
    → replayed (changes ++ change ∷ []) file ≡ changed change (replayed changes file)
replayed-push [] change file = refl
replayed-push (c ∷ changes) change file = replayed-push changes change (changed c file)

-- what is left after one change more was left before it, and the change made it so
pub leave-push : (changes : List Change) (change : Change) (file from image : List ℕ)
    → MayLeaveFrom (changes ++ change ∷ []) file from image
    → (mid : List ℕ) × MayLeaveFrom changes file from mid × MayMake change (replayed changes file) mid image
leave-push [] change file from image left = (from, refl, subst (λ (l : List ℕ). MayMake change file from l) (sym left.2) left.1)
leave-push (c ∷ changes) change file from image left =
    let rest = leave-push changes change (changed c file) left.0 image left.2 in (rest.0, (left.0, left.1, rest.1), rest.2)

pub push-leave : (changes : List Change) (change : Change) (file from mid image : List ℕ) → MayLeaveFrom changes file from mid
    → MayMake change (replayed changes file) mid image
    → MayLeaveFrom (changes ++ change ∷ []) file from image
push-leave [] change file from mid image left makes = (image, subst (λ (l : List ℕ). MayMake change file l image) left makes, refl)
push-leave (c ∷ changes) change file from mid image left makes =
    (left.0, left.1, push-leave changes change (changed c file) left.0 mid image left.2 makes)

makes : (change : Change) (file : List ℕ) → MayMake change file file (changed change file)
makes (wrote at piece) file = torn-written at piece file
makes (cut_to n) file = torn_cut-take n file
makes synced file = refl

-- a crash may leave what a read gives
pub leaves-replayed : (changes : List Change) (file : List ℕ) → MayLeave file changes (replayed changes file)
leaves-replayed [] file = refl
leaves-replayed (c ∷ changes) file = (changed c file, makes c file, leaves-replayed changes (changed c file))

-- after a sync it leaves nothing else
pub only-synced : (changes : List Change) (file : List ℕ) → Only (replayed changes file) (MayLeave file (changes ++ synced ∷ []))
only-synced changes file = λ image left. (leave-push changes synced file file image left).2

pub follows-wrote : (changes : List Change) (at : ℕ) (piece file : List ℕ)
    → Follows (MayMake (wrote at piece) file) (MayLeave file changes) (MayLeave file (changes ++ wrote at piece ∷ []))
follows-wrote changes at piece file = λ image left. leave-push changes (wrote at piece) file file image left

pub follows-cut : (changes : List Change) (n : ℕ) (file : List ℕ)
    → Follows (MayMake (cut_to n) file) (MayLeave file changes) (MayLeave file (changes ++ cut_to n ∷ []))
follows-cut changes n file = λ image left. leave-push changes (cut_to n) file file image left

-- a crash now is one of those since an earlier moment, and since now there is no other
pub left_since-now : (file : List ℕ) (changes : List Change) (t : ℕ) (image : List ℕ) → t ≤ length changes → MayLeave file changes image
    → MayHaveLeft file changes t image
left_since-now file changes t image le left = (
  length changes,
  le,
  omega arith,
  subst (λ (l : List Change). MayLeave file l image) (sym (take_all (length changes) changes (omega arith))) left,
)

pub left_now : (file : List ℕ) (changes : List Change) (image : List ℕ) → MayHaveLeft file changes (length changes) image
    → MayLeave file changes image
left_now file changes image had =
    let all : length changes ≤ had.0 = had.1 in
    subst (λ (l : List Change). MayLeave file l image) (take_all had.0 changes all) had.3

pub elapses-push : (file : List ℕ) (changes : List Change) (change : Change) →
    Elapses (length changes) (length (changes ++ change ∷ [])) (MayHaveLeft file changes) (MayHaveLeft file (changes ++ change ∷ []))
    (MayLeave file (changes ++ change ∷ []))
elapses-push file changes change = record {
  later = omega (arith, length-append changes (change ∷ []));
  nothing_else = λ t image le had. cases t image had;
  keeps = λ t image le had. (
    had.0,
    had.1,
    omega (arith, had.2, length-append changes (change ∷ [])),
    subst (λ (l : List Change). MayLeave file l image) (sym (take-append-le had.0 changes (change ∷ []) had.2)) had.3,
  );
}
  where
    cases : (t : ℕ) (image : List ℕ) → MayHaveLeft file (changes ++ change ∷ []) t image
        → MayHaveLeft file changes t image ⊎ MayLeave file (changes ++ change ∷ []) image
    cases t image had = elim (cases_lt (length changes) had.0) [
      | inl last ↦
          inr (subst (λ (l : List Change). MayLeave file l image)
          (take_all had.0 (changes ++ change ∷ []) (omega (arith, last, length-append changes (change ∷ [])))) had.3)
      | inr earlier ↦ inl (
        had.0,
        had.1,
        earlier,
        subst (λ (l : List Change). MayLeave file l image) (take-append-le had.0 changes (change ∷ []) earlier) had.3,
      )
    ]

-- and told that it is this, a crash may leave this
pub leaves_told : (changes : List Change) (file : List ℕ) → IfKnown (Some (replayed changes file)) (MayLeave file changes)
leaves_told changes file = λ told is. subst (MayLeave file changes) (cc) (leaves-replayed changes file)
