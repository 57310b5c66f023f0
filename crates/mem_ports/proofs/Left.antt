-- An image in which writes are cut short is one that a crash may leave.
use Rattle.std.proofs.Common.{◌+◌, ◌≤◌, ℕ, List, [], ◌∷◌, length, take, zero, suc, refl, subst, arith}
use Rattle.disk_model.specs.Disk.{written, Torn}
use Rattle.disk_model.specs.Record.{Change, wrote, cut_to, synced, MayLeaveFrom}
use Rattle.disk_model.proofs.Calls.{torn-written, torn_cut-take}
use Rattle.mem_ports.specs.Images.{kept_of, torn_to, image_from}
use Rattle.mem_ports.proofs.Replays.{length-torn_to}

kept_of-le : (cuts : List ℕ) (n len : ℕ) → kept_of cuts n len ≤ len
kept_of-le [] n len = omega arith
kept_of-le (cut ∷ cuts) zero len = omega arith
kept_of-le (cut ∷ cuts) (suc n) len = kept_of-le cuts n len

torn : (cuts : List ℕ) (n at : ℕ) (piece image : List ℕ)
    → Torn at (length piece) image (written at (torn_to (kept_of cuts n (length piece)) piece) image)
torn cuts n at piece image =
    let short = torn_to (kept_of cuts n (length piece)) piece in
    subst (λ (k : ℕ). Torn at k image (written at (torn_to (kept_of cuts n (length piece)) piece) image))
    (length-torn_to (kept_of cuts n (length piece)) piece (kept_of-le cuts n (length piece))) (torn-written at short image)

pub leaves-image_from : (cuts : List ℕ) (n : ℕ) (changes : List Change) (file image : List ℕ)
    → MayLeaveFrom changes file image (image_from cuts n changes file image)
leaves-image_from cuts n [] file image = refl
leaves-image_from cuts n (wrote at piece ∷ changes) file image = (
  written at (torn_to (kept_of cuts n (length piece)) piece) image,
  torn cuts n at piece image,
  leaves-image_from cuts (n + 1) changes (written at piece file) (written at (torn_to (kept_of cuts n (length piece)) piece) image),
)
leaves-image_from cuts n (cut_to len ∷ changes) file image =
    (take len image, torn_cut-take len image, leaves-image_from cuts n changes (take len file) (take len image))
leaves-image_from cuts n (synced ∷ changes) file image = (file, refl, leaves-image_from cuts 0 changes file file)
