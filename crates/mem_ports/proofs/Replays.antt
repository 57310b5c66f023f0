-- A record that is replayed, as far as it has come.
use Rattle.std.proofs.Common.{◌≡◌, ◌+◌, ◌≤◌, ◌<◌, ℕ, List, ◌∷◌, length, take, drop, replicate, ◌-◌, get_or, sym, ◌∙◌, ap, subst, arith}
use Rattle.std.proofs.Common.{length-drop, length-append}
use Rattle.std.proofs.lemmas.List.{drop-drop, drop_more, length-take, length-replicate}
use Rattle.disk_model.specs.Disk.{written}
use Rattle.mem_ports.specs.Steps.{changes_of, bytes_written, furthest_end}
use Rattle.mem_ports.specs.Images.{image_from, kept_of, torn_to}
use Rattle.mem_ports.specs.declared.disks.record.Step.{Step}
use Rattle.mem_ports.specs.declared.disks.record.Step.TheVariants.{Wrote, Cut, Synced}

pub record IsReplayed (cuts : List ℕ) (steps : List Step) (written : List ℕ) (room : ℕ) (first_file first_image : List ℕ)
    (at next unsynced : ℕ) (file image : List ℕ) : Type 0 where
  pub bytes : bytes_written (drop at steps) + next ≡ length written
  pub reach : furthest_end (drop at steps) ≤ room
  pub few : unsynced ≤ at
  pub rest : image_from cuts unsynced (changes_of (drop at steps) (drop next written)) file image
      ≡ image_from cuts 0 (changes_of steps written) first_file first_image

-- the entry at a place, and the rest behind it
pub next_entry : (steps : List Step) (at : ℕ) (step : Step) → at < length steps → get_or steps at (Wrote 0 0) ≡ step
    → drop at steps ≡ step ∷ drop (at + 1) steps
next_entry steps at step within is = drop_more steps at (Wrote 0 0) within ∙ ap (λ (s : Step). s ∷ drop (at + 1) steps) is

module _ (cuts : List ℕ) (steps : List Step) (bytes : List ℕ) (room : ℕ) (first_file first_image : List ℕ) (at next unsynced : ℕ)
    (file image : List ℕ)
    (so_far : IsReplayed cuts steps bytes room first_file first_image at next unsynced file image) where
  pub replayed-wrote : (place len : ℕ) (file' image' : List ℕ) → drop at steps ≡ Wrote place len ∷ drop (at + 1) steps
      → file' ≡ written place (take len (drop next bytes)) file
      → image' ≡ written place (torn_to (kept_of cuts unsynced len) (take len (drop next bytes))) image
      → IsReplayed cuts steps bytes room first_file first_image (at + 1) (next + len) (unsynced + 1) file' image'
  replayed-wrote place len file' image' is file-is image-is = record {
    bytes = omega (arith, so_far.bytes, ap bytes_written is);
    reach = omega (arith, so_far.reach, ap furthest_end is);
    few = omega (arith, so_far.few);
    rest =
        ap (λ (b : List ℕ). image_from cuts (unsynced + 1) (changes_of (drop (at + 1) steps) b) file' image')
        (sym (drop-drop len next bytes))
        ∙ ap (λ (f : List ℕ). image_from cuts (unsynced + 1) (changes_of (drop (at + 1) steps) (drop len (drop next bytes))) f image')
        file-is
        ∙ ap (λ (i : List ℕ). image_from cuts (unsynced + 1) (changes_of (drop (at + 1) steps) (drop len (drop next bytes)))
        (written place (take len (drop next bytes)) file) i)
        (image-is ∙ ap (λ (n : ℕ). written place (torn_to (kept_of cuts unsynced n) (take len (drop next bytes))) image) (sym all_of_it))
        ∙ sym (ap (λ (l : List Step). image_from cuts unsynced (changes_of l (drop next bytes)) file image) is)
        ∙ so_far.rest;
  }
    where
      all_of_it : length (take len (drop next bytes)) ≡ len
      all_of_it = omega (arith, length-take len (drop next bytes), length-drop next bytes, so_far.bytes, ap bytes_written is)

  pub replayed-cut : (len : ℕ) (file' image' : List ℕ) → drop at steps ≡ Cut len ∷ drop (at + 1) steps → file' ≡ take len file
      → image' ≡ take len image
      → IsReplayed cuts steps bytes room first_file first_image (at + 1) next unsynced file' image'
  replayed-cut len file' image' is file-is image-is = record {
    bytes = omega (arith, so_far.bytes, ap bytes_written is);
    reach = omega (arith, so_far.reach, ap furthest_end is);
    few = omega (arith, so_far.few);
    rest = ap (λ (f : List ℕ). image_from cuts unsynced (changes_of (drop (at + 1) steps) (drop next bytes)) f image') file-is
        ∙ ap (λ (i : List ℕ). image_from cuts unsynced (changes_of (drop (at + 1) steps) (drop next bytes)) (take len file) i) image-is
        ∙ sym (ap (λ (l : List Step). image_from cuts unsynced (changes_of l (drop next bytes)) file image) is)
        ∙ so_far.rest;
  }

  pub replayed-synced : (image' : List ℕ) → drop at steps ≡ Synced ∷ drop (at + 1) steps → image' ≡ file
      → IsReplayed cuts steps bytes room first_file first_image (at + 1) next 0 file image'
  replayed-synced image' is image-is = record {
    bytes = omega (arith, so_far.bytes, ap bytes_written is);
    reach = omega (arith, so_far.reach, ap furthest_end is);
    few = omega arith;
    rest = ap (λ (i : List ℕ). image_from cuts 0 (changes_of (drop (at + 1) steps) (drop next bytes)) file i) image-is
        ∙ sym (ap (λ (l : List Step). image_from cuts unsynced (changes_of l (drop next bytes)) file image) is)
        ∙ so_far.rest;
  }

pub replayed-to : (cuts : List ℕ) (steps : List Step) (bytes : List ℕ) (room : ℕ) (first_file first_image : List ℕ) (at next unsynced : ℕ)
    (file image : List ℕ) (next' unsynced' : ℕ)
    → IsReplayed cuts steps bytes room first_file first_image at next unsynced file image → next' ≡ next → unsynced' ≡ unsynced
    → IsReplayed cuts steps bytes room first_file first_image at next' unsynced' file image
replayed-to cuts steps bytes room first_file first_image at next unsynced file image next' unsynced' so_far next-is unsynced-is =
    subst (λ (n : ℕ). IsReplayed cuts steps bytes room first_file first_image at n unsynced' file image) (sym next-is)
    (subst (λ (u : ℕ). IsReplayed cuts steps bytes room first_file first_image at next u file image) (sym unsynced-is) so_far)

-- a torn piece is as long as the whole one
pub length-torn_to : (kept : ℕ) (piece : List ℕ) → kept ≤ length piece → length (torn_to kept piece) ≡ length piece
length-torn_to kept piece le =
    omega (
      arith,
      length-append (take kept piece) (replicate (length piece - kept) 0),
      length-take kept piece,
      length-replicate {A = ℕ} (length piece - kept) 0,
    )
