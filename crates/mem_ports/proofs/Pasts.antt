-- What one more entry does to a disk in memory.
use Rattle.std.proofs.Common.{◌≡◌, ℕ, List, [], ◌∷◌, ◌++◌, length, take, sym, ◌∙◌, ap, subst}
use Rattle.disk_model.specs.Disk.{written, Torn, TornCut, Follows, Within, Only, IfKnown, Elapses}
use Rattle.disk_model.specs.Record.{Change, wrote, cut_to, synced, replayed, MayLeave, MayHaveLeft}
use Rattle.disk_model.proofs.Calls.{torn-same, torn_cut-same}
use Rattle.disk_model.proofs.Records.{replayed-push, leaves-replayed, only-synced, follows-wrote, follows-cut, elapses-push}
use Rattle.mem_ports.specs.MemDisks.{Past, file_of, known_bytes, images_of, moment_of, images_since_of}

module _ (old : Past) (first : List ℕ) (changes : List Change) (same : first ≡ old.first) where
  -- nothing was done
  pub still-wrote : (at n : ℕ) → changes ≡ old.changes → Follows (Torn at n) (images_of old) (MayLeave first changes)
  still-wrote at n is = λ image left. (
    image,
    subst (λ (f : List ℕ). MayLeave f old.changes image) same (subst (λ (l : List Change). MayLeave first l image) is left),
    torn-same at n image,
  )

  pub still-cut : (n : ℕ) → changes ≡ old.changes → Follows (TornCut n) (images_of old) (MayLeave first changes)
  still-cut n is = λ image left. (
    image,
    subst (λ (f : List ℕ). MayLeave f old.changes image) same (subst (λ (l : List Change). MayLeave first l image) is left),
    torn_cut-same n image,
  )

  there : (change : Change) (image : List ℕ) → changes ≡ old.changes ++ change ∷ [] → MayLeave first changes image
      → MayLeave old.first (old.changes ++ change ∷ []) image
  there change image is left =
      subst (λ (f : List ℕ). MayLeave f (old.changes ++ change ∷ []) image) same
      (subst (λ (l : List Change). MayLeave first l image) is left)

  pub crash-wrote : (at : ℕ) (piece : List ℕ) → changes ≡ old.changes ++ wrote at piece ∷ []
      → Follows (Torn at (length piece)) (images_of old) (MayLeave first changes)
  crash-wrote at piece is = λ image left. follows-wrote old.changes at piece old.first image (there (wrote at piece) image is left)

  pub crash-cut : (n : ℕ) → changes ≡ old.changes ++ cut_to n ∷ [] → Follows (TornCut n) (images_of old) (MayLeave first changes)
  crash-cut n is = λ image left. follows-cut old.changes n old.first image (there (cut_to n) image is left)

  pub durable-synced : changes ≡ old.changes ++ synced ∷ [] → IfKnown (known_bytes old) (λ file. Only file (MayLeave first changes))
  durable-synced is = λ file told image left. only-synced old.changes old.first image (there synced image is left) ∙ cc

  pub crash-synced : changes ≡ old.changes ++ synced ∷ [] → Within (images_of old) (MayLeave first changes)
  crash-synced is = λ image left.
      subst (MayLeave old.first old.changes) (sym (only-synced old.changes old.first image (there synced image is left)))
      (leaves-replayed old.changes old.first)

  pub file-wrote : (at : ℕ) (piece : List ℕ) → changes ≡ old.changes ++ wrote at piece ∷ []
      → replayed changes first ≡ written at piece (file_of old)
  file-wrote at piece is =
      ap (λ (l : List Change). replayed l first) is
      ∙ replayed-push old.changes (wrote at piece) first
      ∙ ap (λ (f : List ℕ). written at piece (replayed old.changes f)) same

  pub file-cut : (n : ℕ) → changes ≡ old.changes ++ cut_to n ∷ [] → replayed changes first ≡ take n (file_of old)
  file-cut n is =
      ap (λ (l : List Change). replayed l first) is
      ∙ replayed-push old.changes (cut_to n) first
      ∙ ap (λ (f : List ℕ). take n (replayed old.changes f)) same

  pub file-synced : changes ≡ old.changes ++ synced ∷ [] → replayed changes first ≡ file_of old
  file-synced is =
      ap (λ (l : List Change). replayed l first) is
      ∙ replayed-push old.changes synced first
      ∙ ap (λ (f : List ℕ). replayed old.changes f) same

  pub time-push : (change : Change) → changes ≡ old.changes ++ change ∷ []
      → Elapses (moment_of old) (length changes) (images_since_of old) (MayHaveLeft first changes) (MayLeave first changes)
  time-push change is =
      subst (λ (f : List ℕ). Elapses (moment_of old) (length changes) (images_since_of old) (MayHaveLeft f changes) (MayLeave f changes))
      (sym same)
      (subst
      (λ (l : List Change). Elapses (moment_of old) (length l) (images_since_of old) (MayHaveLeft old.first l) (MayLeave old.first l))
      (sym is) (elapses-push old.first old.changes change))
