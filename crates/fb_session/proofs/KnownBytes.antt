-- What was told to be left, and what was told to be held, piece by piece.
use Rattle.std.proofs.Common.{◌≡◌, ℕ, List, [], ◌∷◌, ◌++◌, ◌-◌, length, length-drop, take, drop, Option, Some, None, refl, sym, ap, ◌∙◌}
use Rattle.std.proofs.Common.{append_assoc, arith}
use Rattle.std.proofs.lemmas.List.{take-append-le}
use Rattle.std.proofs.Math.Seq.{take-length}
use Rattle.std.specs.Io.KnownBytes.{prepend_known, append_known}

append-nil : (bs : List ℕ) → bs ++ [] ≡ bs
append-nil [] = refl
append-nil (b ∷ bs) = ap (λ rest. b ∷ rest) (append-nil bs)

pub prepend_known-none : (o : Option (List ℕ)) → o ≡ prepend_known [] o
prepend_known-none None = refl
prepend_known-none (Some bs) = refl

pub prepend_known-append : (bs cs : List ℕ) (o : Option (List ℕ)) → prepend_known bs (prepend_known cs o) ≡ prepend_known (bs ++ cs) o
prepend_known-append bs cs None = refl
prepend_known-append bs cs (Some ds) = ap Some (sym (append_assoc bs cs ds))

pub append_known-none : (o : Option (List ℕ)) → append_known o [] ≡ o
append_known-none None = refl
append_known-none (Some bs) = ap Some (append-nil bs)

pub append_known-append : (o : Option (List ℕ)) (bs cs : List ℕ) → append_known (append_known o bs) cs ≡ append_known o (bs ++ cs)
append_known-append None bs cs = refl
append_known-append (Some held) bs cs = ap Some (append_assoc held bs cs)

-- a buffer that was lent whole
pub front_of_buffer : (n len : ℕ) (buf rest : List ℕ) → length buf ≡ len → take n buf ≡ take n (take len (buf ++ rest))
front_of_buffer n len buf rest same =
    ap (take n) (sym (take-append-le len buf rest (omega arith) ∙ ap (λ k. take k buf) (sym same) ∙ take-length buf))

-- all bytes from a place on
pub rest_of : (at : ℕ) (bytes : List ℕ) → take (length bytes - at) (drop at bytes) ≡ drop at bytes
rest_of at bytes = ap (λ n. take n (drop at bytes)) (sym (length-drop at bytes)) ∙ take-length (drop at bytes)
