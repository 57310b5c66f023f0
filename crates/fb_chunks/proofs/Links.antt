-- Where the items up to a link stand.
use Rattle.std.proofs.Common.{◌≡◌, ℕ, ◌+◌, ◌<◌, List, [], ◌∷◌, ◌++◌, length, length-append, get_or, Some, refl, sym, ap, ◌∙◌, arith}
use Rattle.std.proofs.Math.ListN.{get_or-append}
use Rattle.std.proofs.Math.Seq.{get_or-append_seam}
use Rattle.std.proofs.lemmas.Option.{slice_get_read, slice_get_within, get_or_from_slice_get}
use Rattle.std.specs.List.{slice_get}

pub newest_found : {X : Type 0} (older : List X) (item : X) (place : ℕ) → length (older ++ item ∷ []) ≡ place + 1
    → slice_get (older ++ item ∷ []) place ≡ Some item
newest_found older item place last =
    let at : length older ≡ place = omega (arith, last, length-append older (item ∷ [])) in
    slice_get_read (older ++ item ∷ []) (place + 1) place item (sym last) (omega arith)
    (sym (get_or-append_seam older item [] item) ∙ ap (λ n. get_or (older ++ item ∷ []) n item) at)

pub older_found : {X : Type 0} (older : List X) (item x : X) (place : ℕ) → slice_get older place ≡ Some x
    → slice_get (older ++ item ∷ []) place ≡ Some x
older_found older item x place found =
    let within : place < length older = slice_get_within older place x found in
    slice_get_read (older ++ item ∷ []) _ place x refl (omega (arith, within, length-append older (item ∷ [])))
    (sym (get_or_from_slice_get older place x x found) ∙ sym (get_or-append older (item ∷ []) x place within))
