-- Where the items of a list in chunks stand.
use Rattle.std.proofs.Common.{◌≡◌, ℕ, ◌+◌, ◌-◌, ◌*◌, ◌/◌, ◌%◌, ◌<◌, ◌≤◌, List, [], ◌∷◌, ◌++◌, length, get_or, take, refl, sym, ◌∙◌, ap}
use Rattle.std.proofs.Common.{arith, length-append, Some}
use Rattle.std.proofs.Math.Nat.{div-add-mod, mod-lt, div-lt_iff_lt-mul, mul-le-mul_left, mul-le-mul_right}
use Rattle.std.proofs.Math.ListN.{get_or-append}
use Rattle.std.proofs.lemmas.List.{length-take-le, get_or-append_right}
use Rattle.std.proofs.lemmas.List.Elements.{recursion_from_All, All-take}
use Rattle.std.proofs.lemmas.List.Concat.{get_or-flat_map}
use Rattle.std.proofs.lemmas.Option.{slice_get_read, get_or_from_slice_get, slice_get_within}
use Rattle.std.specs.List.{All, AllByRecursion, slice_get}
use Rattle.fb_chunks.specs.Chunks.{joined, IsLayer}

module _ {X : Type 0} (size : ℕ) where
  abbrev IsFull : List X → Type 0
  IsFull chunk = length chunk ≡ size

  length_by_recursion : (chunks : List (List X)) → AllByRecursion IsFull chunks → length (joined chunks) ≡ length chunks * size
  length_by_recursion [] h = omega arith
  length_by_recursion (c ∷ cs) h = omega (arith, length-append c (joined cs), h.0, length_by_recursion cs h.1)

  length-joined : (chunks : List (List X)) → All IsFull chunks → length (joined chunks) ≡ length chunks * size
  length-joined chunks h = length_by_recursion chunks (recursion_from_All IsFull chunks h)

-- a list is the items of full chunks and of a last one
pub record Layered {X : Type 0} (whole : List X) (size : ℕ) (chunks : List (List X)) (last : List X) (len : ℕ) : Type 0 where
  pub is : whole ≡ joined chunks ++ last
  pub some : 0 < size
  pub layer : IsLayer size chunks last len

pub layered : {X : Type 0} {whole : List X} {size : ℕ} {chunks : List (List X)} {last : List X} {len : ℕ} → joined chunks ++ last ≡ whole
    → IsLayer size chunks last len → 0 < size → Layered whole size chunks last len
layered view layer some = record { is = sym view; some = some; layer = layer }

module _ {X : Type 0} {whole : List X} {size : ℕ} {chunks : List (List X)} {last : List X} {len : ℕ}
    (list : Layered whole size chunks last len) where
  before_last : length (joined chunks) ≡ length chunks * size
  before_last = length-joined size chunks list.layer.full

  pub length-whole : length whole ≡ length chunks * size + length last
  length-whole = omega (arith, ap length list.is, length-append (joined chunks) last, before_last)

  pub fewer_chunks : length chunks ≤ length whole
  fewer_chunks =
      let one : 1 ≤ size = list.some in
      omega (arith, mul-le-mul_left (length chunks) one, length-whole)

  module _ (place : ℕ) where
    -- in a full chunk
    module _ (chunk : List X) (is : slice_get chunks (place / size) ≡ Some chunk) where
      within_chunks : place / size < length chunks
      within_chunks = slice_get_within chunks (place / size) chunk is

      chunk_is : get_or chunks (place / size) chunk ≡ chunk
      chunk_is = get_or_from_slice_get chunks (place / size) chunk chunk is

      chunk_length : length chunk ≡ size
      chunk_length = rw chunk_is at (list.layer.full (place / size) chunk within_chunks)

      pub chunk_le-before_last : length chunk + length last ≤ length whole
      chunk_le-before_last =
          let one : 1 * size ≤ length chunks * size = mul-le-mul_right size (omega (arith, within_chunks)) in
          omega (arith, one, chunk_length, length-whole)

      pub in_chunk : place % size < length chunk
      in_chunk = omega (arith, list.some, mod-lt place list.some, chunk_length)

      read_in_chunk : (d : X) → get_or (joined chunks) place d ≡ get_or chunk (place % size) d
      read_in_chunk d =
          let at = place / size in
          let before : length (joined (take at chunks)) + place % size ≡ place =
          omega (
            arith,
            length-joined size (take at chunks) (All-take (IsFull size) at chunks list.layer.full),
            ap (λ n. n * size) (length-take-le at chunks (omega (arith, within_chunks))),
            div-add-mod place size,
          ) in
          ap (λ n. get_or (joined chunks) n d) (sym before)
          ∙ get_or-flat_map (λ c. c) chunks at (place % size) chunk d within_chunks (rw chunk_is in_chunk)
          ∙ ap (λ c. get_or c (place % size) d) chunk_is

      pub found_in_chunk : (x : X) → x ≡ get_or chunk (place % size) x → slice_get whole place ≡ Some x
      found_in_chunk x read =
          let within : place < length (joined chunks) = omega (arith, before_last, (div-lt_iff_lt-mul list.some).0 within_chunks) in
          rw list.is (slice_get_read (joined chunks ++ last) _ place x refl
          (omega (arith, length-append (joined chunks) last, within))
          (read ∙ sym (read_in_chunk x) ∙ sym (get_or-append (joined chunks) last x place within)))

    -- in the last chunk
    module _ (within : place < length whole) (behind : length chunks ≤ place / size) where
      last_place : place ≡ length chunks * size + place % size
      last_place =
          let short : place < (length chunks + 1) * size = omega (arith, length-whole, within, list.layer.last_fits) in
          let at : place / size ≡ length chunks = omega (arith, behind, (div-lt_iff_lt-mul list.some).1 short) in
          omega (arith, div-add-mod place size, ap (λ n. size * n) at)

      pub in_last : place % size < length last
      in_last = omega (arith, last_place, length-whole, within)

      pub found_in_last : (x : X) → x ≡ get_or last (place % size) x → slice_get whole place ≡ Some x
      found_in_last x read =
          let k : place % size ≡ place - length chunks * size = omega (arith, last_place) in
          rw list.is (slice_get_read (joined chunks ++ last) (length whole) place x (ap length list.is) within
          (read ∙ ap (λ n. get_or last n x) k
          ∙ sym (get_or-append_right (joined chunks) last _ place x before_last (omega (arith, last_place)))))
