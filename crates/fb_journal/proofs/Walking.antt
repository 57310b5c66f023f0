-- What one more record does to the records of a file's bytes that were read so far.
use Rattle.std.proofs.Common.{◌≡◌, ◌+◌, ◌≤◌, ◌<◌, ℕ, List, [], ◌∷◌, ◌++◌, length, get_or, take, drop, suc, sym, ◌∙◌, ap, arith}
use Rattle.std.proofs.Common.{append_assoc, length-take, length-drop}
use Rattle.std.proofs.lemmas.List.{drop_more, drop-drop}
use Rattle.std.proofs.Math.Seq.{take-add}
use Rattle.std.specs.Int.{w64, to_be_bytes}
use Rattle.disk_model.specs.Journal.{framed, opened}
use Rattle.disk_model.proofs.Journals.{opened-push}

module _ (file : List ℕ) (gate n : ℕ) (within : gate < length file) (open_gate : get_or file gate 0 ≡ 1)
    (told : to_be_bytes w64 n ≡ take 8 (drop (gate + 1) file)) (room : 8 + n + 1 ≤ length (drop (gate + 1) file)) where
  abbrev rest : List ℕ
  rest = drop (gate + 1) file

  abbrev payload : List ℕ
  payload = take n (drop (gate + 1 + 8) file)

  length-payload : length payload ≡ n
  length-payload =
      omega (arith, room, length-take n (drop (gate + 1 + 8) file), length-drop (gate + 1 + 8) file, length-drop (gate + 1) file)

  bytes-length : to_be_bytes w64 (length payload) ≡ take 8 rest
  bytes-length = ap (λ (k : ℕ). to_be_bytes w64 k) length-payload ∙ told

  behind : take (8 + n) rest ≡ framed payload
  behind =
      take-add 8 n rest
      ∙ ap (λ (l : List ℕ). l ++ take n (drop 8 rest)) (sym bytes-length)
      ∙ ap (λ (l : List ℕ). to_be_bytes w64 (length payload) ++ take n l) (drop-drop 8 (gate + 1) file)

  from_gate : take (1 + (8 + n)) (drop gate file) ≡ 1 ∷ framed payload
  from_gate =
      let front : drop gate file ≡ 1 ∷ rest = drop_more file gate 0 within ∙ ap (λ (b : ℕ). b ∷ rest) open_gate in
      let more : 1 + (8 + n) ≡ suc (8 + n) = omega arith in
      ap (λ (l : List ℕ). take (1 + (8 + n)) l) front ∙ ap (λ (k : ℕ). take k (1 ∷ rest)) more ∙ ap (λ (l : List ℕ). 1 ∷ l) behind

  -- the records with one more
  pub front-more : (mark : List ℕ) (records : List (List ℕ)) → take gate file ≡ mark ++ opened records
      → take (gate + 1 + 8 + n) file ≡ mark ++ opened (records ++ payload ∷ [])
  front-more mark records so_far =
      let sum : gate + 1 + 8 + n ≡ gate + (1 + (8 + n)) = omega arith in
      ap (λ (k : ℕ). take k file) sum ∙ take-add gate (1 + (8 + n)) file
      ∙ ap (λ (l : List ℕ). l ++ take (1 + (8 + n)) (drop gate file)) so_far
      ∙ ap (λ (l : List ℕ). (mark ++ opened records) ++ l) from_gate
      ∙ append_assoc mark (opened records) (1 ∷ framed payload)
      ∙ ap (λ (l : List ℕ). mark ++ l) (sym (opened-push records payload))
