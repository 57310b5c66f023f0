-- Parts of which two neighbours do not fit into one.
use Rattle.std.proofs.Common.{◌≡◌, ◌∙◌, ℕ, ◌+◌, ◌<◌, ◌≤◌, inl, inr, List, [], ◌∷◌, ◌++◌, length, length-append, ap, arith}
use Rattle.std.specs.Prelude.{slice_index}
use Rattle.std.proofs.lemmas.Bool.{cases_lt}
use Rattle.std.specs.List.{All}
use Rattle.std.proofs.lemmas.Grind.{flat_map-append}
use Rattle.std.proofs.lemmas.List.Elements.{All-push, All-same}
use Rattle.std.proofs.lemmas.List.{append-nil, map-append, length-map, get_or_append_left, get_or_at}
use Rattle.live_runs.specs.declared.parts.Part.{Part}
use Rattle.live_runs.specs.declared.parts.TheConstants.{MOST}
use Rattle.live_runs.specs.Parts.{AreFull, IsPart, members_in, members_of, sizes}

abbrev size : Part → ℕ
size p = length (members_in p)

pub full_one : (p : Part) → AreFull (p ∷ [])
full_one p = λ k within. absurd (omega arith)

pub full_push : (ps : List Part) (last part : Part) → AreFull (ps ++ last ∷ []) → MOST < length (members_in last) + length (members_in part)
    → AreFull ((ps ++ last ∷ []) ++ part ∷ [])
full_push ps last part full more = λ k within.
    let whole : sizes ((ps ++ last ∷ []) ++ part ∷ []) ≡ sizes (ps ++ last ∷ []) ++ size part ∷ [] =
    map-append size (ps ++ last ∷ []) (part ∷ []) in
    let front : sizes (ps ++ last ∷ []) ≡ sizes ps ++ size last ∷ [] = map-append size ps (last ∷ []) in
    let long : length (sizes (ps ++ last ∷ [])) ≡ length (ps ++ last ∷ []) = length-map (ps ++ last ∷ []) size in
    let long_front : length (sizes ps) ≡ length ps = length-map ps size in
    let one : length (ps ++ last ∷ []) ≡ length ps + 1 = length-append ps (last ∷ []) in
    let two : length ((ps ++ last ∷ []) ++ part ∷ []) ≡ length (ps ++ last ∷ []) + 1 = length-append (ps ++ last ∷ []) (part ∷ []) in
    elim (cases_lt (k + 1) (length (ps ++ last ∷ []))) [
      | inl lt ↦
          let a : slice_index (sizes ((ps ++ last ∷ []) ++ part ∷ [])) k ≡ slice_index (sizes (ps ++ last ∷ [])) k =
          ap (λ (l : List ℕ). slice_index l k) whole ∙ get_or_append_left (sizes (ps ++ last ∷ [])) (size part ∷ []) 0 k (omega arith) in
          let b : slice_index (sizes ((ps ++ last ∷ []) ++ part ∷ [])) (k + 1) ≡ slice_index (sizes (ps ++ last ∷ [])) (k + 1) =
          ap (λ (l : List ℕ). slice_index l (k + 1)) whole
          ∙ get_or_append_left (sizes (ps ++ last ∷ [])) (size part ∷ []) 0 (k + 1) (omega arith) in
          omega (arith, a, b, full k lt)
      | inr ge ↦
          let a : slice_index (sizes ((ps ++ last ∷ []) ++ part ∷ [])) k ≡ size last =
          ap (λ (l : List ℕ). slice_index l k) whole
          ∙ get_or_append_left (sizes (ps ++ last ∷ [])) (size part ∷ []) 0 k (omega arith)
          ∙ ap (λ (l : List ℕ). slice_index l k) front
          ∙ get_or_at (sizes ps) (size last) [] 0 k (omega arith) in
          let b : slice_index (sizes ((ps ++ last ∷ []) ++ part ∷ [])) (k + 1) ≡ size part =
          ap (λ (l : List ℕ). slice_index l (k + 1)) whole
          ∙ get_or_at (sizes (ps ++ last ∷ [])) (size part) [] 0 (k + 1) (omega arith) in
          omega (arith, a, b, more)
    ]

-- the last part may become longer
pub full_last : (ps : List Part) (last both : Part) → AreFull (ps ++ last ∷ []) → length (members_in last) ≤ length (members_in both)
    → AreFull (ps ++ both ∷ [])
full_last ps last both full more = λ k within.
    let old : sizes (ps ++ last ∷ []) ≡ sizes ps ++ size last ∷ [] = map-append size ps (last ∷ []) in
    let new : sizes (ps ++ both ∷ []) ≡ sizes ps ++ size both ∷ [] = map-append size ps (both ∷ []) in
    let long : length (sizes ps) ≡ length ps = length-map ps size in
    let one : length (ps ++ last ∷ []) ≡ length ps + 1 = length-append ps (last ∷ []) in
    let two : length (ps ++ both ∷ []) ≡ length ps + 1 = length-append ps (both ∷ []) in
    let before = full k (omega arith) in
    let a : slice_index (sizes (ps ++ last ∷ [])) k ≡ slice_index (sizes ps) k =
    ap (λ (l : List ℕ). slice_index l k) old ∙ get_or_append_left (sizes ps) (size last ∷ []) 0 k (omega arith) in
    let a' : slice_index (sizes (ps ++ both ∷ [])) k ≡ slice_index (sizes ps) k =
    ap (λ (l : List ℕ). slice_index l k) new ∙ get_or_append_left (sizes ps) (size both ∷ []) 0 k (omega arith) in
    elim (cases_lt (k + 1) (length ps)) [
      | inl lt ↦
          let b : slice_index (sizes (ps ++ last ∷ [])) (k + 1) ≡ slice_index (sizes ps) (k + 1) =
          ap (λ (l : List ℕ). slice_index l (k + 1)) old ∙ get_or_append_left (sizes ps) (size last ∷ []) 0 (k + 1) (omega arith) in
          let b' : slice_index (sizes (ps ++ both ∷ [])) (k + 1) ≡ slice_index (sizes ps) (k + 1) =
          ap (λ (l : List ℕ). slice_index l (k + 1)) new ∙ get_or_append_left (sizes ps) (size both ∷ []) 0 (k + 1) (omega arith) in
          omega (arith, a, a', b, b', before)
      | inr ge ↦
          let b : slice_index (sizes (ps ++ last ∷ [])) (k + 1) ≡ size last =
          ap (λ (l : List ℕ). slice_index l (k + 1)) old ∙ get_or_at (sizes ps) (size last) [] 0 (k + 1) (omega arith) in
          let b' : slice_index (sizes (ps ++ both ∷ [])) (k + 1) ≡ size both =
          ap (λ (l : List ℕ). slice_index l (k + 1)) new ∙ get_or_at (sizes ps) (size both) [] 0 (k + 1) (omega arith) in
          omega (arith, a, a', b, b', before, more)
    ]

pub members-push : (ps : List Part) (p : Part) → members_of (ps ++ p ∷ []) ≡ members_of ps ++ members_in p
members-push ps p = flat_map-append members_in ps (p ∷ []) ∙ ap (λ l. members_of ps ++ l) (append-nil (members_in p))

pub each-push : (ps new : List Part) (p : Part) → All IsPart ps → IsPart p → new ≡ ps ++ p ∷ [] → All IsPart new
each-push ps new p each is same = All-same IsPart new (ps ++ p ∷ []) same (All-push IsPart ps p each is)

pub joined_longer : (first second both : Part) → members_in both ≡ members_in first ++ members_in second
    → length (members_in first) ≤ length (members_in both)
joined_longer first second both same = omega (arith, ap length same, length-append (members_in first) (members_in second))
