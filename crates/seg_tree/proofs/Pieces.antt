-- Places in a list that is cut into pieces.
use Rattle.std.proofs.Common.{◌≡◌, ℕ, zero, suc, ◌+◌, ◌<◌, ◌≤◌, List, [], ◌∷◌, ◌++◌, length, take, refl, ◌∙◌, arith, length-append, Option}
use Rattle.std.proofs.Common.{Some, None, inl, inr}
use Rattle.std.specs.List.{slice_get}
use Rattle.std.proofs.lemmas.Bool.{lt-ltb, le-ltb, cases_lt}
use Rattle.std.proofs.lemmas.Option.{slice_get_past}
use Rattle.fb_values.specs.declared.facts.Datom.{Datom}
use Rattle.seg_tree.specs.Chunks.{joined, BeginsWith, AreFirsts, chunk_rank}

-- what a piece has at a place, if there is such a piece
abbrev pub in_piece : Option (List Datom) → ℕ → Option Datom
in_piece None n = None
in_piece (Some chunk) n = slice_get chunk n

get-append_left : {X : Type 0} (xs ys : List X) (n : ℕ) → n < length xs → slice_get (xs ++ ys) n ≡ slice_get xs n
get-append_left [] ys n within = absurd (omega arith)
get-append_left (x ∷ xs) ys zero within = refl
get-append_left (x ∷ xs) ys (suc n) within = get-append_left xs ys n (omega arith)

get-append_right : {X : Type 0} (xs ys : List X) (n : ℕ) → slice_get (xs ++ ys) (length xs + n) ≡ slice_get ys n
get-append_right [] ys n = let e : 0 + n ≡ n = omega arith in rw e refl
get-append_right (x ∷ xs) ys n = let e : suc (length xs) + n ≡ suc (length xs + n) = omega arith in rw e (get-append_right xs ys n)

pub chunk_rank-le : (cs : List (List Datom)) (k n : ℕ) → chunk_rank cs k n ≤ length (joined cs)
chunk_rank-le [] k n = omega arith
chunk_rank-le (c ∷ cs) zero n =
    elim (cases_lt n (length c)) [
      | inl within ↦ rw (lt-ltb n (length c) within) (omega (arith, length-append c (joined cs)))
      | inr past ↦ rw (le-ltb n (length c) past) (omega (arith, length-append c (joined cs)))
    ]
chunk_rank-le (c ∷ cs) (suc k) n = omega (arith, length-append c (joined cs), chunk_rank-le cs k n)

-- what the whole has at a place is what the piece has
pub get-chunk_rank : (cs : List (List Datom)) (k n : ℕ) → slice_get (joined cs) (chunk_rank cs k n) ≡ in_piece (slice_get cs k) n
get-chunk_rank [] k n = refl
get-chunk_rank (c ∷ cs) zero n =
    elim (cases_lt n (length c)) [
      | inl within ↦ rw (lt-ltb n (length c) within) (get-append_left c (joined cs) n within)
      | inr past ↦ rw (
        le-ltb n (length c) past,
        slice_get_past c n past,
      ) (slice_get_past (c ++ joined cs) (length c + length (joined cs)) (omega (arith, length-append c (joined cs))))
    ]
get-chunk_rank (c ∷ cs) (suc k) n = get-append_right c (joined cs) (chunk_rank cs k n) ∙ get-chunk_rank cs k n

-- a place in a piece
pub chunk_rank-inside : (cs : List (List Datom)) (k n : ℕ) (c : List Datom) → slice_get cs k ≡ Some c → n < length c
    → chunk_rank cs k n ≡ length (joined (take k cs)) + n
chunk_rank-inside [] k n c read within = absurd (cc)
chunk_rank-inside (b ∷ cs) zero n c read within =
    let same : b ≡ c = cc in
    rw (lt-ltb n (length b) (rw same within)) (omega arith)
chunk_rank-inside (b ∷ cs) (suc k) n c read within =
    rw (chunk_rank-inside cs k n c read within) (omega (arith, length-append b (joined (take k cs))))

-- behind the piece
pub chunk_rank-past : (cs : List (List Datom)) (k n : ℕ) (c : List Datom) → slice_get cs k ≡ Some c → length c ≤ n
    → chunk_rank cs k n ≡ length (joined cs)
chunk_rank-past [] k n c read past = absurd (cc)
chunk_rank-past (b ∷ cs) zero n c read past =
    let same : b ≡ c = cc in
    rw (le-ltb n (length b) (rw same past)) (omega (arith, length-append b (joined cs)))
chunk_rank-past (b ∷ cs) (suc k) n c read past = rw (chunk_rank-past cs k n c read past) (omega (arith, length-append b (joined cs)))

pub chunk_rank-none : (cs : List (List Datom)) (k n : ℕ) → slice_get cs k ≡ None → chunk_rank cs k n ≡ length (joined cs)
chunk_rank-none [] k n read = refl
chunk_rank-none (b ∷ cs) zero n read = absurd (cc)
chunk_rank-none (b ∷ cs) (suc k) n read = rw (chunk_rank-none cs k n read) (omega (arith, length-append b (joined cs)))

begins_some : (c : List Datom) (first : Datom) → BeginsWith c first → 0 < length c
begins_some [] first begins = absurd begins
begins_some (d ∷ c) first begins = omega arith

pub firsts_length : (hs : List Datom) (cs : List (List Datom)) → AreFirsts hs cs → length hs ≡ length cs
firsts_length [] [] h = refl
firsts_length [] (c ∷ cs) h = absurd h
firsts_length (f ∷ hs) [] h = absurd h
firsts_length (f ∷ hs) (c ∷ cs) h = omega (arith, firsts_length hs cs h.1)

pub chunk_rank-first : (hs : List Datom) (cs : List (List Datom)) → AreFirsts hs cs → chunk_rank cs 0 0 ≡ 0
chunk_rank-first [] [] h = refl
chunk_rank-first [] (c ∷ cs) h = absurd h
chunk_rank-first (f ∷ hs) [] h = absurd h
chunk_rank-first (f ∷ hs) (c ∷ cs) h = rw (lt-ltb 0 (length c) (begins_some c f h.0)) refl

-- the first place of the next piece
pub chunk_rank-next : (hs : List Datom) (cs : List (List Datom)) (k : ℕ) (c : List Datom) → AreFirsts hs cs → slice_get cs k ≡ Some c
    → chunk_rank cs (suc k) 0 ≡ length (joined (take k cs)) + length c
chunk_rank-next [] [] k c h read = absurd (cc)
chunk_rank-next [] (b ∷ cs) k c h read = absurd h
chunk_rank-next (f ∷ hs) [] k c h read = absurd h
chunk_rank-next (f ∷ hs) (b ∷ cs) zero c h read =
    let same : b ≡ c = cc in
    rw (chunk_rank-first hs cs h.1, same) (omega arith)
chunk_rank-next (f ∷ hs) (b ∷ cs) (suc k) c h read =
    rw (chunk_rank-next hs cs k c h.1 read) (omega (arith, length-append b (joined (take k cs))))

-- a piece and those before it are part of the whole
pub joined-take : (cs : List (List Datom)) (k : ℕ) (c : List Datom) → slice_get cs k ≡ Some c
    → length (joined (take k cs)) + length c ≤ length (joined cs)
joined-take [] k c read = absurd (cc)
joined-take (b ∷ cs) zero c read = let same : b ≡ c = cc in rw same (omega (arith, length-append c (joined cs)))
joined-take (b ∷ cs) (suc k) c read =
    omega (arith, joined-take cs k c read, length-append b (joined (take k cs)), length-append b (joined cs))

-- each piece has a first place
pub chunk_rank-start : (hs : List Datom) (cs : List (List Datom)) (k : ℕ) → AreFirsts hs cs → k < length cs
    → chunk_rank cs k 0 < length (joined cs)
chunk_rank-start [] [] k h within = absurd (omega arith)
chunk_rank-start [] (c ∷ cs) k h within = absurd h
chunk_rank-start (f ∷ hs) [] k h within = absurd h
chunk_rank-start (f ∷ hs) (c ∷ cs) zero h within =
    rw (lt-ltb 0 (length c) (begins_some c f h.0)) (omega (arith, begins_some c f h.0, length-append c (joined cs)))
chunk_rank-start (f ∷ hs) (c ∷ cs) (suc k) h within = omega (arith, chunk_rank-start hs cs k h.1 (omega arith), length-append c (joined cs))
