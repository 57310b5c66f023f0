-- What is read of the first bytes of a payload is read of each payload that begins so, unless a field is cut off.
use Rattle.std.proofs.Common.{inl, inr, ⊎_elim, ◌⊎◌, ◌≡◌, ◌+◌, ◌-◌, ◌<◌, ◌≤◌, ℕ, zero, suc, Bool, true, false, cond, List, [], ◌∷◌, ◌++◌}
use Rattle.std.proofs.Common.{length, take, drop, refl, sym, ◌∙◌, ap, subst, arith, append_assoc, length-append, length-take, take-append-drop}
use Rattle.std.specs.Prelude.{nat_le, nat_eq, fold}
use Rattle.std.proofs.lemmas.Bool.{and_parts, leb-true, le-leb, ltb-true, or_cases, true≢false, cases_lt}
use Rattle.std.proofs.lemmas.List.{take-append-le, drop-append-le, take_at, drop_at}
use Rattle.fb_values.specs.declared.facts.Value.TheVariants.{Keyword, Str, Bool as Boolean, Long, Ref, Instant, Uuid, Symbol, Uri}
use Rattle.fb_model.specs.Words.{is_keyword_text, is_symbol_text}
use Rattle.log_model.specs.Fields.{Reading, found, misfit, and_then, mapped, that_fits, piece, several, at_end, number_in, number, is_text}
use Rattle.log_model.specs.Fields.{read_u8, read_u32, read_u64, read_u128, read_i64, read_truth, read_text}
use Rattle.log_model.specs.Values.{is_any, is_tag, is_format, read_content, read_value}
use Rattle.fb_values.specs.declared.facts.Entry.{Entry}
use Rattle.log_model.specs.Payload.{read_datom, read_fields, read_entry, said_by, breaks_at, payload_says}
use Rattle.log_model.specs.Storable.{is_u32}
use Rattle.log_model.specs.Nodes.{Nodes, is_new_id, with_leaf, with_directory, is_leaf_id, is_directory_id, reaching, is_node_length, MergeRecord}
use Rattle.log_model.specs.Merges.{several_over, read_list, read_dated, read_leaf, read_directory, read_root, four, read_roots}
use Rattle.log_model.specs.Merges.{read_record_fields, read_record, MergeSays, merges, bad_from, merge_said_by, record_says}
use Rattle.log_model.specs.Fronts.{has_whole_field}
use Rattle.log_model.proofs.Entries.{byte_in, holds-breaks}

-- ---- fronts

abbrev pub EndsIn : List ℕ → List ℕ → Type 0
EndsIn bytes rest = (front : List ℕ) × (bytes ≡ front ++ rest)

pub ends-then : (bytes mid rest : List ℕ) → EndsIn bytes mid → EndsIn mid rest → EndsIn bytes rest
ends-then bytes mid rest (front, is) (more, also) =
    (front ++ more, is ∙ ap (λ l. front ++ l) also ∙ sym (append_assoc front more rest))

-- the field with which the rest begins may reach behind it
abbrev pub IsCut : List ℕ → List ℕ → Type 0
IsCut bytes rest =
    (length rest < 16)
    ⊎ ((front : List ℕ) × (four : List ℕ) × (bytes ≡ front ++ (four ++ rest)) × (length four ≡ 4) × (length rest < number_in four))

cut-longer : (bytes mid rest : List ℕ) → EndsIn bytes mid → IsCut mid rest → IsCut bytes rest
cut-longer bytes mid rest ends (inl short) = inl short
cut-longer bytes mid rest (before, is) (inr (front, four, also, long, more)) =
    inr (before ++ front, four, is ∙ ap (λ l. before ++ l) also ∙ sym (append_assoc before front (four ++ rest)), long, more)

-- what is read is read of all that begin so
abbrev pub IsKept : {A : Type 0} → (List ℕ → Reading A) → List ℕ → Reading A → Type 0
IsKept read bytes (found a rest) = EndsIn bytes rest × ((more : List ℕ) → read (bytes ++ more) ≡ found a (rest ++ more))
IsKept read bytes (misfit rest) =
    EndsIn bytes rest × (((more : List ℕ) → read (bytes ++ more) ≡ misfit (rest ++ more)) ⊎ IsCut bytes rest)

abbrev pub Keeps : {A : Type 0} → (List ℕ → Reading A) → Type 0
Keeps read = (bytes : List ℕ) → IsKept read bytes (read bytes)

-- ---- readers made of readers

then-behind : {A B : Type 0} (read : List ℕ → Reading A) (next : A → List ℕ → Reading B) (bytes : List ℕ) (a : A) (mid : List ℕ)
    → EndsIn bytes mid → ((more : List ℕ) → read (bytes ++ more) ≡ found a (mid ++ more))
    → (r : Reading B) → IsKept (next a) mid r → IsKept (λ l. and_then (read l) next) bytes r
then-behind read next bytes a mid ends all (found b rest) is =
    (ends-then bytes mid rest ends is.0, λ more. ap (λ r. and_then r next) (all more) ∙ is.1 more)
then-behind read next bytes a mid ends all (misfit rest) is = (
  ends-then bytes mid rest ends is.0,
  ⊎_elim (λ same. inl (λ more. ap (λ r. and_then r next) (all more) ∙ same more)) (λ cut. inr (cut-longer bytes mid rest ends cut)) is.1,
)

pub Keeps-then : {A B : Type 0} (read : List ℕ → Reading A) (next : A → List ℕ → Reading B) → Keeps read → ((a : A) → Keeps (next a))
    → Keeps (λ l. and_then (read l) next)
Keeps-then read next first second bytes = go (read bytes) (first bytes)
  where
    go : (r : Reading _) → IsKept read bytes r → IsKept (λ l. and_then (read l) next) bytes (and_then r next)
    go (found a mid) is = then-behind read next bytes a mid is.0 is.1 (next a mid) (second a mid)
    go (misfit rest) is = (is.0, ⊎_elim (λ same. inl (λ more. ap (λ r. and_then r next) (same more))) (λ cut. inr cut) is.1)

pub Keeps-mapped : {A B : Type 0} (f : A → B) (read : List ℕ → Reading A) → Keeps read → Keeps (λ l. mapped f (read l))
Keeps-mapped f read keeps bytes = go (read bytes) (keeps bytes)
  where
    go : (r : Reading _) → IsKept read bytes r → IsKept (λ l. mapped f (read l)) bytes (mapped f r)
    go (found a rest) is = (is.0, λ more. ap (mapped f) (is.1 more))
    go (misfit rest) is = (is.0, ⊎_elim (λ same. inl (λ more. ap (mapped f) (same more))) (λ cut. inr cut) is.1)

abbrev tested : {A : Type 0} → (A → Bool) → List ℕ → Reading A → Reading A
tested test bytes r = and_then r (λ a rest. cond (test a) (found a rest) (misfit bytes))

fits-found : {A : Type 0} (test : A → Bool) (read : List ℕ → Reading A) (bytes : List ℕ) (a : A) (rest : List ℕ) → EndsIn bytes rest
    → ((more : List ℕ) → read (bytes ++ more) ≡ found a (rest ++ more)) → (passes : Bool) → test a ≡ passes
    → IsKept (that_fits test read) bytes (cond passes (found a rest) (misfit bytes))
fits-found test read bytes a rest ends all true is = (
  ends,
  λ more. ap (tested test (bytes ++ more)) (all more) ∙ ap (λ b. cond b (found a (rest ++ more)) (misfit (bytes ++ more))) is,
)
fits-found test read bytes a rest ends all false is = (
  ([], refl),
  inl (λ more. ap (tested test (bytes ++ more)) (all more) ∙ ap (λ b. cond b (found a (rest ++ more)) (misfit (bytes ++ more))) is),
)

pub fits-kept : {A : Type 0} (test : A → Bool) (read : List ℕ → Reading A) (bytes : List ℕ) (r : Reading A) → IsKept read bytes r
    → IsKept (that_fits test read) bytes (tested test bytes r)
fits-kept test read bytes (found a rest) is = fits-found test read bytes a rest is.0 is.1 (test a) refl
fits-kept test read bytes (misfit rest) is =
    (is.0, ⊎_elim (λ same. inl (λ more. ap (tested test (bytes ++ more)) (same more))) (λ cut. inr cut) is.1)

pub Keeps-that_fits : {A : Type 0} (test : A → Bool) (read : List ℕ → Reading A) → Keeps read → Keeps (that_fits test read)
Keeps-that_fits test read keeps bytes = fits-kept test read bytes (read bytes) (keeps bytes)

pub Keeps-several : {A : Type 0} (read : List ℕ → Reading A) → Keeps read → (n : ℕ) → Keeps (several read n)
Keeps-several read keeps zero bytes = (([], refl), λ more. refl)
Keeps-several read keeps (suc n) bytes =
    Keeps-then read (λ a rest. mapped (λ more. a ∷ more) (several read n rest)) keeps
    (λ a. Keeps-mapped (λ more. a ∷ more) (several read n) (Keeps-several read keeps n)) bytes

pub Keeps-cond : {A : Type 0} (b : Bool) (then other : List ℕ → Reading A) → Keeps then → Keeps other
    → Keeps (λ l. cond b (then l) (other l))
Keeps-cond true then other first second = first
Keeps-cond false then other first second = second

-- ---- fields

piece-longer : (n : ℕ) (bytes more : List ℕ) → n ≤ length bytes → piece n (bytes ++ more) ≡ found (take n bytes) (drop n bytes ++ more)
piece-longer n bytes more room =
    ap (λ b. cond b (found (take n (bytes ++ more)) (drop n (bytes ++ more))) (misfit (bytes ++ more)))
    (le-leb n (length (bytes ++ more)) (omega (arith, room, length-append bytes more)))
    ∙ (λ i. found (take-append-le n bytes more room i) (drop-append-le n bytes more room i))

piece-kept : (n : ℕ) (bytes : List ℕ) (whole : Bool) → nat_le n (length bytes) ≡ whole → (whole ≡ false → IsCut bytes bytes)
    → IsKept (piece n) bytes (cond whole (found (take n bytes) (drop n bytes)) (misfit bytes))
piece-kept n bytes true is cut = (
  (take n bytes, sym (take-append-drop n bytes)),
  λ more. piece-longer n bytes more (leb-true n (length bytes) is),
)
piece-kept n bytes false is cut = (([], refl), inr (cut refl))

less : (n m : ℕ) → nat_le n m ≡ false → m < n
less n m short = elim (cases_lt m n) [
  | inl below ↦ below
  | inr room ↦ absurd (true≢false (sym (le-leb n m room) ∙ short))
]

Keeps-number : (k : ℕ) → k ≤ 16 → Keeps (number k)
Keeps-number k small =
    Keeps-mapped number_in (piece k)
    (λ bytes. piece-kept k bytes (nat_le k (length bytes)) refl (λ no. inl (omega (arith, small, less k (length bytes) no))))

pub Keeps-u8 : Keeps (number 1)
Keeps-u8 = Keeps-number 1 (omega arith)

pub Keeps-u32 : Keeps read_u32
Keeps-u32 = Keeps-number 4 (omega arith)

pub Keeps-u64 : Keeps read_u64
Keeps-u64 = Keeps-number 8 (omega arith)

pub Keeps-u128 : Keeps read_u128
Keeps-u128 = Keeps-number 16 (omega arith)

pub Keeps-i64 : Keeps read_i64
Keeps-i64 = Keeps-mapped _ read_u64 Keeps-u64

pub Keeps-truth : Keeps read_truth
Keeps-truth = Keeps-mapped (nat_eq 1) _ (Keeps-that_fits (λ n. nat_le n 1) (number 1) Keeps-u8)

-- the four bytes of a text's length, and what follows
text-behind : (test : List ℕ → Bool) (bytes : List ℕ) → 4 ≤ length bytes
    → IsKept (that_fits (is_text test) (piece (number_in (take 4 bytes)))) (drop 4 bytes)
    (that_fits (is_text test) (piece (number_in (take 4 bytes))) (drop 4 bytes))
    ⊎ ((that_fits (is_text test) (piece (number_in (take 4 bytes))) (drop 4 bytes) ≡ misfit (drop 4 bytes)) × IsCut bytes (drop 4 bytes))
text-behind test bytes four = go (nat_le n (length rest)) refl
  where
    n : ℕ
    n = number_in (take 4 bytes)

    rest : List ℕ
    rest = drop 4 bytes

    go : (whole : Bool) → nat_le n (length rest) ≡ whole
        → IsKept (that_fits (is_text test) (piece n)) rest (that_fits (is_text test) (piece n) rest)
        ⊎ ((that_fits (is_text test) (piece n) rest ≡ misfit rest) × IsCut bytes rest)
    go true is =
        inl (fits-kept (is_text test) (piece n) rest (piece n rest)
        (piece-kept n rest (nat_le n (length rest)) refl (λ no. absurd (true≢false (sym is ∙ no)))))
    go false is = inr (
      ap (λ b. tested (is_text test) rest (cond b (found (take n rest) (drop n rest)) (misfit rest))) is,
      inr ([], take 4 bytes, sym (take-append-drop 4 bytes), omega (arith, four, length-take 4 bytes), less n (length rest) is),
    )

Keeps-text : (test : List ℕ → Bool) → Keeps (read_text test)
Keeps-text test bytes = go (nat_le 4 (length bytes)) refl
  where
    next : ℕ → List ℕ → Reading (List ℕ)
    next n rest = that_fits (is_text test) (piece n) rest

    go : (there : Bool) → nat_le 4 (length bytes) ≡ there
        → IsKept (read_text test) bytes
        (and_then (mapped number_in (cond there (found (take 4 bytes) (drop 4 bytes)) (misfit bytes))) next)
    go false is = (
      ([], refl),
      inr (inl (omega (arith, less 4 (length bytes) is))),
    )
    go true is =
        let room : 4 ≤ length bytes = leb-true 4 (length bytes) is in
        let ends : EndsIn bytes (drop 4 bytes) = (take 4 bytes, sym (take-append-drop 4 bytes)) in
        ⊎_elim
        (λ kept. then-behind read_u32 next bytes (number_in (take 4 bytes)) (drop 4 bytes) ends
        (λ more. ap (mapped number_in) (piece-longer 4 bytes more room)) (next (number_in (take 4 bytes)) (drop 4 bytes)) kept)
        (λ cut. subst (IsKept (read_text test) bytes) (sym cut.0) (ends, inr cut.1))
        (text-behind test bytes room)

Keeps-content : (tag : ℕ) → Keeps (read_content tag)
Keeps-content tag =
    Keeps-cond (nat_eq tag 1) _ _ (Keeps-mapped Keyword (read_text is_keyword_text) (Keeps-text is_keyword_text))
    (Keeps-cond (nat_eq tag 2) _ _ (Keeps-mapped Str (read_text is_any) (Keeps-text is_any))
    (Keeps-cond (nat_eq tag 3) _ _ (Keeps-mapped Boolean read_truth Keeps-truth)
    (Keeps-cond (nat_eq tag 4) _ _ (Keeps-mapped Long read_i64 Keeps-i64)
    (Keeps-cond (nat_eq tag 5) _ _ (Keeps-mapped Ref read_u64 Keeps-u64)
    (Keeps-cond (nat_eq tag 6) _ _ (Keeps-mapped Instant read_i64 Keeps-i64)
    (Keeps-cond (nat_eq tag 7) _ _ (Keeps-mapped Uuid read_u128 Keeps-u128)
    (Keeps-cond (nat_eq tag 8) _ _ (Keeps-mapped Symbol (read_text is_symbol_text) (Keeps-text is_symbol_text))
    (Keeps-mapped Uri (read_text is_any) (Keeps-text is_any)))))))))

Keeps-value : (format : ℕ) → Keeps (read_value format)
Keeps-value format = Keeps-then (that_fits (is_tag format) read_u8) read_content (Keeps-that_fits (is_tag format) read_u8 Keeps-u8) Keeps-content

Keeps-datom : (format t : ℕ) → Keeps (read_datom format t)
Keeps-datom format t =
    Keeps-then read_u64 _ Keeps-u64 (λ e.
    Keeps-then read_u64 _ Keeps-u64 (λ a.
    Keeps-then (read_value format) _ (Keeps-value format) (λ v.
    Keeps-then read_truth _ Keeps-truth (λ added. λ bytes. (([], refl), λ more. refl)))))

Keeps-fields : (format : ℕ) → Keeps (read_fields format)
Keeps-fields format =
    Keeps-then read_u32 _ Keeps-u32 (λ t.
    Keeps-then read_i64 _ Keeps-i64 (λ instant.
    Keeps-then read_u32 _ Keeps-u32 (λ count.
    Keeps-then (several (read_datom format t) count) _ (Keeps-several (read_datom format t) (Keeps-datom format t) count)
    (λ datoms. λ bytes. (([], refl), λ more. refl)))))

Keeps-entry : Keeps (λ l. and_then (that_fits is_format read_u8 l) read_fields)
Keeps-entry = Keeps-then (that_fits is_format read_u8) read_fields (Keeps-that_fits is_format read_u8 Keeps-u8) Keeps-fields

-- ---- fields that depend on those before

Keeps-several_over : {S A : Type 0} (read : S → List ℕ → Reading A) (after : S → A → S) → ((s : S) → Keeps (read s)) → (s : S) (n : ℕ)
    → Keeps (several_over read after s n)
Keeps-several_over read after keeps s zero bytes = (([], refl), λ more. refl)
Keeps-several_over read after keeps s (suc n) bytes =
    Keeps-then (read s) (λ a rest. mapped (λ more. a ∷ more) (several_over read after (after s a) n rest)) (keeps s)
    (λ a. Keeps-mapped (λ more. a ∷ more) (several_over read after (after s a) n) (Keeps-several_over read after keeps (after s a) n)) bytes

Keeps-list : {S A : Type 0} (fits : ℕ → Bool) (read : S → List ℕ → Reading A) (after : S → A → S) → ((s : S) → Keeps (read s)) → (s : S)
    → Keeps (read_list fits read after s)
Keeps-list fits read after keeps s =
    Keeps-then (that_fits fits read_u32) (several_over read after s) (Keeps-that_fits fits read_u32 Keeps-u32)
    (Keeps-several_over read after keeps s)

Keeps-dated : (format : ℕ) → Keeps (read_dated format)
Keeps-dated format = Keeps-then (read_datom format 0) _ (Keeps-datom format 0) (λ d. Keeps-mapped _ read_u32 Keeps-u32)

Keeps-leaf : (format : ℕ) (nodes : Nodes) → Keeps (read_leaf format nodes)
Keeps-leaf format nodes =
    Keeps-then (that_fits (is_new_id nodes) read_u64) _ (Keeps-that_fits (is_new_id nodes) read_u64 Keeps-u64)
    (λ id. Keeps-mapped _ _ (Keeps-list is_node_length (λ _ behind. read_dated format behind) (λ s _. s) (λ s. Keeps-dated format) nodes))

Keeps-directory : (nodes : Nodes) → Keeps (read_directory nodes)
Keeps-directory nodes =
    Keeps-then (that_fits (is_new_id nodes) read_u64) _ (Keeps-that_fits (is_new_id nodes) read_u64 Keeps-u64)
    (λ id. Keeps-mapped _ _ (Keeps-list is_node_length (λ before behind. that_fits (is_leaf_id nodes before) read_u64 behind)
    (λ before leaf. before ++ leaf ∷ []) (λ before. Keeps-that_fits (is_leaf_id nodes before) read_u64 Keeps-u64) []))

Keeps-root : (nodes : Nodes) (reached : List ℕ) → Keeps (read_root nodes reached)
Keeps-root nodes reached =
    Keeps-list is_u32 (λ before behind. that_fits (is_directory_id nodes before) read_u64 behind) (reaching nodes)
    (λ before. Keeps-that_fits (is_directory_id nodes before) read_u64 Keeps-u64) reached

Keeps-roots : (nodes : Nodes) → Keeps (read_roots nodes)
Keeps-roots nodes =
    Keeps-mapped four (several_over (read_root nodes) (fold (reaching nodes)) [] 4)
    (Keeps-several_over (read_root nodes) (fold (reaching nodes)) (Keeps-root nodes) [] 4)

Keeps-record_fields : (nodes : Nodes) (format : ℕ) → Keeps (read_record_fields nodes format)
Keeps-record_fields nodes format =
    Keeps-then read_u32 _ Keeps-u32 (λ c.
    Keeps-then (read_list is_u32 (read_leaf format) with_leaf nodes) _
    (Keeps-list is_u32 (read_leaf format) with_leaf (Keeps-leaf format) nodes) (λ leaves.
    Keeps-then (read_list is_u32 read_directory with_directory (fold with_leaf nodes leaves)) _
    (Keeps-list is_u32 read_directory with_directory Keeps-directory (fold with_leaf nodes leaves)) (λ directories.
    Keeps-then (read_roots (fold with_directory (fold with_leaf nodes leaves) directories)) _
    (Keeps-roots (fold with_directory (fold with_leaf nodes leaves) directories))
    (λ roots. λ bytes. (([], refl), λ more. refl)))))

Keeps-record : (nodes : Nodes) → Keeps (λ l. and_then (that_fits is_format read_u8 l) (read_record_fields nodes))
Keeps-record nodes =
    Keeps-then (that_fits is_format read_u8) (read_record_fields nodes) (Keeps-that_fits is_format read_u8 Keeps-u8)
    (Keeps-record_fields nodes)

-- ---- whole payloads

-- a field that is whole is not cut off
not-cut : (front rest : List ℕ) → EndsIn front rest → has_whole_field front (length front - length rest) ≡ true → IsCut front rest → ⊥
not-cut front rest (before, ends) whole (inl short) =
    let parts = and_parts (nat_le (length front - length rest + 16) (length front)) _ whole in
    let room = leb-true (length front - length rest + 16) (length front) parts.0 in
    omega (arith, room, short, ap length ends, length-append before rest)
not-cut front rest (before, ends) whole (inr (earlier, four, is, long, more)) =
    let at : ℕ = length front - length rest in
    let parts = and_parts _ _ whole in
    let size : length front ≡ length earlier + (4 + length rest) =
    ap length is ∙ length-append earlier (four ++ rest) ∙ ap (λ n. length earlier + n) (length-append four rest ∙ ap (λ n. n + length rest) long) in
    let here : length earlier ≡ at - 4 = omega (arith, size) in
    let bytes : take 4 (drop (at - 4) front) ≡ four =
    ap (λ l. take 4 (drop (at - 4) l)) is ∙ ap (take 4) (drop_at earlier (four ++ rest) (at - 4) here) ∙ take_at four rest 4 long in
    elim (or_cases _ _ parts.1) [
      | inl early ↦ omega (arith, size, ltb-true at 4 early)
      | inr within ↦ omega (arith, size, more, ap number_in bytes, leb-true (at + number_in (take 4 (drop (at - 4) front))) (length front) within)
    ]

-- the first misfit of a payload that begins so
module _ {A : Type 0} (read : List ℕ → Reading A) (front more : List ℕ) where
  abbrev rest_of : Reading A → List ℕ
  rest_of (found a rest) = rest
  rest_of (misfit rest) = rest

  ended : (r : Reading A) → IsKept read front r → (rest : List ℕ) → at_end r ≡ misfit rest
      → has_whole_field front (length front - length rest) ≡ true
      → EndsIn front rest × (at_end (read (front ++ more)) ≡ misfit (rest ++ more))
  ended (found a []) is rest same whole = absurd (cc)
  ended (found a (byte ∷ behind)) is rest same whole =
      subst (λ l. EndsIn front l × (at_end (read (front ++ more)) ≡ misfit (l ++ more))) (ap rest_of same) (is.0, ap at_end (is.1 more))
  ended (misfit behind) is rest same whole =
      let here : behind ≡ rest = ap rest_of same in
      subst (λ l. EndsIn front l × (at_end (read (front ++ more)) ≡ misfit (l ++ more))) here (
        is.0,
        ⊎_elim (λ all. ap at_end (all more))
            (λ cut. absurd (not-cut front behind is.0 (subst (λ l. has_whole_field front (length front - length l) ≡ true) (sym here) whole) cut))
            is.1,
      )

same_byte : (front rest more : List ℕ) → EndsIn front rest → length (front ++ more) - length (rest ++ more) ≡ length front - length rest
same_byte front rest more (before, is) =
    omega (arith, ap length is, length-append before rest, length-append front more, length-append rest more)

pub breaks-early : (front more : List ℕ) (byte : ℕ) → payload_says front ≡ breaks_at byte → has_whole_field front byte ≡ true
    → payload_says (front ++ more) ≡ breaks_at byte
breaks-early front more byte says whole = go (read_entry front) refl says
  where
    fields : List ℕ → Reading Entry
    fields l = and_then (that_fits is_format read_u8 l) read_fields

    go : (r : Reading Entry) → read_entry front ≡ r → said_by front r ≡ breaks_at byte → payload_says (front ++ more) ≡ breaks_at byte
    go (found entry rest) is same = absurd (holds-breaks entry byte same)
    go (misfit rest) is same =
        let here : length front - length rest ≡ byte = ap byte_in same in
        let longer =
        ended fields front more (fields front) (Keeps-entry front) rest is (subst (λ n. has_whole_field front n ≡ true) (sym here) whole) in
        ap (said_by (front ++ more)) longer.1 ∙ ap breaks_at (same_byte front rest more longer.0 ∙ here)

pub bad-early : (nodes : Nodes) (front more : List ℕ) (byte : ℕ) → record_says nodes front ≡ bad_from byte
    → has_whole_field front byte ≡ true → record_says nodes (front ++ more) ≡ bad_from byte
bad-early nodes front more byte says whole = go (read_record nodes front) refl says
  where
    fields : List ℕ → Reading MergeRecord
    fields l = and_then (that_fits is_format read_u8 l) (read_record_fields nodes)

    bad_byte : MergeSays → ℕ
    bad_byte (merges merge) = 0
    bad_byte (bad_from at) = at

    go : (r : Reading MergeRecord) → read_record nodes front ≡ r → merge_said_by front r ≡ bad_from byte
        → record_says nodes (front ++ more) ≡ bad_from byte
    go (found merge rest) is same = absurd (cc)
    go (misfit rest) is same =
        let here : length front - length rest ≡ byte = ap bad_byte same in
        let longer =
        ended fields front more (fields front) (Keeps-record nodes front) rest is
        (subst (λ n. has_whole_field front n ≡ true) (sym here) whole) in
        ap (merge_said_by (front ++ more)) longer.1 ∙ ap bad_from (same_byte front rest more longer.0 ∙ here)
