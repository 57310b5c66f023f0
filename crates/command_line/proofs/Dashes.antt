-- What a word is, to the definition of a command line and to `clap`.
use Rattle.std.proofs.Common.{◌≡◌, ◌∙◌, ◌⊎◌, ℕ, ◌==◌, ◌<◌, ◌≤◌, Bool, true, false, true≢false, refl, sym, ap, subst, inl, inr, List, []}
use Rattle.std.proofs.Common.{◌∷◌, ◌++◌, length, take, drop, get_or, map, Option, Some, None, codes, arith, nat_eq}
use Rattle.std.specs.Prelude.{String, encode_utf8, slice_get, string_bytes}
use Rattle.std.specs.List.{before_first, after_first, position_or_len, starts_with}
use Rattle.std.specs.Str.{IsUtf8, bytes_eq, chars}
use Rattle.std.proofs.lemmas.Bool.{cases_lt}
use Rattle.std.proofs.lemmas.List.{take-append-drop, take_all}
use Rattle.std.proofs.lemmas.List.Sums.{passes_at_first, split_at_first}
use Rattle.std.proofs.lemmas.Slice.Eq.{bytes_eq-Decides}
use Rattle.std.proofs.lemmas.Str.{IsCharBoundary-after_ascii, IsUtf8-drop, IsUtf8-string_bytes, chars-encodes}
use Rattle.clap.specs.Lexer.{long_of, name_and_value, short_of}
use Rattle.clap.specs.Walk.{Held, Row, Rule, Text, arg_by_long, arg_by_short}
use Rattle.clap.specs.Faults.{bundle_step_fault, flag_word_fault, flags_fault, long_fault, short_fault}
use Rattle.clap.specs.declared.error.kind.ErrorKind.{ErrorKind}
use Rattle.clap.specs.declared.error.kind.ErrorKind.TheVariants.{UnknownArgument}
use Rattle.command_line.specs.Words.{begins_above_zero, is_name, merge_at_is}

abbrev pub held : List Row → Option (Text × List Text) → Held
held rows pending = record { rows = rows; pending = pending; skip = 0 }

-- there are no options but `--merge-at` and `--strict`, if there are these, and `--strict` has no value
pub record HasOptions (c : List Rule) : Type 0 where
  pub short : (x : ℕ) → arg_by_short c x ≡ None
  pub long : (name : Text) → bytes_eq (codes "merge-at") name ≡ false → bytes_eq (codes "strict") name ≡ false
      → arg_by_long c name ≡ None
  pub kind : ErrorKind
  pub valued : (value : Text) (h : Held) → long_fault c false (arg_by_long c (codes "strict")) (Some value) h ≡ kind ∷ []

-- the word is neither `--` nor one of the options
pub record IsOther (word : Text) : Type 0 where
  pub end : bytes_eq word (codes "--") ≡ false
  pub option : bytes_eq word (codes "--merge-at") ≡ false
  pub says : starts_with nat_eq word merge_at_is ≡ false
  pub flag : bytes_eq word (codes "--strict") ≡ false

pub record IsNameWord (word : Text) : Type 0 where
  pub other : IsOther word
  pub is : is_name word ≡ true
  pub long : long_of word ≡ None
  pub short : short_of word ≡ None

-- an argument that the command does not take
pub record IsStray (c : List Rule) (word : Text) : Type 0 where
  pub other : IsOther word
  pub is : is_name word ≡ false
  pub low : begins_above_zero word ≡ false
  pub kind : ErrorKind
  pub fault : (rows : List Row) (pending : Option (Text × List Text))
      → flag_word_fault c false (long_of word) word (held rows pending) ≡ kind ∷ []

pub data Meaning (c : List Rule) (word : Text) : Type 0 where
  ends : word ≡ codes "--" → Meaning c word
  asks : word ≡ codes "--merge-at" → Meaning c word
  says : (value : Text) → word ≡ merge_at_is ++ value → Meaning c word
  flags : word ≡ codes "--strict" → Meaning c word
  stray : IsStray c word → Meaning c word
  naming : IsNameWord word → Meaning c word

same_text : (a b : Text) → bytes_eq a b ≡ true → a ≡ b
same_text a b = (bytes_eq-Decides a b).0

abbrev is_equals : ℕ → Bool
is_equals x = x == 61

-- a text of which this stands before `=`
before_equals : (name t : Text) → name ≡ before_first is_equals t → (t ≡ name) ⊎ ((v : Text) × (t ≡ name ++ 61 ∷ v))
before_equals name t is = go (cases_lt (position_or_len is_equals t) (length t))
  where
    go : (position_or_len is_equals t < length t) ⊎ (length t ≤ position_or_len is_equals t)
        → (t ≡ name) ⊎ ((v : Text) × (t ≡ name ++ 61 ∷ v))
    go (inl inside) =
        let at : get_or t (position_or_len is_equals t) 0 ≡ 61 = grind (arith, passes_at_first is_equals t 0 inside) in
        inr (
          after_first is_equals t,
          split_at_first is_equals t 0 inside
              ∙ (λ i. sym is i ++ (at i ∷ after_first is_equals t)),
        )
    go (inr past) = inl (sym (is ∙ take_all (position_or_len is_equals t) t past))

first_char : (d : ℕ) (rest : Text) → IsUtf8 (45 ∷ d ∷ rest) → (x : ℕ) × (slice_get (chars (d ∷ rest)) 0 ≡ Some x)
first_char d rest utf8 =
    let cut = IsCharBoundary-after_ascii (45 ∷ d ∷ rest) 0 utf8 (omega arith) (omega arith) in
    let behind : IsUtf8 (d ∷ rest) = IsUtf8-drop (45 ∷ d ∷ rest) 1 utf8 cut in
    go behind.0 behind.1.1 (chars-encodes behind.0 behind.1.0)
  where
    go : (cs : List ℕ) → Rattle.std.specs.Str.encode_utf8_all cs ≡ d ∷ rest → chars (Rattle.std.specs.Str.encode_utf8_all cs) ≡ cs
        → (x : ℕ) × (slice_get (chars (d ∷ rest)) 0 ≡ Some x)
    go [] spelt back = absurd (cc)
    go (x ∷ xs) spelt back = (x, ap (λ t. slice_get (chars t) 0) (sym spelt) ∙ ap (λ t. slice_get t 0) back)

module _ (c : List Rule) (options : HasOptions c) where
  -- `--strict=` and more
  valued_flag : (v : Text) → IsOther (codes "--strict=" ++ v) → Meaning c (codes "--strict=" ++ v)
  valued_flag v other = stray (record {
    other = other;
    is = refl;
    low = refl;
    kind = options.kind;
    fault = λ rows pending. options.valued v (held rows pending);
  })

  -- `--` and more
  two_dashes : (x : ℕ) (xs : Text) → IsOther (45 ∷ 45 ∷ x ∷ xs) → Meaning c (45 ∷ 45 ∷ x ∷ xs)
  two_dashes x xs other = go (bytes_eq (codes "merge-at") (before_first is_equals (x ∷ xs))) refl
    where
      not_it : (x ∷ xs ≡ codes "merge-at") ⊎ ((v : Text) × (x ∷ xs ≡ codes "merge-at" ++ 61 ∷ v)) → ⊥
      not_it (inl e) = true≢false (sym (ap (λ t. bytes_eq (45 ∷ 45 ∷ t) (codes "--merge-at")) e) ∙ other.option)
      not_it (inr h) = true≢false (sym (ap (λ t. starts_with nat_eq (45 ∷ 45 ∷ t) merge_at_is) h.1) ∙ other.says)

      at_flag : (x ∷ xs ≡ codes "strict") ⊎ ((v : Text) × (x ∷ xs ≡ codes "strict" ++ 61 ∷ v)) → Meaning c (45 ∷ 45 ∷ x ∷ xs)
      at_flag (inl e) = absurd (true≢false (sym (ap (λ t. bytes_eq (45 ∷ 45 ∷ t) (codes "--strict")) e) ∙ other.flag))
      at_flag (inr h) =
          subst (λ t. IsOther (45 ∷ 45 ∷ t) → Meaning c (45 ∷ 45 ∷ t)) (sym h.1) (valued_flag h.0) other

      go_on : bytes_eq (codes "merge-at") (before_first is_equals (x ∷ xs)) ≡ false
          → (b : Bool) → bytes_eq (codes "strict") (before_first is_equals (x ∷ xs)) ≡ b → Meaning c (45 ∷ 45 ∷ x ∷ xs)
      go_on e true f = at_flag (before_equals (codes "strict") (x ∷ xs) (same_text _ _ f))
      go_on e false f = stray (record {
        other = other;
        is = refl;
        low = refl;
        kind = UnknownArgument;
        fault = λ rows pending.
            ap (λ o. long_fault c false o (name_and_value (x ∷ xs)).1 (held rows pending))
            (options.long (before_first is_equals (x ∷ xs)) e f);
      })

      go : (b : Bool) → bytes_eq (codes "merge-at") (before_first is_equals (x ∷ xs)) ≡ b → Meaning c (45 ∷ 45 ∷ x ∷ xs)
      go true e = absurd (not_it (before_equals (codes "merge-at") (x ∷ xs) (same_text _ _ e)))
      go false e = go_on e (bytes_eq (codes "strict") (before_first is_equals (x ∷ xs))) refl

  -- one dash and more
  one_dash : (d : ℕ) (rest : Text) → d == 45 ≡ false → IsUtf8 (45 ∷ d ∷ rest) → IsOther (45 ∷ d ∷ rest) → Meaning c (45 ∷ d ∷ rest)
  unfolding flags_fault
  one_dash d rest no_dash utf8 other =
      let first = first_char d rest utf8 in
      let fault : (rows : List Row) (pending : Option (Text × List Text))
      → flags_fault c false (length (d ∷ rest)) (d ∷ rest) 0 (held rows pending) ≡ UnknownArgument ∷ [] =
      λ rows pending.
      ap (λ o. bundle_step_fault c false o (d ∷ rest) 0 (held rows pending) (flags_fault c false (length rest))) first.1
      ∙ ap (λ o. let behind = drop (length (encode_utf8 first.0)) (d ∷ rest) in
      short_fault c false o behind (held rows pending) (flags_fault c false (length rest) behind 0)) (options.short first.0) in
      stray (record {
        other = other;
        is = refl;
        low = refl;
        kind = UnknownArgument;
        fault = λ rows pending. rw (no_dash, no_dash) (fault rows pending);
      })

  at_dash : (d : ℕ) (rest : Text) → IsUtf8 (45 ∷ d ∷ rest) → IsOther (45 ∷ d ∷ rest) → Meaning c (45 ∷ d ∷ rest)
  at_dash d rest utf8 other = go (d == 45) refl rest utf8 other
    where
      at_two : (d : ℕ) (rest : Text) → d ≡ 45 → IsOther (45 ∷ d ∷ rest) → Meaning c (45 ∷ d ∷ rest)
      at_two d [] is other = absurd (true≢false (sym (ap (λ x. bytes_eq (45 ∷ x ∷ []) (codes "--")) is) ∙ other.end))
      at_two d (x ∷ xs) is other =
          subst (λ y. IsOther (45 ∷ y ∷ x ∷ xs) → Meaning c (45 ∷ y ∷ x ∷ xs)) (sym is) (two_dashes x xs) other

      go : (b : Bool) → d == 45 ≡ b → (rest : Text) → IsUtf8 (45 ∷ d ∷ rest) → IsOther (45 ∷ d ∷ rest) → Meaning c (45 ∷ d ∷ rest)
      go true e rest utf8 other = at_two d rest (grind arith) other
      go false e rest utf8 other = one_dash d rest e utf8 other

  meaning_of_other : (word : Text) → IsUtf8 word → IsOther word → Meaning c word
  meaning_of_other [] utf8 other = naming (record { other = other; is = refl; long = refl; short = refl })
  meaning_of_other (x ∷ []) utf8 other = go (x == 45) refl
    where
      go : (b : Bool) → x == 45 ≡ b → Meaning c (x ∷ [])
      go true e = naming (record { other = other; is = refl; long = rw e refl; short = rw e refl })
      go false e = naming (record { other = other; is = refl; long = rw e refl; short = rw e refl })
  meaning_of_other (x ∷ d ∷ rest) utf8 other = go (x == 45) refl
    where
      go : (b : Bool) → x == 45 ≡ b → Meaning c (x ∷ d ∷ rest)
      go true e =
          let dash : x ≡ 45 = grind arith in
          subst (λ y. IsUtf8 (y ∷ d ∷ rest) → IsOther (y ∷ d ∷ rest) → Meaning c (y ∷ d ∷ rest)) (sym dash) (at_dash d rest) utf8 other
      go false e = naming (record { other = other; is = rw e refl; long = rw e refl; short = rw e refl })

  pub meaning_of : (word : Text) → IsUtf8 word → Meaning c word
  meaning_of word utf8 = at_end (bytes_eq word (codes "--")) refl
    where
      at_flag : bytes_eq word (codes "--") ≡ false → bytes_eq word (codes "--merge-at") ≡ false → starts_with nat_eq word merge_at_is ≡ false
          → (b : Bool) → bytes_eq word (codes "--strict") ≡ b → Meaning c word
      at_flag e f g true h = flags (same_text word (codes "--strict") h)
      at_flag e f g false h = meaning_of_other word utf8 (record { end = e; option = f; says = g; flag = h })

      at_says : bytes_eq word (codes "--") ≡ false → bytes_eq word (codes "--merge-at") ≡ false
          → (b : Bool) → starts_with nat_eq word merge_at_is ≡ b → Meaning c word
      at_says e f true g = says (drop 11 word)
          (sym (take-append-drop 11 word) ∙ ap (λ t. t ++ drop 11 word) (sym (same_text merge_at_is (take 11 word) g)))
      at_says e f false g = at_flag e f g (bytes_eq word (codes "--strict")) refl

      at_option : bytes_eq word (codes "--") ≡ false → (b : Bool) → bytes_eq word (codes "--merge-at") ≡ b → Meaning c word
      at_option e true f = asks (same_text word (codes "--merge-at") f)
      at_option e false f = at_says e f (starts_with nat_eq word merge_at_is) refl

      at_end : (b : Bool) → bytes_eq word (codes "--") ≡ b → Meaning c word
      at_end true e = ends (same_text word (codes "--") e)
      at_end false e = at_option e (bytes_eq word (codes "--merge-at")) refl

-- each word is a text
abbrev pub AreTexts : List Text → Type 0
AreTexts [] = Unit {0}
AreTexts (word ∷ words) = IsUtf8 word × AreTexts words

pub are_texts : {Z : Type 0} (words : List (String Z)) → AreTexts (map string_bytes words)
are_texts [] = tt
are_texts (word ∷ words) = (IsUtf8-string_bytes word, are_texts words)
