-- A string, piece by piece.
use Rattle.std.proofs.Common.{◌≡◌, ℕ, ◌+◌, ◌-◌, ◌<◌, ◌≤◌, true, false, List, [], ◌∷◌, ◌++◌, take, drop, length, length-append, length-drop}
use Rattle.std.proofs.Common.{append_assoc, refl, ap, ◌∙◌, sym, subst, arith}
use Rattle.std.proofs.lemmas.Bool.Decides.{nat_tests}
use Rattle.std.proofs.lemmas.Str.{IsUtf8-append, IsUtf8-nil}
use Rattle.std.specs.Prelude.{IsUtf8, encode_utf8}
use Rattle.std.specs.Str.{IsValidUpTo}
use Rattle.edn_model.specs.Runs.{Stops, IsRun}
use Rattle.edn_model.specs.Bytes.{quote, backslash, is_plain, begins}
use Rattle.edn_model.specs.Tokens.{Spells, nothing, plain, escape, code, StringAt}
use Rattle.edn_model.specs.Faults.{Fault, bad, cut, StringFault, no_quote, cut_escape, bad_escape, no_character}
use Rattle.edn_model.proofs.Pieces.{spelled_plain}
use Rattle.edn_token.specs.Strings.{Spelled}
use Rattle.edn_token.proofs.WholeCharacters.{broken, run_back}
use Rattle.edn_token.proofs.Places.{Behind, behind_short, behind_drop_more}

pub spells_then : {here between rest text more : List ℕ} → Spells here text between → Spells between more rest
    → Spells here (text ++ more) rest
spells_then nothing k = k
spells_then (plain p h) k = plain p (spells_then h k)
spells_then (escape is e h) k = escape is e (spells_then h k)
spells_then {more = more} (code {n = n} {text = text} is digits h all) k =
    code is digits (spells_then h k) (ap (λ z. z ++ more) all ∙ append_assoc (encode_utf8 n) text more)

spells_behind : {here text rest : List ℕ} → Spells here text rest → Behind here rest
spells_behind nothing = ([], refl)
spells_behind (plain {b = b} p h) = let more = spells_behind h in (b ∷ more.0, ap (λ z. b ∷ z) more.1)
spells_behind (escape {b = b} is e h) = let more = spells_behind h in (backslash ∷ b ∷ more.0, is ∙ ap (λ z. backslash ∷ b ∷ z) more.1)
spells_behind (code {a = a} {b = b} {c = c} {d = d} is digits h all) =
    let more = spells_behind h in
    (backslash ∷ 117 ∷ a ∷ b ∷ c ∷ d ∷ more.0, is ∙ ap (λ z. backslash ∷ 117 ∷ a ∷ b ∷ c ∷ d ∷ z) more.1)

-- ---- read so far

pub so_far_nothing : (inside : List ℕ) → Spelled inside [] inside
so_far_nothing inside = record { spells = nothing; utf8 = IsUtf8-nil }

pub so_far_then : (inside text between more rest : List ℕ) → Spelled inside text between → Spelled between more rest
    → Spelled inside (text ++ more) rest
so_far_then inside text between more rest h k =
    record { spells = spells_then h.spells k.spells; utf8 = IsUtf8-append text more h.utf8 k.utf8 }

pub so_far_behind : (inside text rest : List ℕ) → Spelled inside text rest → Behind inside rest
so_far_behind inside text rest h = spells_behind h.spells

pub so_far_fault : {inside text rest place : List ℕ} {fault : Fault} → Spelled inside text rest → StringFault rest fault place
    → StringFault inside fault place
so_far_fault {text = text} h (no_quote {text = more} s u) = no_quote (spells_then h.spells s) (IsUtf8-append text more h.utf8 u)
so_far_fault {text = text} h (cut_escape {text = more} s u e) = cut_escape (spells_then h.spells s) (IsUtf8-append text more h.utf8 u) e
so_far_fault {text = text} h (bad_escape {text = more} s u e) = bad_escape (spells_then h.spells s) (IsUtf8-append text more h.utf8 u) e
so_far_fault {text = text} h (no_character {text = more} s u n) = no_character (spells_then h.spells s) (IsUtf8-append text more h.utf8 u) n

-- the quote stands here that ends the string
pub string_there : (inside text rest : List ℕ) → Spelled inside text rest → rest ≡ quote ∷ drop 1 rest
    → (0 < length inside - length rest + 1) × (length inside - length rest + 1 ≤ length inside)
    × StringAt text (quote ∷ inside) (drop (length inside - length rest + 1) inside)
string_there inside text rest h closes =
    let behind = spells_behind h.spells in
    let short = behind_short inside rest behind in
    let some : length rest ≡ length (drop 1 rest) + 1 = omega (arith, ap length closes) in
    let back : drop (length inside - length rest + 1) inside ≡ drop 1 rest = behind_drop_more inside rest 1 behind in (
      omega arith,
      omega arith,
      record {
        inside = inside;
        opens = refl;
        spells = subst (Spells inside text) (closes ∙ ap (λ z. quote ∷ z) (sym back)) h.spells;
        utf8 = h.utf8;
      },
    )

pub string_ends : (inside text : List ℕ) → Spelled inside text [] → StringFault inside cut []
string_ends inside text h = no_quote h.spells h.utf8

-- ---- plain characters

high_in_plain : (b : ℕ) → 128 ≤ b → is_plain b ≡ true
high_in_plain b h = grind (arith, nat_tests)

pub plain_there : (here run rest text : List ℕ) → IsRun is_plain here run rest → text ≡ run → IsUtf8 run
    → Spelled here text (drop (length text) here)
plain_there here run rest text is e utf8 =
    let back : drop (length text) here ≡ rest = ap (λ z. drop (length z) here) e ∙ run_back is_plain here run rest is in
    let spells : Spells here run rest = subst (λ z. Spells z run rest) (sym is.is) (spelled_plain run rest is.each) in
    record {
      spells = subst (Spells here text) (sym back) (subst (λ z. Spells here z rest) (sym e) spells);
      utf8 = subst IsUtf8 (sym e) utf8;
    }

starts_no_run : (here rest : List ℕ) → here ≡ [] ++ rest → Stops is_plain rest → begins is_plain here ≡ true → ⊥
starts_no_run here [] e stops begin = let none : begins is_plain here ≡ false = ap (begins is_plain) e in cc
starts_no_run here (b ∷ rest) e stops begin =
    let same : begins is_plain here ≡ is_plain b = ap (begins is_plain) e in
    let fails : is_plain b ≡ false = stops in
    cc

-- a byte that stands for itself begins a run of some
pub plain_some : (here run rest : List ℕ) → IsRun is_plain here run rest → begins is_plain here ≡ true → 0 < length run
plain_some here [] rest is begin = absurd (starts_no_run here rest is.is is.stops begin)
plain_some here (b ∷ run) rest is begin = omega arith

pub plain_is : (here run rest text : List ℕ) → IsRun is_plain here run rest → begins is_plain here ≡ true → text ≡ run → IsUtf8 run
    → (0 < length text) × (length text ≤ length here) × Spelled here text (drop (length text) here)
plain_is here run rest text is begin e utf8 =
    let some = plain_some here run rest is begin in
    let size = ap length is.is ∙ length-append run rest in
    let same = ap length e in
    (omega arith, omega arith, plain_there here run rest text is e utf8)

pub plain_broken : (here run rest : List ℕ) (n : ℕ) → IsRun is_plain here run rest → IsValidUpTo run n
    → (n < length here) × StringFault here bad (drop n here)
plain_broken here run rest n is valid =
    let stops = broken is_plain high_in_plain here run rest n is valid in
    let spells : Spells (take n here ++ drop n here) (take n here) (drop n here) =
    spelled_plain (take n here) (drop n here) stops.run.each in
    (stops.inside, no_character (subst (λ z. Spells z (take n here) (drop n here)) (sym stops.run.is) spells) stops.run.utf8 stops.none)

-- ---- the string from its pieces

pub piece_fault : (inside text rest : List ℕ) (n : ℕ) → Spelled inside text rest → (n < length rest) × StringFault rest bad (drop n rest)
    → (length inside - length rest + n < length inside) × StringFault inside bad (drop (length inside - length rest + n) inside)
piece_fault inside text rest n h k =
    let behind = spells_behind h.spells in
    let short = behind_short inside rest behind in
    let inside_rest = k.0 in
    (omega arith, subst (StringFault inside bad) (sym (behind_drop_more inside rest n behind)) (so_far_fault h k.1))

-- a string that is one run of characters
pub whole_string : (inside text : List ℕ) → length text ≤ length inside → Spelled inside text (drop (length text) inside)
    → drop (length text) inside ≡ quote ∷ drop 1 (drop (length text) inside)
    → (0 < length text + 1) × (length text + 1 ≤ length inside) × StringAt text (quote ∷ inside) (drop (length text + 1) inside)
whole_string inside text short h closes =
    let rest = drop (length text) inside in
    let same : length inside - length rest + 1 ≡ length text + 1 = omega (arith, length-drop (length text) inside) in
    subst (λ n. (0 < n) × (n ≤ length inside) × StringAt text (quote ∷ inside) (drop n inside)) same
    (string_there inside text rest h closes)

pub string_short : (inside text rest : List ℕ) → Spelled inside text rest → length rest ≤ length inside
string_short inside text rest h = behind_short inside rest (spells_behind h.spells)

-- ---- the front of what is left

pub at_end : (here : List ℕ) → length here ≡ 0 → StringFault here cut []
at_end [] none = no_quote nothing IsUtf8-nil
at_end (b ∷ here) none = absurd (omega arith)

pub quote_there : (here behind : List ℕ) (b : ℕ) → here ≡ b ∷ behind → b ≡ quote → here ≡ quote ∷ drop 1 here
quote_there here behind b is e = is ∙ ap (λ z. z ∷ behind) e ∙ ap (λ z. quote ∷ z) (sym (ap (drop 1) is))

pub plain_begins : (here behind : List ℕ) (b : ℕ) → here ≡ b ∷ behind → is_plain b ≡ true → begins is_plain here ≡ true
plain_begins here behind b is passes = ap (begins is_plain) is ∙ passes

-- ---- with what the code made of it

pub so_far_is : (inside text rest more after whole next : List ℕ) → Spelled inside text rest → Spelled rest more after
    → whole ≡ text ++ more → next ≡ after → Spelled inside whole next
so_far_is inside text rest more after whole next h k is js =
    subst (λ z. Spelled inside z next) (sym is)
    (subst (Spelled inside (text ++ more)) (sym js) (so_far_then inside text rest more after h k))

pub string_is : (inside text rest s : List ℕ) → Spelled inside text rest → rest ≡ quote ∷ drop 1 rest → s ≡ text
    → (0 < length inside - length rest + 1) × (length inside - length rest + 1 ≤ length inside)
    × StringAt s (quote ∷ inside) (drop (length inside - length rest + 1) inside)
string_is inside text rest s h closes is =
    let there = string_there inside text rest h closes in
    (there.0, there.1, subst (λ z. StringAt z (quote ∷ inside) (drop (length inside - length rest + 1) inside)) (sym is) there.2)

pub whole_string_is : (inside text rest s : List ℕ) → length text ≤ length inside → Spelled inside text (drop (length text) inside)
    → rest ≡ drop (length text) inside
    → rest ≡ quote ∷ drop 1 rest → s ≡ text
    → (0 < length text + 1) × (length text + 1 ≤ length inside) × StringAt s (quote ∷ inside) (drop (length text + 1) inside)
whole_string_is inside text rest s short h at closes is =
    let there = whole_string inside text short h (subst (λ z. z ≡ quote ∷ drop 1 z) at closes) in
    (there.0, there.1, subst (λ z. StringAt z (quote ∷ inside) (drop (length text + 1) inside)) (sym is) there.2)
