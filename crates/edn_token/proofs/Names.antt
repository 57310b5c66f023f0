-- Names, and texts parted where the bytes of a name end.
use Rattle.std.proofs.Common.{◌≡◌, ◌⊎◌, ℕ, true, false, List, [], ◌∷◌, ◌++◌, length, refl, ap, ◌∙◌, sym, subst, arith, inl, inr, IsTrue}
use Rattle.std.proofs.lemmas.List.{append-nil}
use Rattle.edn_model.specs.Runs.{Each, IsRun}
use Rattle.edn_model.specs.Bytes.{slash, is_name_byte}
use Rattle.edn_model.specs.Tokens.{IsName, IsKeywordName, Joined, begins_keyword}
use Rattle.edn_model.proofs.Runs.{Each-tail, one_run, tails, heads}

pub name_bytes : (bytes : List ℕ) → IsName bytes → Each is_name_byte bytes
name_bytes bytes h = h.1

pub keyword_name_bytes : (bytes : List ℕ) → IsKeywordName bytes → Each is_name_byte bytes
keyword_name_bytes bytes h = h.0.1

each_behind : (a c : List ℕ) → Each is_name_byte (a ++ c) → Each is_name_byte c
each_behind [] c h = h
each_behind (b ∷ a) c h = each_behind a c (Each-tail is_name_byte b (a ++ c) h).1

-- a byte inside names is one of theirs
inside_name : (first second text : List ℕ) (b : ℕ) → Each is_name_byte text → text ≡ first ++ b ∷ second → is_name_byte b ≡ true
inside_name first second text b each is =
    (Each-tail is_name_byte b second (each_behind first (b ∷ second) (subst (Each is_name_byte) is each))).0

slash_inside : (first second text : List ℕ) → Each is_name_byte text → text ≡ first ++ slash ∷ second → ⊥
slash_inside first second text each is =
    let passes = inside_name first second text slash each is in
    let fails : is_name_byte slash ≡ false = refl in
    cc

pub whole_run : (text first rest : List ℕ) → IsRun is_name_byte text first rest → length rest ≡ 0 → text ≡ first
whole_run text first [] run none = run.is ∙ append-nil first
whole_run text first (b ∷ rest) run none = absurd (omega arith)

pub parted : (text first rest second : List ℕ) (b : ℕ) → IsRun is_name_byte text first rest → rest ≡ b ∷ second → text ≡ first ++ b ∷ second
parted text first rest second b run e = run.is ∙ ap (λ z. first ++ z) e

stops_there : (text first rest second : List ℕ) (b : ℕ) → IsRun is_name_byte text first rest → rest ≡ b ∷ second → is_name_byte b ≡ false
stops_there text first [] second b run e = absurd cc
stops_there text first (c ∷ rest) second b run e = ap is_name_byte (heads (sym e)) ∙ run.stops

module _ (Name : List ℕ → Type 0) (bytes_of : (bytes : List ℕ) → Name bytes → Each is_name_byte bytes) where
  -- a text of a name's bytes is not two names
  pub one_name : (text first rest : List ℕ) → IsRun is_name_byte text first rest → length rest ≡ 0 → Name text ⊎ Joined Name Name text
      → Name first
  one_name text first rest run none (inl one) = subst Name (whole_run text first rest run none) one
  one_name text first rest run none (inr two) =
      absurd (slash_inside two.0 two.1 first run.each (sym (whole_run text first rest run none) ∙ two.2))

  -- where a slash ends the bytes of a name, a text is two names as it is parted there
  pub two_names : (text first rest second : List ℕ) (b : ℕ) → IsRun is_name_byte text first rest → rest ≡ b ∷ second → b ≡ slash
      → Name text ⊎ Joined Name Name text → Name first × Name second
  two_names text first rest second b run e same (inl one) =
      absurd
      (slash_inside first second text (bytes_of text one) (parted text first rest second b run e ∙ ap (λ z. first ++ z ∷ second) same))
  two_names text first rest second b run e same (inr two) =
      let is = parted text first rest second b run e ∙ ap (λ z. first ++ z ∷ second) same in
      let one =
      one_run is_name_byte two.0 first (slash ∷ two.1) (slash ∷ second) (bytes_of two.0 two.3) run.each refl refl (sym two.2 ∙ is) in
      (subst Name one.0 two.3, subst Name (tails one.1) two.4)

  -- where another byte does, it is no name and no two
  pub no_names : (text first rest second : List ℕ) (b : ℕ) → IsRun is_name_byte text first rest → rest ≡ b ∷ second → (b ≡ slash → ⊥)
      → Name text ⊎ Joined Name Name text → ⊥
  no_names text first rest second b run e other (inl one) =
      let passes = inside_name first second text b (bytes_of text one) (parted text first rest second b run e) in
      let fails = stops_there text first rest second b run e in
      cc
  no_names text first rest second b run e other (inr two) =
      let fails = stops_there text first rest second b run e in
      let one =
      one_run is_name_byte two.0 first (slash ∷ two.1) (b ∷ second) (bytes_of two.0 two.3) run.each refl fails
      (sym two.2 ∙ parted text first rest second b run e) in
      other (sym (heads one.1))

-- what begins a keyword's name is not empty
pub begun_name : (bytes : List ℕ) → Each is_name_byte bytes → IsTrue (begins_keyword bytes) → IsKeywordName bytes
begun_name [] each h = absurd (let wrong = h in cc)
begun_name (b ∷ bytes) each h = ((omega arith, each), h)
