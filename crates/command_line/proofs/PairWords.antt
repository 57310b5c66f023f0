-- `clap` reads of the words behind `backup` what the definition says.
use Rattle.std.proofs.Common.{◌≡◌, ◌∙◌, ℕ, ◌&&◌, Bool, true, false, refl, sym, ap, List, [], ◌∷◌, Option, Some, None, codes}
use Rattle.std.specs.Prelude.{option_and_then}
use Rattle.std.specs.Str.{bytes_eq}
use Rattle.clap.specs.Walk.{Row, Rule, Text, Walk, idle, nothing_held, settled_rows, walked}
use Rattle.clap.specs.Simple.{Shape, built, matches_of}
use Rattle.clap.specs.Kinds.{Kinds}
use Rattle.clap.specs.Faults.{defaults_fault, turn_fault, walk_fault}
use Rattle.clap.specs.declared.error.kind.ErrorKind.{ErrorKind}
use Rattle.clap.specs.declared.error.kind.ErrorKind.TheVariants.{UnknownArgument}
use Rattle.clap.proofs.FaultLemmas.{leaf_fault}
use Rattle.command_line.specs.Words.{two_names, is_name}
use Rattle.command_line.specs.ByClap.{pair_app, pair_parsed, parsed, without_fault}
use Rattle.command_line.proofs.Dashes.{AreTexts, IsNameWord}
use Rattle.command_line.proofs.NoOptions.{HasNoOption, IsUnknown, Kind, ending, kind_of, name, unknown}
use Rattle.command_line.proofs.Walks.{first_fails, walk_at}
use Rattle.command_line.proofs.Walks as walks

abbrev Names : Type 0
Names = Option (Text × Text)

abbrev shape : Shape
shape = (built pair_app).top

abbrev rules : List Rule
rules = shape.rules

no_option : HasNoOption rules
no_option = record { short = λ x. refl; long = λ name. refl }

abbrev outcome : Walk → List Text → Names
outcome = walks.outcome shape pair_parsed

abbrev turn : Walk → Text → Kinds
turn = turn_fault shape []

abbrev step : Walk → Text → Walk
step = walked rules []

passes : (w after : Walk) (word : Text) (words : List Text) → turn w word ≡ [] → step w word ≡ after
    → outcome w (word ∷ words) ≡ outcome after words
passes = walks.passes shape pair_parsed

fails : (w : Walk) (word : Text) (words : List Text) (k : ErrorKind) → turn w word ≡ k ∷ [] → outcome w (word ∷ words) ≡ None
fails w word words k = walks.fails shape pair_parsed w word words k []

-- ---- with no name yet, with one, and with both

abbrev fresh : Bool → Walk
fresh = walk_at [] None idle 1

abbrev half : Text → Bool → Walk
half from = walk_at [] (Some (codes "DIR", from ∷ [])) idle 2

-- the row of the first
abbrev first_row : Text → List Row
first_row from = settled_rows rules (Some (codes "DIR", from ∷ [])) []

abbrev full : Text → Text → Bool → Walk
full from to = walk_at (first_row from) (Some (codes "DIR2", to ∷ [])) idle 3

unknown_fails : (word : Text) (rows : List Row) (pending : Option (Text × List Text)) (position : ℕ) (is : IsUnknown rules word)
    → turn (walk_at rows pending idle position false) word ≡ is.kind ∷ []
unknown_fails word rows pending position is = simp is.end (first_fails _ _ _ _ (is.fault rows pending))

-- ---- a word further

module _ (word : Text) (is : IsNameWord word) where
  first_passes : turn (fresh false) word ≡ []
  first_passes = simp (is.other.end, is.long, is.short) refl

  first_walks : step (fresh false) word ≡ half word false
  unfolding walked
  first_walks = simp (is.other.end, is.long, is.short) refl

  second_passes : (from : Text) → turn (half from false) word ≡ []
  second_passes from = simp (is.other.end, is.long, is.short) refl

  second_walks : (from : Text) → step (half from false) word ≡ full from word false
  unfolding walked
  second_walks from = simp (is.other.end, is.long, is.short) refl

  third_fails : (from to : Text) → turn (full from to false) word ≡ UnknownArgument ∷ []
  third_fails from to = simp (is.other.end, is.long, is.short) refl

end_walks : step (fresh false) (codes "--") ≡ fresh true
unfolding walked
end_walks = refl

end_walks_half : (from : Text) → step (half from false) (codes "--") ≡ half from true
unfolding walked
end_walks_half from = refl

end_walks_full : (from to : Text) → step (full from to false) (codes "--") ≡ full from to true
unfolding walked
end_walks_full from to = refl

behind_first : (word : Text) → step (fresh true) word ≡ half word true
unfolding walked
behind_first word = refl

behind_second : (from word : Text) → step (half from true) word ≡ full from word true
unfolding walked
behind_second from word = refl

-- ---- no word further

at_end : (from to : Text) (is_trailing : Bool) → outcome (full from to is_trailing) [] ≡ Some (from, to)
unfolding walk_fault defaults_fault
at_end from to is_trailing = refl

one_alone : (from : Text) (is_trailing : Bool) → outcome (half from is_trailing) [] ≡ None
unfolding walk_fault defaults_fault
one_alone from is_trailing = refl

nothing : (is_trailing : Bool) → outcome (fresh is_trailing) [] ≡ None
unfolding walk_fault defaults_fault
nothing is_trailing = refl

-- ---- what the definition says

not_both : (b : Bool) → (b && false) ≡ false
not_both true = refl
not_both false = refl

module _ (word : Text) (u : IsUnknown rules word) where
  first_unknown : (words : List Text) → two_names (word ∷ words) ≡ None
  first_unknown [] = refl
  first_unknown (other ∷ []) = rw u.is refl
  first_unknown (other ∷ third ∷ []) =
      let second : (bytes_eq other (codes "--") && is_name word) ≡ false = rw u.is (not_both (bytes_eq other (codes "--"))) in
      let last : (bytes_eq third (codes "--") && (is_name word && is_name other)) ≡ false =
      rw u.is (not_both (bytes_eq third (codes "--"))) in
      rw (u.end, second, last) refl
  first_unknown (other ∷ third ∷ x ∷ words) = refl

module _ (from : Text) (f : IsNameWord from) where
  -- the second is no name
  second_unknown : (word : Text) (words : List Text) → IsUnknown rules word → two_names (from ∷ word ∷ words) ≡ None
  second_unknown word [] u =
      let none : (is_name from && is_name word) ≡ false = rw u.is (not_both (is_name from)) in rw none refl
  second_unknown word (third ∷ []) u =
      let both : (is_name from && is_name word) ≡ false = rw u.is (not_both (is_name from)) in
      let last : (bytes_eq third (codes "--") && (is_name from && is_name word)) ≡ false = rw both (not_both (bytes_eq third (codes "--"))) in
      rw (f.other.end, u.end, last) refl
  second_unknown word (third ∷ x ∷ words) u = refl

  module _ (to : Text) (t : IsNameWord to) where
    three_are_none : (third : Text) (words : List Text) → bytes_eq third (codes "--") ≡ false
        → two_names (from ∷ to ∷ third ∷ words) ≡ None
    three_are_none third [] e = rw (f.other.end, t.other.end, e) refl
    three_are_none third (x ∷ words) e = refl

-- ---- behind `--`

no_more : (from to word : Text) (words : List Text) → outcome (full from to true) (word ∷ words) ≡ None
no_more from to word words = fails (full from to true) word words UnknownArgument refl

full_behind : (from to : Text) (words : List Text) → outcome (full from to true) words ≡ two_names (codes "--" ∷ from ∷ to ∷ words)
full_behind from to [] = at_end from to true
full_behind from to (word ∷ words) = no_more from to word words

half_behind : (from : Text) (words : List Text) → outcome (half from true) words ≡ two_names (codes "--" ∷ from ∷ words)
half_behind from [] = one_alone from true
half_behind from (word ∷ words) =
    passes (half from true) (full from word true) word words refl (behind_second from word) ∙ full_behind from word words

fresh_behind : (words : List Text) → outcome (fresh true) words ≡ two_names (codes "--" ∷ words)
fresh_behind [] = nothing true
fresh_behind (word ∷ words) = passes (fresh true) (half word true) word words refl (behind_first word) ∙ half_behind word words

-- ---- behind one name, and behind both

module _ (from : Text) (f : IsNameWord from) where
  -- `--` came behind the first name
  half_ended : (words : List Text) → outcome (half from true) words ≡ two_names (from ∷ codes "--" ∷ words)
  half_ended [] = one_alone from true ∙ rw f.is refl
  half_ended (word ∷ []) =
      passes (half from true) (full from word true) word [] refl (behind_second from word) ∙ at_end from word true
      ∙ rw (f.other.end, f.is) refl
  half_ended (word ∷ x ∷ words) =
      passes (half from true) (full from word true) word (x ∷ words) refl (behind_second from word) ∙ no_more from word x words

  module _ (to : Text) (t : IsNameWord to) where
    full_ended : (words : List Text) → outcome (full from to true) words ≡ two_names (from ∷ to ∷ codes "--" ∷ words)
    full_ended [] = at_end from to true ∙ rw (f.other.end, t.other.end, f.is, t.is) refl
    full_ended (word ∷ words) = no_more from to word words

    after_both : (word : Text) (words : List Text) → Kind rules word
        → outcome (full from to false) (word ∷ words) ≡ two_names (from ∷ to ∷ word ∷ words)
    after_both word words (ending e) =
        ap (λ w. outcome (full from to false) (w ∷ words)) e
        ∙ passes (full from to false) (full from to true) (codes "--") words refl (end_walks_full from to)
        ∙ full_ended words ∙ sym (ap (λ w. two_names (from ∷ to ∷ w ∷ words)) e)
    after_both word words (unknown u) =
        fails (full from to false) word words u.kind (unknown_fails word _ _ 3 u) ∙ sym (three_are_none from f to t word words u.end)
    after_both word words (name n) =
        fails (full from to false) word words UnknownArgument (third_fails word n from to)
        ∙ sym (three_are_none from f to t word words n.other.end)

    both : (words : List Text) → AreTexts words → outcome (full from to false) words ≡ two_names (from ∷ to ∷ words)
    both [] texts = at_end from to false ∙ rw (f.is, t.is) refl
    both (word ∷ words) texts = after_both word words (kind_of rules no_option word texts.0)

  after_one : (word : Text) (words : List Text) → AreTexts words → Kind rules word
      → outcome (half from false) (word ∷ words) ≡ two_names (from ∷ word ∷ words)
  after_one word words texts (ending e) =
      ap (λ w. outcome (half from false) (w ∷ words)) e
      ∙ passes (half from false) (half from true) (codes "--") words refl (end_walks_half from)
      ∙ half_ended words ∙ sym (ap (λ w. two_names (from ∷ w ∷ words)) e)
  after_one word words texts (unknown u) =
      fails (half from false) word words u.kind (unknown_fails word _ _ 2 u) ∙ sym (second_unknown from f word words u)
  after_one word words texts (name n) =
      passes (half from false) (full from word false) word words (second_passes word n from) (second_walks word n from)
      ∙ both word n words texts

  one : (words : List Text) → AreTexts words → outcome (half from false) words ≡ two_names (from ∷ words)
  one [] texts = one_alone from false
  one (word ∷ words) texts = after_one word words texts.1 (kind_of rules no_option word texts.0)

-- ---- from the start

first : (word : Text) (words : List Text) → AreTexts words → Kind rules word → outcome (fresh false) (word ∷ words) ≡ two_names (word ∷ words)
first word words texts (ending e) =
    ap (λ w. outcome (fresh false) (w ∷ words)) e ∙ passes (fresh false) (fresh true) (codes "--") words refl end_walks
    ∙ fresh_behind words ∙ sym (ap (λ w. two_names (w ∷ words)) e)
first word words texts (unknown u) =
    fails (fresh false) word words u.kind (unknown_fails word _ _ 1 u) ∙ sym (first_unknown word u words)
first word words texts (name n) =
    passes (fresh false) (half word false) word words (first_passes word n) (first_walks word n) ∙ one word n words texts

all : (words : List Text) → AreTexts words → outcome (fresh false) words ≡ two_names words
all [] texts = nothing false
all (word ∷ words) texts = first word words texts.1 (kind_of rules no_option word texts.0)

pub pair_words : (words : List Text) → AreTexts words → option_and_then pair_parsed (parsed pair_app words) ≡ two_names words
pair_words words texts =
    ap (λ k. option_and_then pair_parsed (without_fault k (matches_of pair_app words)))
    (leaf_fault (built pair_app) nothing_held words refl)
    ∙ all words texts
