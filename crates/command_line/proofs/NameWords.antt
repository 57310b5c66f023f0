-- `clap` reads of the words behind `check` and `load` what the definition says.
use Rattle.std.proofs.Common.{◌≡◌, ◌∙◌, ℕ, ◌&&◌, Bool, true, false, refl, sym, ap, List, [], ◌∷◌, Option, Some, None, codes}
use Rattle.std.specs.Prelude.{option_and_then}
use Rattle.std.specs.Str.{bytes_eq}
use Rattle.clap.specs.Walk.{Row, Rule, Text, Walk, idle, nothing_held, walked}
use Rattle.clap.specs.Simple.{Shape, built, matches_of}
use Rattle.clap.specs.Kinds.{Kinds}
use Rattle.clap.specs.Faults.{defaults_fault, turn_fault, walk_fault}
use Rattle.clap.specs.declared.error.kind.ErrorKind.{ErrorKind}
use Rattle.clap.specs.declared.error.kind.ErrorKind.TheVariants.{UnknownArgument}
use Rattle.clap.proofs.FaultLemmas.{leaf_fault}
use Rattle.command_line.specs.Words.{one_name, is_name}
use Rattle.command_line.specs.ByClap.{name_app, name_parsed, parsed, without_fault}
use Rattle.command_line.proofs.Dashes.{AreTexts, IsNameWord}
use Rattle.command_line.proofs.NoOptions.{HasNoOption, IsUnknown, Kind, ending, kind_of, name, unknown}
use Rattle.command_line.proofs.Walks.{first_fails, walk_at}
use Rattle.command_line.proofs.Walks as walks

abbrev shape : Shape
shape = (built name_app).top

abbrev rules : List Rule
rules = shape.rules

no_option : HasNoOption rules
no_option = record { short = λ x. refl; long = λ name. refl }

abbrev outcome : Walk → List Text → Option Text
outcome = walks.outcome shape name_parsed

abbrev turn : Walk → Text → Kinds
turn = turn_fault shape []

abbrev step : Walk → Text → Walk
step = walked rules []

passes : (w after : Walk) (word : Text) (words : List Text) → turn w word ≡ [] → step w word ≡ after
    → outcome w (word ∷ words) ≡ outcome after words
passes = walks.passes shape name_parsed

fails : (w : Walk) (word : Text) (words : List Text) (k : ErrorKind) → turn w word ≡ k ∷ [] → outcome w (word ∷ words) ≡ None
fails w word words k = walks.fails shape name_parsed w word words k []

-- with no name yet, and with one
abbrev fresh : Bool → Walk
fresh = walk_at [] None idle 1

abbrev full : Text → Bool → Walk
full directory = walk_at [] (Some (codes "NAME", directory ∷ [])) idle 2

unknown_fails : (word : Text) (rows : List Row) (pending : Option (Text × List Text)) (position : ℕ) (is : IsUnknown rules word)
    → turn (walk_at rows pending idle position false) word ≡ is.kind ∷ []
unknown_fails word rows pending position is = simp is.end (first_fails _ _ _ _ (is.fault rows pending))

name_passes : (word : Text) → IsNameWord word → turn (fresh false) word ≡ []
name_passes word is = simp (is.other.end, is.long, is.short) refl

name_walks : (word : Text) → IsNameWord word → step (fresh false) word ≡ full word false
unfolding walked
name_walks word is = simp (is.other.end, is.long, is.short) refl

second_name : (directory word : Text) → IsNameWord word → turn (full directory false) word ≡ UnknownArgument ∷ []
second_name directory word is = simp (is.other.end, is.long, is.short) refl

end_walks : step (fresh false) (codes "--") ≡ fresh true
unfolding walked
end_walks = refl

end_walks_full : (directory : Text) → step (full directory false) (codes "--") ≡ full directory true
unfolding walked
end_walks_full directory = refl

behind_walks : (word : Text) → step (fresh true) word ≡ full word true
unfolding walked
behind_walks word = refl

at_end : (directory : Text) (is_trailing : Bool) → outcome (full directory is_trailing) [] ≡ Some directory
unfolding walk_fault defaults_fault
at_end directory is_trailing = refl

nothing : (is_trailing : Bool) → outcome (fresh is_trailing) [] ≡ None
unfolding walk_fault defaults_fault
nothing is_trailing = refl

no_more : (directory word : Text) (words : List Text) → outcome (full directory true) (word ∷ words) ≡ None
no_more directory word words = fails (full directory true) word words UnknownArgument refl

behind : (words : List Text) → outcome (fresh true) words ≡ one_name (codes "--" ∷ words)
behind [] = nothing true
behind (word ∷ []) = passes (fresh true) (full word true) word [] refl (behind_walks word) ∙ at_end word true
behind (word ∷ other ∷ words) =
    passes (fresh true) (full word true) word (other ∷ words) refl (behind_walks word) ∙ no_more word other words

-- what the definition refuses
not_both : (b : Bool) → (b && false) ≡ false
not_both true = refl
not_both false = refl

unknown_is_none : (word : Text) (words : List Text) → IsUnknown rules word → one_name (word ∷ words) ≡ None
unknown_is_none word [] is = rw is.is refl
unknown_is_none word (other ∷ []) is =
    let none : (bytes_eq other (codes "--") && is_name word) ≡ false = rw is.is (not_both (bytes_eq other (codes "--"))) in
    rw (is.end, none) refl
unknown_is_none word (other ∷ x ∷ words) is = refl

two_are_none : (word other : Text) (words : List Text) → IsNameWord word → bytes_eq other (codes "--") ≡ false
    → one_name (word ∷ other ∷ words) ≡ None
two_are_none word other [] is e = rw (is.other.end, e) refl
two_are_none word other (x ∷ words) is e = refl

behind_name : (directory : Text) (words : List Text) → IsNameWord directory
    → outcome (full directory true) words ≡ one_name (directory ∷ codes "--" ∷ words)
behind_name directory [] is = at_end directory true ∙ rw (is.other.end, is.is) refl
behind_name directory (word ∷ words) is = no_more directory word words

after_name : (directory word : Text) (words : List Text) → IsNameWord directory → Kind rules word
    → outcome (full directory false) (word ∷ words) ≡ one_name (directory ∷ word ∷ words)
after_name directory word words is (ending e) =
    ap (λ w. outcome (full directory false) (w ∷ words)) e
    ∙ passes (full directory false) (full directory true) (codes "--") words refl (end_walks_full directory)
    ∙ behind_name directory words is ∙ sym (ap (λ w. one_name (directory ∷ w ∷ words)) e)
after_name directory word words is (unknown u) =
    fails (full directory false) word words u.kind (unknown_fails word _ _ 2 u) ∙ sym (two_are_none directory word words is u.end)
after_name directory word words is (name n) =
    fails (full directory false) word words UnknownArgument (second_name directory word n)
    ∙ sym (two_are_none directory word words is n.other.end)

named : (directory : Text) (words : List Text) → IsNameWord directory → AreTexts words
    → outcome (full directory false) words ≡ one_name (directory ∷ words)
named directory [] is texts = at_end directory false ∙ rw is.is refl
named directory (word ∷ words) is texts = after_name directory word words is (kind_of rules no_option word texts.0)

first : (word : Text) (words : List Text) → AreTexts words → Kind rules word → outcome (fresh false) (word ∷ words) ≡ one_name (word ∷ words)
first word words texts (ending e) =
    ap (λ w. outcome (fresh false) (w ∷ words)) e ∙ passes (fresh false) (fresh true) (codes "--") words refl end_walks ∙ behind words
    ∙ sym (ap (λ w. one_name (w ∷ words)) e)
first word words texts (unknown u) =
    fails (fresh false) word words u.kind (unknown_fails word _ _ 1 u) ∙ sym (unknown_is_none word words u)
first word words texts (name n) =
    passes (fresh false) (full word false) word words (name_passes word n) (name_walks word n) ∙ named word words n texts

all : (words : List Text) → AreTexts words → outcome (fresh false) words ≡ one_name words
all [] texts = nothing false
all (word ∷ words) texts = first word words texts.1 (kind_of rules no_option word texts.0)

pub name_words : (words : List Text) → AreTexts words → option_and_then name_parsed (parsed name_app words) ≡ one_name words
name_words words texts =
    ap (λ k. option_and_then name_parsed (without_fault k (matches_of name_app words)))
    (leaf_fault (built name_app) nothing_held words refl)
    ∙ all words texts
