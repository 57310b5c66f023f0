-- White space and comments at the front of some bytes.
-- EDN, edn-format: "General considerations", "Comments".
use Rattle.std.specs.Prelude.{◌≡◌, ◌≢◌, ℕ, ◌<◌, ◌≤◌, true, false, IsUtf8, Result, Ok, Err, List, []}
use Rattle.std.specs.Prelude.{◌∷◌, ◌++◌, length, drop}
use Rattle.edn_model.specs.Bytes.{semicolon, is_blank, is_line_byte, Each, NoCharacter}
use Rattle.edn_model.specs.Grammar.{CommentAt, LastComment}

-- from one place to a later one: a gap without discards
pub data Blanks : List ℕ → List ℕ → Type 0 where
  no_blanks : {here : List ℕ} → Blanks here here
  blank : {b : ℕ} {here rest : List ℕ} → is_blank b ≡ true → Blanks here rest
      → Blanks (b ∷ here) rest
  comment : {here after rest : List ℕ} → CommentAt here after → Blanks after rest
      → Blanks here rest
  last_comment : {here : List ℕ} → LastComment here → Blanks here []

-- neither white space nor a comment is here
abbrev pub GoesNoFurther : List ℕ → Type 0
GoesNoFurther [] = Unit {0}
GoesNoFurther (b ∷ bytes) = (is_blank b ≡ false) × (b ≢ semicolon)

-- a comment, and in it a byte with which no character begins
pub record BrokenComment (here place : List ℕ) : Type 0 where
  pub text : List ℕ
  pub is : here ≡ semicolon ∷ (text ++ place)
  pub one_line : Each is_line_byte text
  pub utf8 : IsUtf8 text
  pub none : NoCharacter place

-- how far white space and comments go, or where one of the comments is broken
abbrev pub SkippedTo : List ℕ → Result ℕ ℕ → Type 0
SkippedTo here (Ok n) = (n ≤ length here) × Blanks here (drop n here) × GoesNoFurther (drop n here)
SkippedTo here (Err n) =
    (n < length here)
    × ((comment : List ℕ) × Blanks here comment × BrokenComment comment (drop n here))

-- where a comment ends whose semicolon is before these bytes, or where it is broken
abbrev pub LineIs : List ℕ → Result ℕ ℕ → Type 0
LineIs line (Ok n) = (n ≤ length line) × Blanks (semicolon ∷ line) (drop n line)
LineIs line (Err n) = (n < length line) × BrokenComment (semicolon ∷ line) (drop n line)
