-- Which bytes are a text of which form. Each definition says what a text has from one place up
-- to a later one: here are the bytes from the first place on, and rest those from the later one on.
-- EDN, edn-format: "General considerations",
-- "Lists", "Vectors", "Maps", "Sets", "Tagged elements", "Comments", "Discard".
use Rattle.std.specs.Prelude.{◌≡◌, ℕ, suc, ◌<◌, ◌≤◌, true, IsTrue, IsUtf8, ℤ, List, [], ◌∷◌, ◌++◌}
use Rattle.std.specs.Prelude.{length, drop, codes}
use Rattle.edn_model.specs.Form as form
use Rattle.edn_model.specs.Bytes.{line_feed, hash, open_paren, close_paren, semicolon, open_bracket}
use Rattle.edn_model.specs.Bytes.{close_bracket, underscore, open_brace, close_brace, is_blank}
use Rattle.edn_model.specs.Bytes.{is_line_byte, Each, TokenEnds}
use Rattle.edn_model.specs.Tokens.{IsAtom, StringAt}
use Rattle.edn_model.specs.Instants.{IsInstant}
use Rattle.edn_model.specs.Uuids.{IsUuid}
use Rattle.edn_model.specs.Likeness.{distinct, keys}

-- how many collections and discards may be open at one place
abbrev pub max_depth : ℕ
max_depth = 64

-- a tag: a hash and its name
pub record TagAt (name here rest : List ℕ) : Type 0 where
  pub is : here ≡ hash ∷ (name ++ rest)
  pub ends : TokenEnds rest

-- a comment up to its line feed
pub record CommentAt (here rest : List ℕ) : Type 0 where
  pub text : List ℕ
  pub is : here ≡ semicolon ∷ (text ++ line_feed ∷ rest)
  pub one_line : Each is_line_byte text
  pub utf8 : IsUtf8 text

-- a comment up to the end of the input
pub record LastComment (here : List ℕ) : Type 0 where
  pub text : List ℕ
  pub is : here ≡ semicolon ∷ text
  pub one_line : Each is_line_byte text
  pub utf8 : IsUtf8 text

-- The number says how many collections and discards may still open.
mutual
  -- what may be between forms: white space, comments, and discarded forms
  pub data Gap : ℕ → List ℕ → List ℕ → Type 0 where
    no_gap : {depth : ℕ} {here : List ℕ} → Gap depth here here
    blank : {depth b : ℕ} {here rest : List ℕ} → is_blank b ≡ true → Gap depth here rest
        → Gap depth (b ∷ here) rest
    comment : {depth : ℕ} {here after rest : List ℕ} → CommentAt here after
        → Gap depth after rest → Gap depth here rest
    last_comment : {depth : ℕ} {here : List ℕ} → LastComment here → Gap depth here []
    discard : {depth : ℕ} {f : form.Form} {here inside at after rest : List ℕ}
        → here ≡ hash ∷ underscore ∷ inside → Gap depth inside at
        → Text depth f at after → Gap (suc depth) after rest → Gap (suc depth) here rest

  pub data Text : ℕ → form.Form → List ℕ → List ℕ → Type 0 where
    atom : {depth : ℕ} {f : form.Form} {here rest : List ℕ} → (token : List ℕ) → IsAtom f token
        → here ≡ token ++ rest → TokenEnds rest
        → Text depth f here rest
    string : {depth : ℕ} {s here rest : List ℕ} → StringAt s here rest
        → Text depth (form.string s) here rest
    list : {depth : ℕ} {fs : form.Forms} {here inside rest : List ℕ} → here ≡ open_paren ∷ inside
        → Members depth fs inside (close_paren ∷ rest) → Text (suc depth) (form.list fs) here rest
    vector : {depth : ℕ} {fs : form.Forms} {here inside rest : List ℕ}
        → here ≡ open_bracket ∷ inside
        → Members depth fs inside (close_bracket ∷ rest)
        → Text (suc depth) (form.vector fs) here rest
    map : {depth : ℕ} {ps : form.Pairs} {here inside rest : List ℕ} → here ≡ open_brace ∷ inside
        → Entries depth ps inside (close_brace ∷ rest) → IsTrue (distinct (keys ps))
        → Text (suc depth) (form.map ps) here rest
    set : {depth : ℕ} {fs : form.Forms} {here inside rest : List ℕ}
        → here ≡ hash ∷ open_brace ∷ inside
        → Members depth fs inside (close_brace ∷ rest) → IsTrue (distinct fs)
        → Text (suc depth) (form.set fs) here rest
    instant : {depth : ℕ} {z : ℤ} {s here after at rest : List ℕ}
        → TagAt (codes "inst") here after → Gap depth after at
        → StringAt s at rest → IsInstant z s → Text depth (form.instant z) here rest
    uuid : {depth n : ℕ} {s here after at rest : List ℕ} → TagAt (codes "uuid") here after
        → Gap depth after at
        → StringAt s at rest → IsUuid n s → Text depth (form.uuid n) here rest

  -- forms with gaps round them
  pub data Members : ℕ → form.Forms → List ℕ → List ℕ → Type 0 where
    no_members : {depth : ℕ} {here rest : List ℕ} → Gap depth here rest
        → Members depth form.no_forms here rest
    member : {depth : ℕ} {f : form.Form} {fs : form.Forms} {here at after rest : List ℕ}
        → Gap depth here at → Text depth f at after
        → Members depth fs after rest → Members depth (form.form f fs) here rest

  -- keys, each with its value after it
  pub data Entries : ℕ → form.Pairs → List ℕ → List ℕ → Type 0 where
    no_entries : {depth : ℕ} {here rest : List ℕ} → Gap depth here rest
        → Entries depth form.no_pairs here rest
    entry : {depth : ℕ} {k v : form.Form} {ps : form.Pairs} {here at between to after rest : List ℕ}
        → Gap depth here at → Text depth k at between
        → Gap depth between to → Text depth v to after → Entries depth ps after rest
        → Entries depth (form.pair k v ps) here rest

abbrev pub IsWholeTextOf : form.Form → List ℕ → Type 0
IsWholeTextOf f bytes = Text max_depth f bytes []

-- after a gap there is a text of the form, which ends at next
pub record FormAt (bytes : List ℕ) (at : ℕ) (f : form.Form) (next : ℕ) : Type 0 where
  pub order : (at < next) × (next ≤ length bytes)
  pub start : List ℕ
  pub before : Gap max_depth (drop at bytes) start
  pub text : Text max_depth f start (drop next bytes)

-- white space, comments and discards alone remain
abbrev pub OnlyGap : List ℕ → ℕ → Type 0
OnlyGap bytes at = Gap max_depth (drop at bytes) []
