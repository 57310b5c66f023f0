-- What a form is, without where it lies in a text.
-- A map's pairs and a set's members are in the order of their text.
-- EDN, edn-format: "Built-in elements" and "Built-in tagged elements".
use Rattle.std.specs.Prelude.{ℕ, ℤ, Bool, List, [], ◌∷◌}

mutual
  pub data Form : Type 0 where
    nil : Form
    boolean : Bool → Form
    integer : ℤ → Form
    -- the bytes of a text in UTF-8, its escapes read
    string : List ℕ → Form
    symbol : List ℕ → Form
    -- without the colon
    keyword : List ℕ → Form
    list : Forms → Form
    vector : Forms → Form
    map : Pairs → Form
    set : Forms → Form
    -- milliseconds from 1970-01-01T00:00:00Z
    instant : ℤ → Form
    uuid : ℕ → Form

  pub data Forms : Type 0 where
    no_forms : Forms
    form : Form → Forms → Forms

  pub data Pairs : Type 0 where
    no_pairs : Pairs
    pair : Form → Form → Pairs → Pairs

-- the forms of a list, and after them those that follow
abbrev pub prepend : List Form → Forms → Forms
prepend [] after = after
prepend (f ∷ fs) after = form f (prepend fs after)

abbrev pub forms : List Form → Forms
forms fs = prepend fs no_forms

abbrev pub pairs : List (Form × Form) → Pairs
pairs [] = no_pairs
pairs (p ∷ ps) = pair p.0 p.1 (pairs ps)

-- the members as a list
abbrev pub items : Forms → List Form
items no_forms = []
items (form f fs) = f ∷ items fs

-- the forms, and one after them
abbrev pub with_last : Forms → Form → Forms
with_last no_forms g = form g no_forms
with_last (form f fs) g = form f (with_last fs g)

abbrev pub with_last_pair : Pairs → Form → Form → Pairs
with_last_pair no_pairs k v = pair k v no_pairs
with_last_pair (pair l w ps) k v = pair l w (with_last_pair ps k v)
