-- Patterns of a pull as data: items, each with its options, and what is given of the entities under
-- an attribute.
-- Datomic, Pull (attribute specifications, wildcard, attribute with options, map specifications,
-- recursion).
use Rattle.std.specs.Prelude.{ℕ, zero, suc, ◌-◌, Bool, List, [], ◌∷◌, bytes_eq, codes}
use Rattle.std.specs.Prelude.{if◌then◌else◌, nat_le, Option, None, unwrap_or}
use Rattle.edn_model.specs.Form.{Form, keyword}
use Rattle.fb_model.specs.Words.{underscore, local_name, begins_with_one_of}

-- ---- names, each as the keyword that was written, without its colon

abbrev pub own_name : List ℕ
own_name = codes "db/id"

abbrev pub is_own : List ℕ → Bool
is_own name = bytes_eq name own_name

-- the name begins with `_`: the entities that refer to this one are meant
abbrev pub is_reversed : List ℕ → Bool
is_reversed name = begins_with_one_of (underscore ∷ []) (local_name name)

-- ---- options

-- how many values are given at most
pub data Limit : Type 0 where
  first : ℕ → Limit
  all : Limit

pub record Options : Type 0 where
  -- the key in place of the name: a keyword or a string
  pub renamed : Option Form
  -- what is given where the attribute is absent
  pub default : Option Form
  pub limit : Option Limit

abbrev pub no_options : Options
no_options = record { renamed = None; default = None; limit = None }

-- the limit where none is given
abbrev pub usual_limit : Limit
usual_limit = first 1000

abbrev pub limit_of : Options → Limit
limit_of options = unwrap_or options.limit usual_limit

abbrev pub key_of : List ℕ → Options → Form
key_of name options = unwrap_or options.renamed (keyword name)

-- ---- items

mutual
  -- the items in order
  pub data Pattern : Type 0 where
    no_items : Pattern
    item : Item → Pattern → Pattern

  pub data Item : Type 0 where
    wildcard : Item
    -- `:db/id`
    own : Options → Item
    -- the name of an attribute, forward or reversed
    attribute : List ℕ → Options → Below → Item

  -- what is given of each entity that is found under an attribute
  pub data Below : Type 0 where
    -- its number, or the whole of it where it is a part
    usual : Below
    -- what a pattern says
    under : Pattern → Below
    -- what the pattern that has this item says, this many times at most
    times : ℕ → Below
    -- the same without an end
    unlimited : Below

abbrev pub one : Item → Pattern
one i = item i no_items

abbrev pub joined : Pattern → Pattern → Pattern
joined no_items behind = behind
joined (item i rest) behind = item i (joined rest behind)

-- `[*]`
abbrev pub everything : Pattern
everything = one wildcard

-- ---- recursion

-- an item whose number is used up is left out
abbrev lessened : Item → Pattern → Pattern
lessened (attribute name options (times n)) rest =
    if nat_le n 1 then rest else item (attribute name options (times (n - 1))) rest
lessened i rest = item i rest

-- the pattern with one less for the number of the item at the place
abbrev pub one_less : ℕ → Pattern → Pattern
one_less place no_items = no_items
one_less zero (item i rest) = lessened i rest
one_less (suc n) (item i rest) = item i (one_less n rest)
