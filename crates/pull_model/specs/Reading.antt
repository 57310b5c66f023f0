-- Which form is which pattern, and the first item that has no such form.
-- Datomic, Pull (pattern grammar), without its list forms of limit and default and without :xform.
use Rattle.std.specs.Prelude.{ℕ, ◌+◌, pos, Bool, false, ◌&&◌, List, [], ◌∷◌, bytes_eq, codes}
use Rattle.std.specs.Prelude.{if◌then◌else◌, nat_le, is_some, is_none, option_map, option_and_then}
use Rattle.std.specs.Prelude.{ok_or, unwrap_or, Option, Some, None, Result}
use Rattle.edn_model.specs.Form.{Form, nil, integer, string, symbol, keyword, vector, map, Forms}
use Rattle.edn_model.specs.Form.{no_forms, form, Pairs, no_pairs, pair, items}
use Rattle.pull_model.specs.Patterns.{Limit, first, all, Options, no_options, Pattern, no_items}
use Rattle.pull_model.specs.Patterns.{item, Item, wildcard, own, attribute, Below, usual, under}
use Rattle.pull_model.specs.Patterns.{times, unlimited, is_own, one, joined}

-- ---- numbers and names

-- a number of values or of times
abbrev pub greatest_count : ℕ
greatest_count = 2147483647

abbrev pub count_in : Form → Option ℕ
count_in (integer (pos n)) = if nat_le 1 n && nat_le n greatest_count then Some n else None
count_in f = None

abbrev pub is_symbol : List ℕ → Form → Bool
is_symbol text (symbol s) = bytes_eq s text
is_symbol text f = false

-- ---- options: each at most once

pub data OptionName : Type 0 where
  as_name : OptionName
  default_name : OptionName
  limit_name : OptionName

abbrev pub option_name_of : List ℕ → Option OptionName
option_name_of k =
    if bytes_eq k (codes "as") then Some as_name
    else (if bytes_eq k (codes "default") then Some default_name
    else (if bytes_eq k (codes "limit") then Some limit_name else None))

abbrev pub option_name_in : Form → Option OptionName
option_name_in (keyword k) = option_name_of k
option_name_in f = None

abbrev pub key_in : Form → Option Form
key_in (keyword k) = Some (keyword k)
key_in (string s) = Some (string s)
key_in f = None

abbrev pub limit_in : Form → Option Limit
limit_in nil = Some all
limit_in f = option_map first (count_in f)

abbrev pub with_option : Options → Option OptionName → Form → Option Options
with_option options None value = None
with_option options (Some as_name) value =
    if is_none options.renamed
    then option_map (λ (key : Form). record options { renamed = Some key }) (key_in value)
    else None
with_option options (Some default_name) value =
    if is_none options.default then Some (record options { default = Some value }) else None
with_option options (Some limit_name) value =
    if is_none options.limit
    then option_map (λ (limit : Limit). record options { limit = Some limit }) (limit_in value)
    else None

-- names and values in turn
abbrev pub options_from : Options → List Form → Option Options
options_from options [] = Some options
options_from options (name ∷ []) = None
options_from options (name ∷ value ∷ rest) =
    option_and_then (λ more. options_from more rest)
    (with_option options (option_name_in name) value)

-- ---- items

abbrev pub plain_item : List ℕ → Options → Item
plain_item name options = if is_own name then own options else attribute name options usual

-- a name with one option or more
abbrev pub item_with_options : List Form → Option Item
item_with_options (keyword name ∷ option ∷ rest) =
    option_map (plain_item name) (options_from no_options (option ∷ rest))
item_with_options fs = None

-- the key of a map specification: a name, or one with options
abbrev pub specified : Form → Option Item
specified (keyword name) = Some (plain_item name no_options)
specified (vector fs) = item_with_options (items fs)
specified f = None

-- other than `:db/id`
abbrev pub with_below : Below → Item → Option Item
with_below below (attribute name options usual) = Some (attribute name options below)
with_below below i = None

abbrev pub specification : Option Item → Option Below → Option Item
specification key below = option_and_then (λ told. option_and_then (with_below told) key) below

abbrev pub recursion_in : Form → Option Below
recursion_in f = if is_symbol (codes "...") f then Some unlimited else option_map times (count_in f)

-- ---- patterns

abbrev pub both : Option Pattern → Option Pattern → Option Pattern
both (Some before) (Some behind) = Some (joined before behind)
both before behind = None

-- at least one
abbrev pub if_any : Option Pattern → Option Pattern
if_any (Some (item i rest)) = Some (item i rest)
if_any pattern = None

abbrev mutual
  pub pattern_of : Form → Option Pattern
  pattern_of (vector fs) = if_any (items_of fs)
  pattern_of f = None

  pub items_of : Forms → Option Pattern
  items_of no_forms = Some no_items
  items_of (form f fs) = both (item_of f) (items_of fs)

  -- a map is one item for each of its pairs
  pub item_of : Form → Option Pattern
  item_of (keyword name) = Some (one (plain_item name no_options))
  item_of (symbol s) = if bytes_eq s (codes "*") then Some (one wildcard) else None
  item_of (vector fs) = option_map one (item_with_options (items fs))
  item_of (map ps) = if_any (specifications_of ps)
  item_of f = None

  pub specifications_of : Pairs → Option Pattern
  specifications_of no_pairs = Some no_items
  specifications_of (pair key value rest) =
      both (option_map one (specification (specified key) (below_of value)))
      (specifications_of rest)

  pub below_of : Form → Option Below
  below_of (vector fs) = option_map under (if_any (items_of fs))
  below_of f = recursion_in f

-- ---- what is no pattern

abbrev pub first_bad_from : ℕ → Forms → Option ℕ
first_bad_from place no_forms = None
first_bad_from place (form f fs) =
    if is_some (item_of f) then first_bad_from (place + 1) fs else Some place

-- the place of the first item of another form, a map counting once; 0 where the pattern is no
-- vector, or is empty
abbrev pub first_bad_item : Form → Option ℕ
first_bad_item (vector no_forms) = Some 0
first_bad_item (vector fs) = first_bad_from 0 fs
first_bad_item f = Some 0

-- the pattern that the form is, or the place of the first item of another form
abbrev pub pattern_in : Form → Result Pattern ℕ
pattern_in f = ok_or (pattern_of f) (unwrap_or (first_bad_item f) 0)
