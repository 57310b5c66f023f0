-- Histories for the examples, but for those with people. This project's own choice.
-- User entities are counted in the order in which they are made, attributes among them.
use Rattle.std.specs.Prelude.{ℕ, ◌+◌, ◌-◌, ℤ, pos, ◌+ℤ◌, ◌-ℤ◌, true, List, [], ◌∷◌, ◌++◌, codes}
use Rattle.std.specs.Prelude.{replicate}
use Rattle.edn_model.specs.Form.{Form, boolean, integer}
use Rattle.fb_values.specs.declared.facts.Datom.{Datom}
use Rattle.fb_values.specs.declared.facts.Entry.{Entry}
use Rattle.fb_values.specs.declared.facts.Value.TheVariants.{Str}
use Rattle.fb_numbers.specs.declared.limits.TheConstants.{LONGEST_NAME, MOST_USERS}
use Rattle.fb_numbers.specs.Numbers as numbers
use Rattle.fb_model.specs.FirstEntry.{first_entry}
use Rattle.tx_model.specs.Samples.{keyword, string, vector, map_of, tempid, add, id, doc}
use Rattle.tx_model.specs.Samples.{is_component, type_string, type_long, type_ref, type_symbol}
use Rattle.tx_model.specs.Samples.{type_uri, cardinality_one, cardinality_many, install, after}

-- the built-in attributes, and nothing else
abbrev pub new_database : List Entry
new_database = first_entry ∷ []

-- an empty transaction was accepted
abbrev pub after_an_empty_transaction : List Entry
after_an_empty_transaction = after ([] ∷ [])

-- ---- texts

-- user entity 1 has the text `hi`
abbrev pub one_text : List Entry
one_text = after ((add (tempid (codes "x")) doc (string (codes "hi")) ∷ []) ∷ [])

-- [[:db/add e :db/doc "a"]]
abbrev pub describe : Form → List Form
describe e = add e doc (string (codes "a")) ∷ []

-- a keyword of so many letters
abbrev pub keyword_of_length : ℕ → Form
keyword_of_length n = keyword (replicate n 97)

abbrev pub longest_keyword : Form
longest_keyword = keyword_of_length LONGEST_NAME

abbrev pub too_long_keyword : Form
too_long_keyword = keyword_of_length (LONGEST_NAME + 1)

-- ---- orders with lines that are parts of them, and notes about lines

abbrev pub order_lines : List ℕ
order_lines = codes "order/lines"

abbrev pub line_sku : List ℕ
line_sku = codes "line/sku"

abbrev pub note_line : List ℕ
note_line = codes "note/line"

abbrev pub install_orders : List Form
install_orders =
    install order_lines type_ref cardinality_many ((keyword is_component, boolean true) ∷ [])
    ∷ install line_sku type_string cardinality_one []
    ∷ install note_line type_ref cardinality_one []
    ∷ []

-- `:order/_lines`, by which a line names its order
abbrev pub order_of : List ℕ
order_of = codes "order/_lines"

-- `:line/sku "A"`, in a map
abbrev pub sku_a : Form × Form
sku_a = (keyword line_sku, string (codes "A"))

-- {:line/sku sku}
abbrev pub line : List ℕ → Form
line sku = map_of ((keyword line_sku, string sku) ∷ [])

-- {:db/id name :line/sku sku}
abbrev pub named_line : List ℕ → List ℕ → Form
named_line name sku = map_of ((id, tempid name) ∷ (keyword line_sku, string sku) ∷ [])

-- {:db/id "o" :order/lines [{:line/sku "A"} {:db/id "b" :line/sku "B"}]}
-- {:db/id "n" :note/line "b"}
abbrev pub order_and_note : List Form
order_and_note =
    map_of ((id, tempid (codes "o"))
    ∷ (keyword order_lines, vector (line (codes "A") ∷ named_line (codes "b") (codes "B") ∷ []))
    ∷ [])
    ∷ map_of ((id, tempid (codes "n")) ∷ (keyword note_line, tempid (codes "b")) ∷ [])
    ∷ []

-- the three attributes alone, which are user entities 1 to 3
abbrev pub with_orders_installed : List Entry
with_orders_installed = after (install_orders ∷ [])

-- user entity 4 is an order with the lines 5 and 6, whose skus are A and B, and 7 is a note about 6
abbrev pub order_with_lines : List Entry
order_with_lines = after (install_orders ∷ order_and_note ∷ [])

-- ---- attributes of further types

-- `:u/home`, a uri
abbrev pub home : List ℕ
home = codes "u/home"

abbrev pub install_home : List Form
install_home = install home type_uri cardinality_one [] ∷ []

abbrev pub with_home_installed : List Entry
with_home_installed = after (install_home ∷ [])

-- `:s/is`, a symbol
abbrev pub symbol_attribute : List ℕ
symbol_attribute = codes "s/is"

abbrev pub with_symbol_installed : List Entry
with_symbol_installed = after ((install symbol_attribute type_symbol cardinality_one [] ∷ []) ∷ [])

-- `:x/n`, several numbers
abbrev pub numbers_attribute : List ℕ
numbers_attribute = codes "x/n"

abbrev pub with_numbers_installed : List Entry
with_numbers_installed = after ((install numbers_attribute type_long cardinality_many [] ∷ []) ∷ [])

-- ---- the greatest and the least

abbrev pub past_greatest_long : Form
past_greatest_long = integer (numbers.greatest_long +ℤ pos 1)

abbrev pub before_least_long : Form
before_least_long = integer (numbers.least_long -ℤ pos 1)

-- the first entry as if it were a later one
abbrev first_at : ℕ → ℤ → List Entry
first_at t instant = record { t = t; instant = instant; datoms = first_entry.datoms } ∷ []

-- the greatest t of a transaction has been given
abbrev pub full : List Entry
full = first_at numbers.greatest_t (pos 0)

-- it is left
abbrev pub nearly_full : List Entry
nearly_full = first_at (numbers.greatest_t - 1) (pos 0)

-- the last instant has passed
abbrev pub too_late : List Entry
too_late = first_at 1 numbers.greatest_instant

-- it is left
abbrev pub nearly_late : List Entry
nearly_late = first_at 1 (numbers.greatest_instant -ℤ pos 1)

abbrev pub last_user_entity : ℕ
last_user_entity = numbers.user_entity MOST_USERS

-- the last user entity has a text
abbrev last_text : Datom
last_text =
    record {
      e = last_user_entity;
      a = numbers.doc;
      v = Str (codes "last");
      t = 0;
      added = true;
    }

abbrev pub last_user : List Entry
last_user = record { t = 0; instant = pos 0; datoms = first_entry.datoms ++ last_text ∷ [] } ∷ []
